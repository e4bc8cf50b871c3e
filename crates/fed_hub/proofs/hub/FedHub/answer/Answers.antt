use Rattle.std.proofs.Common.{List, ◌++◌, ◌∷◌, [], sym, ap, ◌∙◌, subst, append-nil, Option, ℕ}
use Rattle.std.specs.Option.{option_copied, option_to_list}
use Rattle.std.specs.Prelude.{IfSome}
use Rattle.std.proofs.lemmas.Result.{on_ok_weaker}
use Rattle.feed_history.specs.KnownPatterns.{known_over}
use Rattle.fed_hub.specs.LineSteps.{HasByte}
use Rattle.fed_hub.proofs.Applying.{applied_row, none_empty_then}
use Rattle.fed_hub.proofs.hub.FedHub.answer.Goals as goal

pub returns-in_ok-from_vec-in-Some-clause-applies : goal.returns-in_ok-from_vec-in-Some-clause-applies
returns-in_ok-from_vec-in-Some-clause-applies g c =
    let answers = c.args.answers.now in
    on_ok_weaker c.add.result (λ adds.
    applied_row c.args.self.now c.take_row.new.self c.args.number (option_copied c.args.row) (known_over g.P.Patterns c.args.patterns.now c.take_row.new.patterns) c.in_ok-item.field-0 answers c.add.new.self c.in_ok-item.ensures.takes
    (adds ∙ ap (λ (text : List ℕ). answers ++ text ∷ []) (c.in_ok-from_vec-in-Some.ensures.ok ∙ c.into_vec.ensures) ∙ sym (ap (λ (i : Option (List ℕ)). answers ++ option_to_list i) c.in-Some.is))) c.add.ensures.ok

pub returns-in_ok-from_vec-in-Some-clause-some : goal.returns-in_ok-from_vec-in-Some-clause-some
returns-in_ok-from_vec-in-Some-clause-some g c =
    let some : HasByte c.in-Some.item = subst (λ (i : Option (List ℕ)). IfSome i HasByte) c.in-Some.is c.in_ok-item.ensures.some in
    on_ok_weaker c.add.result (λ adds none.
    rw adds (none_empty_then c.args.answers.now c.in_ok-from_vec-in-Some.field-0 none (subst HasByte (sym (c.in_ok-from_vec-in-Some.ensures.ok ∙ c.into_vec.ensures)) some))) c.add.ensures.ok

pub returns-in-None-clause-applies : goal.returns-in-None-clause-applies
returns-in-None-clause-applies g c =
    let answers = c.args.answers.now in
    applied_row c.args.self.now c.take_row.new.self c.args.number (option_copied c.args.row) (known_over g.P.Patterns c.args.patterns.now c.take_row.new.patterns) c.in_ok-item.field-0 answers answers c.in_ok-item.ensures.takes
    (sym (ap (λ (i : Option (List ℕ)). answers ++ option_to_list i) c.in-None.is ∙ append-nil answers))
