use Rattle.std.proofs.Common.{Some, sym, ap, ◌∙◌}
use Rattle.std.specs.Option.{option_copied}
use Rattle.std.proofs.lemmas.Bool.Decides.{same_from_decides}
use Rattle.view_rules.specs.Same.{same_option}
use Rattle.view_diff.proofs.whole.is_shown.Goals as goal

pub returns-in-Some : goal.returns-in-Some
returns-in-Some g c =
    same_from_decides _ _ c.is_same.ensures (g.met.T.Whole.decides c.in-Some.old.now c.args.new.now)
    ∙ ap (λ old. same_option g.T.Whole.same (option_copied old) (Some c.args.new.now)) (sym c.in-Some.is)
