use Rattle.std.proofs.Common.{ap, nat_eq, cond, ◌∙◌}
use Rattle.std.specs.Prelude.{option_map}
use Rattle.feed_history.specs.Ids.{in_place}
use Rattle.subscriptions.specs.Live.{id_of, shown_in_place, showing, sub_at}
use Rattle.subscriptions.proofs.Shown.{are_shown}
use Rattle.subscriptions.proofs.live.Subscriptions.show.Goals as goal

pub invariant_of-self : goal.invariant_of-self
invariant_of-self c = (are_shown c.args.id c.args.view c.self.inside.by_id c.show_at.new.by_id c.self.invariant c.show_at.ensures).by

pub returns-clause-shown : goal.returns-clause-shown
returns-clause-shown c =
    (are_shown c.args.id c.args.view c.self.inside.by_id c.show_at.new.by_id c.self.invariant c.show_at.ensures).placed
    ∙ ap (in_place id_of c.args.id (shown_in_place c.args.view)) c.self.view_is

pub returns-clause-at : goal.returns-clause-at
returns-clause-at c = λ n.
    (are_shown c.args.id c.args.view c.self.inside.by_id c.show_at.new.by_id c.self.invariant c.show_at.ensures).at n
    ∙ ap (λ subs. cond (nat_eq n c.args.id) (option_map (showing c.args.view) (sub_at c.args.id subs)) (sub_at n subs)) c.self.view_is
