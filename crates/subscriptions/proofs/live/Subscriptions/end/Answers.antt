use Rattle.std.proofs.Common.{None, ap, nat_eq, cond, ◌∙◌}
use Rattle.std.specs.Map.{values_of}
use Rattle.std.specs.Option.{is_some}
use Rattle.feed_history.specs.Ids.{ended, in_place}
use Rattle.subscriptions.specs.Live.{LiveSubscription, id_of, sub_at}
use Rattle.subscriptions.proofs.ById.{found, puts, removed, removed_by}
use Rattle.subscriptions.proofs.live.Subscriptions.end.Goals as goal

pub invariant_of-self : goal.invariant_of-self
invariant_of-self c = rw c.remove.ensures.entries (removed_by id_of c.args.id c.self.inside.by_id.entries c.self.invariant)

pub returns-clause-there : goal.returns-clause-there
returns-clause-there c =
    c.is_some.ensures ∙ ap is_some (c.remove.ensures.value ∙ found id_of c.args.id c.self.inside.by_id.entries c.self.invariant ∙ ap (sub_at c.args.id) c.self.view_is)

pub returns-clause-gone : goal.returns-clause-gone
returns-clause-gone c =
    ap values_of c.remove.ensures.entries
    ∙ removed id_of c.args.id c.self.inside.by_id.entries c.self.invariant
    ∙ ap (in_place id_of c.args.id (ended {S = LiveSubscription})) c.self.view_is

pub returns-clause-at : goal.returns-clause-at
returns-clause-at c = λ n.
    puts id_of c.args.id None c.self.inside.by_id.entries c.remove.new.self.entries c.self.invariant (invariant_of-self c) c.remove.ensures.updates.0 n
    ∙ ap (λ subs. cond (nat_eq n c.args.id) None (sub_at n subs)) c.self.view_is
