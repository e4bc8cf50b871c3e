use Rattle.std.proofs.Common.{subst}
use Rattle.subscriptions.specs.Live.{IdsRise}
use Rattle.subscriptions.proofs.ById.{ids_are_keys}
use Rattle.std.specs.List.Sorted.{IsStrictlySortedBy}
use Rattle.std.specs.Ordering.{nat_cmp}
use Rattle.subscriptions.specs.Live.{id_of}
use Rattle.subscriptions.proofs.live.Subscriptions.stand_in_order.Goals as goal

pub returns : goal.returns
returns c =
    subst IdsRise c.self.view_is
    (subst (IsStrictlySortedBy nat_cmp) (ids_are_keys id_of c.self.inside.by_id.entries c.self.invariant) c.len-len.ensures.ordered)
