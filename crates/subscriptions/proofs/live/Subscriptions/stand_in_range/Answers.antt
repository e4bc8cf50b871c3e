use Rattle.std.proofs.Common.{◌^◌, subst}
use Rattle.subscriptions.specs.Live.{AreBelow, id_of}
use Rattle.subscriptions.proofs.ById.{all_in_range}
use Rattle.subscriptions.proofs.live.Subscriptions.stand_in_range.Goals as goal

pub returns : goal.returns
returns c = subst (AreBelow (2 ^ 32)) c.self.view_is (all_in_range id_of c.self.inside.by_id.entries c.self.invariant)
