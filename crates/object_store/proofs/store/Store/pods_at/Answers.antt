use Rattle.std.proofs.Common.{refl, ◌∙◌}
use Rattle.object_store.proofs.SameKeys.{kept_is}
use Rattle.object_store.proofs.store.Store.pods_at.Goals as goal
use Rattle.view_types.specs.declared.mark.Mark.TheVariants.{IpPod}

pub returns : goal.returns
returns c = rw (← c.self.view_is) (λ going. c.pods_at.ensures.value ∙ kept_is c.self.inside.objects c.stand_at_keys.ensures c.self.inside.keys.marked (c.self.invariant.1 going).0 (IpPod c.args.ip) refl c.pods_at.ensures.rise)
