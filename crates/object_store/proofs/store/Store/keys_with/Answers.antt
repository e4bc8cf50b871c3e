use Rattle.std.proofs.Common.{◌∙◌}
use Rattle.object_store.proofs.SameKeys.{kept_is}
use Rattle.object_store.proofs.store.Store.keys_with.Goals as goal

pub returns : goal.returns
returns c = rw (← c.self.view_is) (λ going. c.at.ensures.value ∙ kept_is c.self.inside.objects c.stand_at_keys.ensures c.self.inside.keys.marked (c.self.invariant.1 going).0 c.args.mark.now c.requires c.at.ensures.rise)
