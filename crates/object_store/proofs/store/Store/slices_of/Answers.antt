use Rattle.std.proofs.Common.{refl, ◌∙◌}
use Rattle.object_store.proofs.SameKeys.{kept_is}
use Rattle.object_store.proofs.store.Store.slices_of.Goals as goal
use Rattle.view_types.specs.declared.mark.Mark.TheVariants.{SlicesOf}

pub returns : goal.returns
returns c = rw (← c.self.view_is) (λ going. c.slices_of.ensures.value ∙ kept_is c.self.inside.objects c.stand_at_keys.ensures c.self.inside.keys.marked (c.self.invariant.1 going).0 (SlicesOf c.args.ns.now c.args.service.now) refl c.slices_of.ensures.rise)
