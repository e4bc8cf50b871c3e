use Rattle.std.proofs.Common.{refl, ◌∙◌}
use Rattle.object_store.proofs.SameKeys.{kept_is}
use Rattle.object_store.proofs.store.Store.policies_on.Goals as goal
use Rattle.view_types.specs.declared.mark.Mark.TheVariants.{PolicyOn}

pub returns : goal.returns
returns c = rw (← c.self.view_is) (λ going. c.policies_on.ensures.value ∙ kept_is c.self.inside.objects c.stand_at_keys.ensures c.self.inside.keys.marked (c.self.invariant.1 going).0 (PolicyOn c.args.ns.now c.args.kind c.args.name.now) refl c.policies_on.ensures.rise)
