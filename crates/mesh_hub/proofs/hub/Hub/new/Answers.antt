use Rattle.std.proofs.Common.{None, refl, subst, sym, ap}
use Rattle.mesh_hub.specs.Greatest.{AreUpTo}
use Rattle.mesh_hub.proofs.hub.Hub.new.Goals as goal

pub invariant_of-result : goal.invariant_of-result
invariant_of-result c = record {
  some_addresses = c.requires;
  room = ap (λ held. held.limit) c.new-3.ensures;
  up_to = subst (AreUpTo None) (sym c.new-4.ensures.subs) refl;
  going = λ _. ap (λ held. held.spent) c.new-3.ensures;
  stands = λ _. c.new-4.ensures.stands c.args.config c.args.limits c.new-3.result.objects (c.in_ok-endpoints.ensures.stands c.new-3.result.objects) (c.in_ok-views.ensures.stands c.new-3.result.objects);
}
