use Rattle.std.proofs.Common.{◌≡◌, ◌++◌, flat_map}
use Rattle.k8s_core.specs.declared.container.Container.{Container}
use Rattle.k8s_core.proofs.container.joined.Given as goal

-- with those of the containers that are left, they are those of all
abbrev pub invariant-loop-container : goal.invariant-loop-container
invariant-loop-container l = record {
  ports : l.ports ++ flat_map (λ (c : Container). c.ports) l.container-iterator.rest.items ≡ flat_map (λ (c : Container). c.ports) l.fn.containers;
  probes : l.probes ++ flat_map (λ (c : Container). c.probes) l.container-iterator.rest.items ≡ flat_map (λ (c : Container). c.probes) l.fn.containers;
}
