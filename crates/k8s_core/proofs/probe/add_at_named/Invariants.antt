use Rattle.std.proofs.Common.{◌≡◌, ◌++◌, take}
use Rattle.std.specs.List.{flat_map}
use Rattle.k8s_core.specs.Probes.{at_named}
use Rattle.k8s_core.proofs.probe.add_at_named.Given as goal

-- the probes on the ports so far
abbrev pub invariant-loop-port : goal.invariant-loop-port
invariant-loop-port l = l.probes ≡ l.initial.probes ++ flat_map (at_named l.name l.path) (take l.port-index l.ports)
