use Rattle.std.proofs.Common.{◌≡◌, take}
use Rattle.std.specs.List.{filter_map}
use Rattle.view_rules.specs.Inbound.{path_at}
use Rattle.policy_rows.proofs.probes.paths_at.Given as goal

-- the paths of the probes so far
abbrev pub invariant-loop-probe : goal.invariant-loop-probe
invariant-loop-probe l = l.paths ≡ filter_map (path_at l.port) (take l.probe-index l.probes)
