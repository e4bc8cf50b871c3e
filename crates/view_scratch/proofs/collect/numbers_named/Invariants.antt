use Rattle.std.proofs.Common.{◌≡◌, take}
use Rattle.std.specs.List.{filter_map}
use Rattle.view_scratch.specs.Parts.{number_at}
use Rattle.view_scratch.proofs.collect.numbers_named.Given as goal

-- the numbers of the ports so far
abbrev pub invariant-loop-port : goal.invariant-loop-port
invariant-loop-port l = l.numbers ≡ filter_map (number_at l.name) (take l.port-index l.ports)
