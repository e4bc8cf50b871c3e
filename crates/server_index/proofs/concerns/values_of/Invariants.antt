use Rattle.std.proofs.Common.{take}
use Rattle.server_index.specs.Concerned.{HaveValues}
use Rattle.server_index.proofs.concerns.values_of.Given as goal

-- the values of the labels so far are in
abbrev pub invariant-loop-label : goal.invariant-loop-label
invariant-loop-label l = HaveValues l.values (take l.label-index l.labels)
