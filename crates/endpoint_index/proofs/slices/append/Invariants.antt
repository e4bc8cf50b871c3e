use Rattle.std.proofs.Common.{◌≡◌, ◌++◌}
use Rattle.endpoint_index.proofs.slices.append.Given as goal

-- the marks so far are added
abbrev pub invariant-loop-mark : goal.invariant-loop-mark
invariant-loop-mark l = l.marks ≡ l.initial.marks ++ l.yielded
