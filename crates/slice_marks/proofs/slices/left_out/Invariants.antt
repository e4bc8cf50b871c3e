use Rattle.std.proofs.Common.{take}
use Rattle.slice_marks.specs.Marked.{Leaves}
use Rattle.slice_marks.proofs.slices.left_out.Given as goal

-- each of the marks so far is among those now or left out
abbrev pub invariant-loop-mark : goal.invariant-loop-mark
invariant-loop-mark l = Leaves (take l.mark-index l.before) l.marks l.left
