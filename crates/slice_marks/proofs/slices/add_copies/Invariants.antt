use Rattle.std.proofs.Common.{◌≡◌, ◌++◌, take}
use Rattle.slice_marks.proofs.slices.add_copies.Given as goal

-- the marks so far are added
abbrev pub invariant-loop-mark : goal.invariant-loop-mark
invariant-loop-mark l = l.marks ≡ l.initial.marks ++ take l.mark-index l.others
