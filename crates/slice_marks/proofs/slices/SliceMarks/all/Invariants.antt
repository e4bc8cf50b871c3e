use Rattle.std.proofs.Common.{◌≡◌, ◌++◌}
use Rattle.std.specs.BTreeMap.{keys}
use Rattle.std.specs.List.{filter}
use Rattle.slice_marks.specs.Marked.{is_read}
use Rattle.slice_marks.proofs.slices.SliceMarks.all.Given as goal

-- with those that are left they are all
abbrev pub invariant-loop-mark : goal.invariant-loop-mark
invariant-loop-mark l = l.marks ++ filter (is_read l.self.by_mark) l.mark-iterator ≡ filter (is_read l.self.by_mark) (keys l.self.by_mark)
