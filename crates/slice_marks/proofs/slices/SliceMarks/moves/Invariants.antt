use Rattle.std.proofs.Common.{◌≡◌, not}
use Rattle.std.specs.List.{filter}
use Rattle.slice_marks.specs.Marked.{is_read}
use Rattle.slice_marks.proofs.slices.SliceMarks.moves.Given as goal

-- the marks so far are told
abbrev pub invariant-loop-mark : goal.invariant-loop-mark
invariant-loop-mark l = record {
  gone : l.gone ≡ filter (λ mark. not (is_read l.self.by_mark mark)) l.yielded;
  come : l.come ≡ filter (is_read l.self.by_mark) l.yielded;
}
