use Rattle.std.proofs.Common.{◌≡◌, ◌&&◌, not, nat_eq, ℕ}
use Rattle.std.specs.List.{filter}
use Rattle.mark_graph.specs.RowMarks.{row_at}
use Rattle.mark_rules.specs.Marks.{has_mark, mark_cmp}
use Rattle.view_types.specs.declared.mark.Mark.{Mark}
use Rattle.slice_marks.specs.Marked.{is_read, marks_read}
use Rattle.slice_marks.proofs.slices.SliceMarks.take_row.Given as goal

-- with the marks that are left the row is at none of them
abbrev pub invariant-loop-mark : goal.invariant-loop-mark
invariant-loop-mark l = (m : Mark) (r : ℕ) → (not (has_mark (filter (is_read l.self.by_mark) l.mark-iterator) m && nat_eq r l.row) && row_at mark_cmp l.by m r) ≡ (not (has_mark (marks_read l.self.by_mark) m && nat_eq r l.row) && row_at mark_cmp l.initial.by m r)
