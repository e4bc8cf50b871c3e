use Rattle.std.proofs.Common.{◌≡◌, ℕ, take}
use Rattle.std.specs.List.{list_any}
use Rattle.mark_graph.specs.RowMarks.{has_row, row_at}
use Rattle.mark_graph.proofs.by_mark.gather_all.Given as goal

-- the rows of the marks so far are gathered
abbrev pub invariant-loop-mark : goal.invariant-loop-mark
invariant-loop-mark g l = (r : ℕ) → has_row r l.rows.items ≡ list_any (λ m. row_at g.M.Ord.cmp l.by m r) (take l.mark-index l.marks)
