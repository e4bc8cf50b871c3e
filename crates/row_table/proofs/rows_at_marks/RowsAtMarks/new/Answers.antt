use Rattle.std.proofs.Common.{◌≡◌, ℕ, false, ap}
use Rattle.view_types.specs.declared.mark.Mark.{Mark}
use Rattle.mark_graph.specs.RowMarks.{row_at, some_row}
use Rattle.row_table.proofs.ByCmp.{by_mark_cmp}
use Rattle.row_table.proofs.rows_at_marks.RowsAtMarks.new.Goals as goal

pub returns : goal.returns
returns c = by_mark_cmp (λ cmp. (mark : Mark) (n : ℕ) → row_at cmp c.new.result mark n ≡ false) (λ mark n. ap (some_row n) (c.new.ensures mark))
