use Rattle.std.proofs.Common.{◌≡◌, ℕ, IfOk}
use Rattle.std.specs.List.{list_any}
use Rattle.mark_graph.specs.RowMarks.{has_row, row_at}
use Rattle.row_table.proofs.ByCmp.{by_mark_cmp}
use Rattle.row_table.proofs.rows_at_marks.RowsAtMarks.rows_at.Goals as goal

pub returns-clause-rows : goal.returns-clause-rows
returns-clause-rows c = by_mark_cmp (λ cmp. IfOk c.rows_at.result (λ numbers. (n : ℕ) → has_row n numbers ≡ list_any (λ mark. row_at cmp c.args.self.now.by_mark mark n) c.args.marks.now)) c.rows_at.ensures.rows
