use Rattle.std.proofs.Common.{OnOk}
use Rattle.mark_graph.specs.RowMarks.{AddsRow, has_mark}
use Rattle.row_table.proofs.ByCmp.{by_mark_cmp}
use Rattle.row_table.proofs.rows_at_marks.RowsAtMarks.put.Goals as goal

pub returns : goal.returns
returns c = by_mark_cmp (λ cmp. OnOk c.put_all.result (AddsRow cmp (has_mark cmp c.args.marks.now) c.args.number c.args.self.now.by_mark c.put_all.new.by)) c.put_all.ensures.added
