use Rattle.mark_graph.specs.RowMarks.{RemovesRow, has_mark}
use Rattle.row_table.proofs.ByCmp.{by_mark_cmp}
use Rattle.row_table.proofs.rows_at_marks.RowsAtMarks.take.Goals as goal

pub returns : goal.returns
returns c = by_mark_cmp (λ cmp. RemovesRow cmp (has_mark cmp c.args.marks.now) c.args.number c.args.self.now.by_mark c.take_all.new.by) c.take_all.ensures.taken
