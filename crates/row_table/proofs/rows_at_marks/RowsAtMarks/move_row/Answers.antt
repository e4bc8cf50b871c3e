use Rattle.std.proofs.Common.{OnOk}
use Rattle.mark_graph.specs.Moves.{has_after}
use Rattle.mark_graph.specs.RowMarks.{MovesRow, row_at}
use Rattle.row_table.proofs.ByCmp.{by_mark_cmp}
use Rattle.row_table.proofs.rows_at_marks.RowsAtMarks.move_row.Goals as goal

pub returns : goal.returns
returns c =
    by_mark_cmp (λ cmp. OnOk c.move_at_marks.result (MovesRow cmp (has_after cmp c.args.moves.now (λ mark. row_at cmp c.args.self.now.by_mark mark c.args.number)) c.args.number c.args.self.now.by_mark c.move_at_marks.new.by)) c.move_at_marks.ensures.moved
