use Rattle.std.proofs.Common.{sym, ◌∙◌}
use Rattle.row_table.proofs.Users.{ok_then}
use Rattle.row_table.proofs.Watched.{moves_for, new_stays}
use Rattle.row_table.proofs.watched_marks.WatchedMarks.rewatch.Goals as goal

pub returns-then-contains : goal.returns-then-contains
returns-then-contains g c = λ before follow. new_stays c.args.self.now c.args.number before (g.F.RowRule.marks_in c.args.kept.now) (sym c.contains.ensures ∙ c.if-contains.true)

pub returns : goal.returns
returns g c = ok_then c.move_row.result c.move_row.ensures (λ moves before follow.
    moves_for c.args.self.now c.move_row.new.at_marks c.args.number (sym c.contains.ensures ∙ c.if-contains.false) c.args.marks before (g.F.RowRule.marks_in c.args.kept.now) follow moves)
