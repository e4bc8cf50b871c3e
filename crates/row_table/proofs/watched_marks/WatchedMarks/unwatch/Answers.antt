use Rattle.std.proofs.Common.{sym, ◌∙◌}
use Rattle.row_table.proofs.Watched.{new_removed, removed}
use Rattle.row_table.proofs.watched_marks.WatchedMarks.unwatch.Goals as goal

pub returns-then-contains : goal.returns-then-contains
returns-then-contains g c = new_removed c.args.self.now c.args.number c.remove.new.self (g.F.RowRule.marks_in c.args.kept.now) (sym c.contains.ensures ∙ c.if-contains.true) c.remove.ensures

pub returns : goal.returns
returns g c = removed c.args.self.now c.unwatch.new.at_marks c.args.number (sym c.contains.ensures ∙ c.if-contains.false) (g.F.RowRule.marks_in c.args.kept.now) c.unwatch.ensures
