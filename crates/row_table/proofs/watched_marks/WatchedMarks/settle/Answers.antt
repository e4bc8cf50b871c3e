use Rattle.mark_rules.specs.Marks.{has_mark}
use Rattle.row_table.specs.AtMarks.{at_mark, is_new}
use Rattle.row_table.specs.TableRows.{kept_at, marks_of}
use Rattle.row_table.proofs.Watched.{settled}
use Rattle.row_table.proofs.watched_marks.WatchedMarks.settle.Goals as goal

pub returns-clause-stand : goal.returns-clause-stand
returns-clause-stand g c = λ watch n mark.
    let self = c.args.self.now in
    settled (is_new self n) (has_mark (marks_of g.F.RowRule.marks_in (kept_at c.args.rows.now n)) mark) (at_mark self.at_marks mark n) (at_mark c.watch_each.new.at_marks mark n) (c.in_ok-watch_each.ensures mark n) (watch n mark)
