use Rattle.std.proofs.Common.{sym, ap, not, ◌&&◌, ◌∙◌}
use Rattle.mark_rules.specs.Marks.{has_mark}
use Rattle.row_table.specs.AtMarks.{at_mark}
use Rattle.row_table.specs.TableRows.{kept_at, marks_of}
use Rattle.row_table.proofs.MarkLists.{same_any}
use Rattle.row_table.proofs.Users.{if_ok_then, ok_with}
use Rattle.row_table.proofs.watched_marks.WatchedMarks.due.Goals as goal

pub returns-clause-due : goal.returns-clause-due
returns-clause-due g c = λ watch.
    if_ok_then c.rows_at.result c.rows_at.ensures.rows (λ numbers rows n.
    rows n ∙ same_any (λ mark. at_mark c.settle.new.self.at_marks mark n) (has_mark (marks_of g.F.RowRule.marks_in (kept_at c.args.rows.now n))) (c.in_ok-settle.ensures.stand watch n) c.args.marks.now)

pub returns-clause-watch : goal.returns-clause-watch
returns-clause-watch g c = λ watch.
    ok_with c.rows_at.result (λ n mark. c.in_ok-settle.ensures.stand watch n mark
    ∙ sym (ap (λ b. not b && has_mark (marks_of g.F.RowRule.marks_in (kept_at c.args.rows.now n)) mark) (c.in_ok-settle.ensures.none n)))
