use Rattle.std.proofs.Common.{◌≡◌, ◌&&◌, ◌||◌, ℕ, take}
use Rattle.std.specs.List.{list_any}
use Rattle.std.specs.Ordering.{is_eq, nat_cmp}
use Rattle.view_types.specs.declared.mark.Mark.{Mark}
use Rattle.mark_rules.specs.Marks.{has_mark}
use Rattle.row_table.specs.AtMarks.{at_mark}
use Rattle.row_table.specs.TableRows.{kept_at, marks_of}
use Rattle.row_table.proofs.watched_marks.watch_each.Given as goal

-- the rows so far are at their marks
abbrev pub invariant-loop-number : goal.invariant-loop-number
invariant-loop-number g l = (mark : Mark) (n : ℕ) → at_mark l.at_marks mark n ≡ ((list_any (λ k. is_eq (nat_cmp n k)) (take l.number-index l.numbers.keys) && has_mark (marks_of g.F.RowRule.marks_in (kept_at l.rows n)) mark) || at_mark l.initial.at_marks mark n)
