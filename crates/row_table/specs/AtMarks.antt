-- The rows at each mark, and those that are new.
use Rattle.std.specs.Prelude.{◌≡◌, ◌&&◌, not, ℕ, Bool, false, nat_eq, List}
use Rattle.std.specs.BTreeSet.{contains}
use Rattle.std.specs.Ordering.{nat_cmp}
use Rattle.view_types.specs.declared.mark.Mark.{Mark}
use Rattle.mark_graph.specs.Moves.{has_after}
use Rattle.mark_graph.specs.RowMarks.{AddsRow, MovesRow, RemovesRow, row_at}
use Rattle.mark_rules.specs.Marks.{has_mark, mark_cmp}
use Rattle.row_table.specs.declared.row_rule.MarksAfter.{MarksAfter}
use Rattle.row_table.specs.declared.row_rule.MarksAfter.TheVariants.{Same, Moved, Other}
use Rattle.row_table.specs.declared.rows_at_marks.RowsAtMarks.{RowsAtMarks}
use Rattle.row_table.specs.declared.watched_marks.WatchedMarks.{WatchedMarks}

-- the row with the number is at the mark
abbrev pub at_mark : RowsAtMarks → Mark → ℕ → Bool
at_mark rows mark number = row_at mark_cmp rows.by_mark mark number

-- the row is added at the marks of the set, and nothing else changes
abbrev pub AddsAt : (Mark → Bool) → ℕ → RowsAtMarks → RowsAtMarks → Type 0
AddsAt set number old new = AddsRow mark_cmp set number old.by_mark new.by_mark

-- the row is removed from the marks of the set, and nothing else changes
abbrev pub RemovesAt : (Mark → Bool) → ℕ → RowsAtMarks → RowsAtMarks → Type 0
RemovesAt set number old new = RemovesRow mark_cmp set number old.by_mark new.by_mark

-- the row is at the marks of the set alone, and nothing else changes
abbrev pub MovesAt : (Mark → Bool) → ℕ → RowsAtMarks → RowsAtMarks → Type 0
MovesAt set number old new = MovesRow mark_cmp set number old.by_mark new.by_mark

-- the row is moved to these marks, as they are reported
abbrev pub MovesFor : MarksAfter → List Mark → ℕ → RowsAtMarks → RowsAtMarks → Type 0
MovesFor Same marks number old new = new ≡ old
MovesFor (Moved moves) marks number old new = MovesAt (has_after mark_cmp moves (λ mark. at_mark old mark number)) number old new
MovesFor (Other before) marks number old new = ((mark : Mark) → at_mark old mark number ≡ has_mark before mark) → MovesAt (has_mark marks) number old new

-- ---- new rows

abbrev pub is_new : WatchedMarks → ℕ → Bool
is_new watched number = contains nat_cmp watched.new_rows number

-- the row is at these marks alone, or, if it is new, at none
abbrev pub Watches : WatchedMarks → ℕ → List Mark → Type 0
Watches watched number marks = (mark : Mark) → at_mark watched.at_marks mark number ≡ (not (is_new watched number) && has_mark marks mark)

-- The row watches these marks, and every other row what it watched.
pub record IsRewatched (marks : List Mark) (number : ℕ) (old new : WatchedMarks) : Type 0 where
  pub own : Watches new number marks
  pub others : (n : ℕ) → nat_eq n number ≡ false → (others : List Mark) → Watches old n others → Watches new n others

-- the row that watched the marks of before watches these, and every other row what it watched
abbrev pub Rewatches : List Mark → List Mark → ℕ → WatchedMarks → WatchedMarks → Type 0
Rewatches before marks number old new = Watches old number before → IsRewatched marks number old new
