-- What was written is the output for rows, or a prefix of it.
--
-- Which refused pattern a simulation meets does not follow from the input alone. So the output is defined for rows some of which are
-- marked, each with a fault that it may meet; at most as many are marked as patterns were refused.
use Rattle.std.specs.Prelude.{◌≡◌, ◌<◌, ℕ, Bool, List, ◌++◌, length}
use Rattle.std.specs.declared.option.Option.{Option}
use Rattle.std.specs.Io.KnownBytes.{Appends}
use Rattle.line_run.specs.Rows.{Row, past_of}
use Rattle.feed_history.specs.KnownPatterns.{AreMarked, PatternsNow}
use Rattle.feed_history.specs.Lengths.{LengthsFit}
use Rattle.feed_history.specs.Marks.{MarkedRow, unmarked}
use Rattle.feed_history.specs.Output.{output_after, refused_after}
use Rattle.feed_history.specs.Program.{Program}

-- The input is below its limit, what was written is the output for its rows with some marks, each length in it is below 2 ^ 64, and the
-- flag says whether a row was refused.
pub record IsOutput (program : Program) (known : PatternsNow) (input : List ℕ) (held held_new : Option (List ℕ)) (refused : Bool) : Type 0 where
  pub below : length input < program.limits.input
  pub marked : List MarkedRow
  pub are_marked : AreMarked program known (past_of program.limits.line input) marked
  pub lengths : LengthsFit program marked
  pub writes : Appends held held_new (output_after program marked)
  pub refuses : refused ≡ refused_after program marked

-- the same for rows without marks
pub record IsPlainOutput (program : Program) (input : List ℕ) (held held_new : Option (List ℕ)) (refused : Bool) : Type 0 where
  pub below : length input < program.limits.input
  pub writes : Appends held held_new (output_after program (unmarked (past_of program.limits.line input)))
  pub refuses : refused ≡ refused_after program (unmarked (past_of program.limits.line input))

-- The flag says whether a row of the input, with some marks, was refused.
pub record IsRefused (program : Program) (known : PatternsNow) (input : List ℕ) (refused : Bool) : Type 0 where
  pub marked : List MarkedRow
  pub are_marked : AreMarked program known (past_of program.limits.line input) marked
  pub refuses : refused ≡ refused_after program marked

-- What was written is a prefix of the output for the rows with some marks.
pub record IsFrontOf (program : Program) (known : PatternsNow) (rows : List Row) (sent : List ℕ) : Type 0 where
  pub marked : List MarkedRow
  pub are_marked : AreMarked program known rows marked
  pub unsent : List ℕ
  pub front : output_after program marked ≡ sent ++ unsent
