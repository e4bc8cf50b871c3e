-- The effect of simulations: they change nothing, whatever they meet, and write the verdict of the written policy.
use Rattle.std.specs.Prelude.{◌≡◌, ◌+◌, ℕ, List, ◌∷◌, length, None, Ok}
use Rattle.mesh_outside.specs.Causes.{Unrisen}
use Rattle.request_rules.specs.Verdicts.{verdict}
use Rattle.view_types.specs.declared.request.Request.{Request}
use Rattle.watch_events.specs.declared.line.Line.TheVariants as lines
use Rattle.feed_history.specs.History.{after, reading_after, refusal_after}
use Rattle.feed_history.specs.Marks.{AreFew, MarkedRow, rows_in, unmarked}
use Rattle.feed_history.specs.Output.{piece_of}
use Rattle.feed_history.specs.Program.{Program}
use Rattle.feed_history.specs.VerdictText.{verdict_line}

-- The state after rows does not depend on their marks.
abbrev pub MarksChangeNothing : Program → Type 0
MarksChangeNothing program = (marked : List MarkedRow) → after program marked ≡ after program (unmarked (rows_in marked))

-- If the count of refusals did not rise, no row is marked.
abbrev pub UnrisenMarksNone : Type 0
UnrisenMarksNone = (marked : List MarkedRow) (before now : ℕ) → AreFew marked before now → Unrisen before now → marked ≡ unmarked (rows_in marked)

-- A row that simulates a request does not change the state.
abbrev pub SimulationsChangeNothing : Program → Type 0
SimulationsChangeNothing program = (past : List MarkedRow) (row : MarkedRow) (request : Request) → reading_after program past row ≡ Ok (lines.Simulate request)
    → after program (row ∷ past) ≡ after program past

-- A row that simulates a request and is not refused, so that it has a place in the program, writes the verdict over the objects held
-- after the rows before it.
abbrev pub VerdictsArePolicys : Program → Type 0
VerdictsArePolicys program = (past : List MarkedRow) (row : MarkedRow) (request : Request) → reading_after program past row ≡ Ok (lines.Simulate request) → refusal_after program past row ≡ None
    → piece_of program past row ≡ verdict_line (length past + 1) request.ns (verdict program.config (after program past).objects program.matches request)
