-- Which programs hold the same objects, and what is then written.
use Rattle.std.specs.Prelude.{◌≡◌, ◌≤◌, ◌<◌, ◌^◌, ◌++◌, length, ℕ, List, Bool, Option, Some, None, Result, Ok, Err, if◌then◌else◌}
use Rattle.line_run.specs.Rows.{Row, past_of}
use Rattle.view_rules.specs.Views.{view_of}
use Rattle.view_types.specs.Objects.{ObjectMap}
use Rattle.view_types.specs.declared.query.Query.{Query}
use Rattle.watch_events.specs.declared.event.Event.{Event}
use Rattle.watch_events.specs.declared.line.Line.{Line}
use Rattle.watch_events.specs.declared.line.Line.TheVariants as lines
use Rattle.feed_history.specs.MarkCauses.{AreFair}
use Rattle.feed_history.specs.History.{Asked, after}
use Rattle.feed_history.specs.Marks.{MarkedRow, rows_in, unmarked}
use Rattle.feed_history.specs.Output.{output_after, written_after}
use Rattle.feed_history.specs.Program.{Program}
use Rattle.feed_history.specs.declared.refusal.Refusal.{Refusal}
use Rattle.feed_history.specs.Sendable.{HasLimit, IsLawfulConfig}
use Rattle.feed_history.specs.Deliveries.{IsDrained}
use Rattle.feed_history.specs.Lengths.{LengthsFit}
use Rattle.output_fold.specs.Folded.{folded_of, view_lines}
use Rattle.output_laws.specs.Agreement.{LinesAreWithin, method_for}
use Rattle.route_match.specs.Asking.{PatternFacts}

-- the event of a line, if the line has a place
abbrev pub event_in : (Line → Bool) → Result Line Refusal → Option Event
event_in has_place (Ok (lines.Event event)) = if has_place (lines.Event event) then Some event else None
event_in has_place (Ok (lines.Subscribe id query)) = None
event_in has_place (Ok (lines.Cancel id)) = None
event_in has_place (Ok (lines.Drain id)) = None
event_in has_place (Ok (lines.Simulate request)) = None
event_in has_place (Ok lines.Blank) = None
event_in has_place (Ok lines.Stop) = None
event_in has_place (Err fault) = None

abbrev pub event_of : Program → ObjectMap → Row → Option Event
event_of program held row = event_in program.has_place (program.reads held row)

-- Two programs apply the same events of the same rows over the same objects, under the same limit
-- on objects, and show the same views.
pub record TakeSameEvents (one other : Program) : Type 0 where
  pub events : (held : ObjectMap) (row : Row) → event_of one held row ≡ event_of other held row
  pub limits : one.limits ≡ other.limits
  pub config : one.config ≡ other.config

-- Such programs hold the same objects.
abbrev pub SameEventsSameObjects : Program → Program → Type 0
SameEventsSameObjects one other = TakeSameEvents one other → (past other_past : List MarkedRow) → rows_in past ≡ rows_in other_past → (after one past).objects ≡ (after other other_past).objects

-- What a program that sends nothing writes for rows and a query: its output for the rows, and then the view.
abbrev pub shown_of : Program → ℕ → Query → List MarkedRow → List ℕ
shown_of program id query past = written_after program past ++ view_lines id program.limits (Some (view_of program.config (after program past).objects query))

-- A fold of the output of the one writes the view lines that the other writes: the messages of the view, or the length of the first
-- message that is too long.
abbrev pub FoldAgreesWith : Program → Program → Type 0
FoldAgreesWith program other = TakeSameEvents program other → 1 ≤ program.limits.frame_addrs → IsLawfulConfig program.config → HasLimit program
    → (facts : PatternFacts) (input : List ℕ) (past : List MarkedRow) → length input < 2 ^ 64 → rows_in past ≡ past_of program.limits.line input
    → AreFair program facts past → LengthsFit program past
    → (id : ℕ) (asked : Asked) → IsDrained program past id asked → LinesAreWithin program.limits.line (output_after program past)
    → let same = unmarked (past_of other.limits.line input) in
    shown_of other id asked.query same ≡ written_after other same ++ folded_of (method_for asked.query) id program.limits (output_after program past)
