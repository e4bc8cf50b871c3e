-- The frames of a subscriber agree with the objects: folding the output of a replay writes the lines of the view defined by filters over
-- the objects.
use Rattle.std.specs.Prelude.{◌≡◌, ◌<◌, ◌≤◌, ◌^◌, ℕ, List, Some, length}
use Rattle.std.specs.List.{AllByRecursion}
use Rattle.line_run.specs.Rows.{lines_of}
use Rattle.view_types.specs.declared.query.Method.{Method}
use Rattle.view_types.specs.declared.query.Method.TheVariants.{Get, GetProfile, WatchPort, Watch, WatchPort2}
use Rattle.view_types.specs.declared.query.Query.{Query}
use Rattle.view_types.specs.declared.query.Query.TheVariants as queries
use Rattle.view_rules.specs.Views.{view_of}
use Rattle.feed_history.specs.MarkCauses.{AreFair}
use Rattle.feed_history.specs.History.{Asked, after}
use Rattle.feed_history.specs.Marks.{MarkedRow}
use Rattle.feed_history.specs.Output.{output_after}
use Rattle.feed_history.specs.Program.{Program}
use Rattle.feed_history.specs.Sendable.{HasLimit, IsLawfulConfig}
use Rattle.feed_history.specs.Deliveries.{IsDrained}
use Rattle.feed_history.specs.Lengths.{LengthsFit}
use Rattle.output_fold.specs.Folded.{folded_of, view_lines}
use Rattle.route_match.specs.Asking.{PatternFacts}

-- the method of a query
abbrev pub method_for : Query → Method
method_for (queries.Get ns name port ctx) = Get
method_for (queries.Profile target ctx) = GetProfile
method_for (queries.Port ns pod port) = WatchPort
method_for (queries.Traffic target) = Watch
method_for (queries.PortRows ns pod port) = WatchPort2

-- no line of a text is longer than the limit
abbrev pub LinesAreWithin : ℕ → List ℕ → Type 0
LinesAreWithin limit text = AllByRecursion (λ (line : List ℕ). length line ≤ limit) (lines_of text)

-- For an id that is live at the end of a replay and is sent there all that is due to it, folding the output writes the lines of the view
-- over the objects: each message from no view to it, or the length of the first message that is too long.
abbrev pub FoldAgrees : Program → Type 0
FoldAgrees program = 1 ≤ program.limits.frame_addrs → IsLawfulConfig program.config → HasLimit program
    → (facts : PatternFacts) (past : List MarkedRow) → length past < 2 ^ 64 → AreFair program facts past → LengthsFit program past
    → (id : ℕ) (asked : Asked) → IsDrained program past id asked → LinesAreWithin program.limits.line (output_after program past)
    → folded_of (method_for asked.query) id program.limits (output_after program past)
    ≡ view_lines id program.limits (Some (view_of program.config (after program past).objects asked.query))
