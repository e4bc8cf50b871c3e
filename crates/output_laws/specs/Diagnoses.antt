-- The frames of a subscriber agree with the objects: a fold of a replay's output and a diagnosis of its input write the same view lines.
use Rattle.std.specs.Prelude.{◌≡◌, ◌≤◌, ◌<◌, ◌^◌, ◌++◌, length, ℕ, Bool, List, [], Some}
use Rattle.line_run.specs.Rows.{past_of}
use Rattle.mesh_base.specs.declared.limits.Limits.{Limits}
use Rattle.route_match.specs.Matching.{Pat}
use Rattle.view_types.specs.declared.config.Config.{Config}
use Rattle.feed_history.specs.MarkCauses.{AreFair}
use Rattle.feed_history.specs.History.{Asked}
use Rattle.feed_history.specs.Marks.{MarkedRow, rows_in, unmarked}
use Rattle.feed_history.specs.Output.{output_after, written_after}
use Rattle.feed_history.specs.Program.{replay_of}
use Rattle.feed_history.specs.Sendable.{IsLawfulConfig}
use Rattle.feed_history.specs.Deliveries.{IsDrained}
use Rattle.feed_history.specs.Written.{IsOutput}
use Rattle.feed_history.specs.KnownPatterns.{PatternsNow}
use Rattle.feed_history.specs.Lengths.{LengthsFit}
use Rattle.output_fold.specs.Folded.{folded_of}
use Rattle.diagnosis.specs.Diagnosed.{diagnosed_of, diagnosis_of}
use Rattle.output_laws.specs.Agreement.{LinesAreWithin, method_for}
use Rattle.route_match.specs.Asking.{PatternFacts}

-- For each id that is live at the end of a replay and is sent there all that is due to it: after its refused lines, a diagnosis of the
-- input writes for the same query what a fold of the output writes. The rows may be marked in any way that a replay may mark them.
abbrev pub FoldAgreesWithDiagnosis : Config → Limits → Pat → Type 0
FoldAgreesWithDiagnosis config limits pat = 1 ≤ limits.frame_addrs → IsLawfulConfig config → limits.message < 2 ^ 32 → let program = replay_of config limits pat in
    (facts : PatternFacts) (input : List ℕ) (past : List MarkedRow) → length input < 2 ^ 64 → rows_in past ≡ past_of limits.line input
    → AreFair program facts past → LengthsFit program past
    → (id : ℕ) (asked : Asked) → IsDrained program past id asked → LinesAreWithin limits.line (output_after program past)
    → diagnosed_of config limits id asked.query input
    ≡ written_after (diagnosis_of config limits) (unmarked (past_of limits.line input)) ++ folded_of (method_for asked.query) id limits (output_after program past)

-- The same for what a replay wrote of the input to an empty sink. Which ids are live does not depend on marks.
abbrev pub ReplayAgreesWithDiagnosis : Config → Limits → Pat → Type 0
ReplayAgreesWithDiagnosis config limits pat = 1 ≤ limits.frame_addrs → IsLawfulConfig config → limits.message < 2 ^ 32 → limits.input < 2 ^ 64 → let program = replay_of config limits pat in
    (known : PatternsNow) (input output : List ℕ) (refused : Bool) → let rows = past_of limits.line input in
    IsOutput program known input (Some []) (Some output) refused
    → (id : ℕ) (asked : Asked) → IsDrained program (unmarked rows) id asked → LinesAreWithin limits.line output
    → diagnosed_of config limits id asked.query input ≡ written_after (diagnosis_of config limits) (unmarked rows) ++ folded_of (method_for asked.query) id limits output
