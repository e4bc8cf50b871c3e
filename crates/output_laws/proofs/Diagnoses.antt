-- A diagnosis takes the events of a replay.
use Rattle.std.proofs.Common.{◌≡◌, ◌++◌, ◌<◌, ◌^◌, ℕ, List, length, Some, None, refl, sym, ap, ◌∙◌, subst, arith}
use Rattle.std.specs.Prelude.{Result, Ok, Err}
use Rattle.line_run.specs.Rows.{Row, past_of}
use Rattle.mesh_base.specs.declared.limits.Limits.{Limits}
use Rattle.route_match.specs.Matching.{Pat}
use Rattle.view_types.specs.declared.config.Config.{Config}
use Rattle.watch_events.specs.Lines.{row_says, text_line}
use Rattle.watch_events.specs.declared.line.Line.{Line}
use Rattle.watch_events.specs.declared.line.Line.TheVariants as lines
use Rattle.watch_events.specs.declared.line.LineFault.{LineFault}
use Rattle.feed_history.specs.History.{Asked, State, after, asked_at, too_long_for}
use Rattle.feed_history.specs.Marks.{MarkedRow, rows_in, unmarked}
use Rattle.feed_history.specs.Output.{written_after}
use Rattle.feed_history.specs.Program.{Program, has_place_in_replay, refused_unread, replay_of}
use Rattle.feed_history.specs.Deliveries.{IsDrained}
use Rattle.feed_history.specs.Simulating.{MarksChangeNothing}
use Rattle.output_fold.specs.Folded.{folded_of}
use Rattle.diagnosis.specs.Diagnosed.{diagnosis_of, if_read}
use Rattle.output_laws.specs.Agreement.{FoldAgrees, LinesAreWithin, method_for}
use Rattle.output_laws.specs.Diagnoses.{FoldAgreesWithDiagnosis, ReplayAgreesWithDiagnosis}
use Rattle.output_laws.specs.SameObjects.{TakeSameEvents, event_in}
use Rattle.output_laws.proofs.SameObjects.{agrees_with}
use Rattle.feed_history.specs.KnownPatterns.{facts_in}

same_event : (line : Result Line LineFault) → event_in has_place_in_replay (refused_unread line) ≡ event_in has_place_in_replay (refused_unread (if_read line))
same_event (Err fault) = refl
same_event (Ok lines.Blank) = refl
same_event (Ok lines.Stop) = refl
same_event (Ok (lines.Event event)) = refl
same_event (Ok (lines.Subscribe id query)) = refl
same_event (Ok (lines.Cancel id)) = refl
same_event (Ok (lines.Drain id)) = refl
same_event (Ok (lines.Simulate request)) = refl

takes_same : (config : Config) (limits : Limits) (pat : Pat) → TakeSameEvents (replay_of config limits pat) (diagnosis_of config limits)
takes_same config limits pat = record { events = λ held row. same_event (row_says (text_line config) row); limits = refl; config = refl }

pub agrees_with_diagnosis : (config : Config) (limits : Limits) (pat : Pat) → FoldAgrees (replay_of config limits pat) → FoldAgreesWithDiagnosis config limits pat
agrees_with_diagnosis config limits pat agrees = agrees_with (replay_of config limits pat) (diagnosis_of config limits) agrees (takes_same config limits pat)

-- ---- what a replay wrote

drained_marked : (program : Program) → MarksChangeNothing program → (rows : List Row) (marked : List MarkedRow) → rows_in marked ≡ rows → (id : ℕ) (asked : Asked)
    → IsDrained program (unmarked rows) id asked → IsDrained program marked id asked
drained_marked program same rows marked are id asked drained =
    let leads : after program marked ≡ after program (unmarked rows) = same marked ∙ ap (λ (rows : List Row). after program (unmarked rows)) are in
    subst (λ (now : State). (asked_at id now.subs ≡ Some asked) × (too_long_for program now.objects asked ≡ None)) (sym leads) drained

below_both : (n limit bound : ℕ) → n < limit → limit < bound → n < bound
below_both n limit bound below small = omega (arith, below, small)

pub replay_agrees : (config : Config) (limits : Limits) (pat : Pat) → MarksChangeNothing (replay_of config limits pat) → FoldAgreesWithDiagnosis config limits pat → ReplayAgreesWithDiagnosis config limits pat
replay_agrees config limits pat same agrees one usual limit bound known input output refused is id asked drained within =
    let short : length input < 2 ^ 64 = below_both (length input) limits.input (2 ^ 64) is.below bound in
    let program = replay_of config limits pat in
    let rows = past_of limits.line input in
    let live = drained_marked program same rows is.marked is.are_marked.rows_are id asked drained in
    let fits = subst (LinesAreWithin limits.line) is.writes within in
    agrees one usual limit (facts_in known) input is.marked short is.are_marked.rows_are is.are_marked.fair is.lengths id asked live fits
    ∙ ap (λ (text : List ℕ). written_after (diagnosis_of config limits) (unmarked rows) ++ folded_of (method_for asked.query) id limits text) (sym is.writes)
