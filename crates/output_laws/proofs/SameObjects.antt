-- Programs that take the same events of the same rows come to the same objects.
use Rattle.std.proofs.Common.{◌≡◌, ℕ, Bool, true, false, List, [], ◌∷◌, ◌++◌, Option, Some, None, refl, sym, ap, ◌∙◌}
use Rattle.std.specs.Prelude.{Result, Ok, Err, if◌then◌else◌, option_map}
use Rattle.line_run.specs.Rows.{Row, past_of}
use Rattle.mesh_base.specs.declared.limits.Limits.{Limits}
use Rattle.request_sim.specs.declared.fault.SimFault.{SimFault}
use Rattle.view_rules.specs.Views.{view_of}
use Rattle.view_types.specs.Objects.{ObjectMap}
use Rattle.view_types.specs.declared.config.Config.{Config}
use Rattle.watch_events.specs.declared.event.Event.{Event}
use Rattle.watch_events.specs.declared.line.Line.{Line}
use Rattle.watch_events.specs.declared.line.Line.TheVariants as lines
use Rattle.feed_history.specs.Events.{event_refusal, objects_after}
use Rattle.feed_history.specs.History.{State, after, after_line, line_refusal, reading_after, refusal_of}
use Rattle.feed_history.specs.Ids.{unless_refused}
use Rattle.feed_history.specs.Marks.{MarkedRow, rows_in, unmarked}
use Rattle.feed_history.specs.Output.{written_after}
use Rattle.feed_history.specs.Program.{Program}
use Rattle.feed_history.specs.declared.refusal.HubFault.{HubFault}
use Rattle.feed_history.specs.declared.refusal.Refusal.{Refusal}
use Rattle.feed_history.specs.declared.refusal.Refusal.TheVariants as refusals
use Rattle.output_fold.specs.Folded.{view_lines}
use Rattle.feed_history.proofs.Marks.{rows_unmarked}
use Rattle.output_laws.specs.Agreement.{FoldAgrees}
use Rattle.output_laws.proofs.SameRows.{few_rows}
use Rattle.output_laws.specs.SameObjects.{FoldAgreesWith, SameEventsSameObjects, TakeSameEvents, event_in, event_of}

-- what is held after an event, if there is one
abbrev held_with : ℕ → ObjectMap → Option Event → ObjectMap
held_with limit held None = held
held_with limit held (Some event) = unless_refused (event_refusal limit held event) held (objects_after held event)

held_by : Program → List Row → ObjectMap
held_by program [] = (after program []).objects
held_by program (row ∷ rows) = held_with program.limits.objects (held_by program rows) (event_of program (held_by program rows) row)

-- what holds the same objects, refused or not
kept : (refusal : Option Refusal) (now next : State) → next.objects ≡ now.objects → (unless_refused refusal now next).objects ≡ now.objects
kept None now next same = same
kept (Some refusal) now next same = refl

took : (now next : State) (held : ObjectMap) (fault : Option HubFault) → next.objects ≡ held → (unless_refused (option_map refusals.Hub fault) now next).objects ≡ unless_refused fault now.objects held
took now next held None same = same
took now next held (Some fault) same = refl

line_step : (program : Program) (now : State) (met : Option SimFault) (line : Result Line Refusal)
    → (unless_refused (refusal_of program now met line) now (after_line program now line)).objects ≡ held_with program.limits.objects now.objects (event_in program.has_place line)
line_step program now met (Err fault) = refl
line_step program now met (Ok lines.Blank) = kept (refusal_of program now met (Ok lines.Blank)) now now refl
line_step program now met (Ok lines.Stop) = kept (refusal_of program now met (Ok lines.Stop)) now now refl
line_step program now met (Ok (lines.Simulate request)) = kept (refusal_of program now met (Ok (lines.Simulate request))) now now refl
line_step program now met (Ok (lines.Subscribe id query)) = let line = lines.Subscribe id query in kept (refusal_of program now met (Ok line)) now (after_line program now (Ok line)) refl
line_step program now met (Ok (lines.Cancel id)) = kept (refusal_of program now met (Ok (lines.Cancel id))) now (after_line program now (Ok (lines.Cancel id))) refl
line_step program now met (Ok (lines.Drain id)) = kept (refusal_of program now met (Ok (lines.Drain id))) now (after_line program now (Ok (lines.Drain id))) refl
line_step program now met (Ok (lines.Event event)) = by_place (program.has_place (lines.Event event))
  where
    next : State
    next = after_line program now (Ok (lines.Event event))

    by_place : (placed : Bool) → (unless_refused (if placed then line_refusal program now met (lines.Event event) else Some refusals.NotHere) now next).objects
        ≡ held_with program.limits.objects now.objects (if placed then Some event else None)
    by_place true = took now next (objects_after now.objects event) (event_refusal program.limits.objects now.objects event) refl
    by_place false = refl

held_is : (program : Program) (past : List MarkedRow) → (after program past).objects ≡ held_by program (rows_in past)
unfolding held_by
held_is program [] = refl
held_is program (row ∷ past) =
    line_step program (after program past) row.1 (reading_after program past row)
    ∙ ap (λ (held : ObjectMap). held_with program.limits.objects held (event_of program held row.0)) (held_is program past)

held_same : (one other : Program) → TakeSameEvents one other → (rows : List Row) → held_by one rows ≡ held_by other rows
unfolding held_by
held_same one other same [] = refl
held_same one other same (row ∷ rows) =
    ap (λ (limits : Limits). held_with limits.objects (held_by one rows) (event_of one (held_by one rows) row)) same.limits
    ∙ ap (λ (held : ObjectMap). held_with other.limits.objects held (event_of one held row)) (held_same one other same rows)
    ∙ ap (held_with other.limits.objects (held_by other rows)) (same.events (held_by other rows) row)

pub same_objects : (one other : Program) → SameEventsSameObjects one other
same_objects one other same past other_past rows = held_is one past ∙ held_same one other same (rows_in past) ∙ ap (held_by other) rows ∙ sym (held_is other other_past)

pub agrees_with : (program other : Program) → FoldAgrees program → FoldAgreesWith program other
agrees_with program other agrees same one usual limit facts input past short rows fair fits id asked drained within =
    let here = unmarked (past_of other.limits.line input) in
    let lines : past_of program.limits.line input ≡ past_of other.limits.line input = ap (λ (limits : Limits). past_of limits.line input) same.limits in
    let objects = same_objects program other same past here (rows ∙ lines ∙ sym (rows_unmarked _ (past_of other.limits.line input))) in
    let folded = agrees one usual limit facts past (few_rows program.limits.line input past rows short) fair fits id asked drained within in
    sym (
    ap (λ (text : List ℕ). written_after other here ++ text) (
    folded
    ∙ ap (λ (limits : Limits). view_lines id limits (Some (view_of program.config (after program past).objects asked.query))) same.limits
    ∙ ap (λ (config : Config). view_lines id other.limits (Some (view_of config (after program past).objects asked.query))) same.config
    ∙ ap (λ (held : ObjectMap). view_lines id other.limits (Some (view_of other.config held asked.query))) objects
    )
    )
