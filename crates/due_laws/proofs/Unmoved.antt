-- A live subscription that is not due has the view of its last drain.
use Rattle.std.proofs.Common.{◌≡◌, ◌&&◌, ℕ, Bool, true, false, cond, eqb, List, ◌∷◌, [], Option, Some, None, refl, sym, ap, ◌∙◌}
use Rattle.std.specs.Prelude.{Result, Ok, Err, option_map, IfOk}
use Rattle.view_types.specs.Objects.{AtKeys, ObjectMap}
use Rattle.view_types.specs.declared.query.Query.{Query}
use Rattle.view_rules.specs.PolicyLaws.{AreLawful}
use Rattle.view_rules.specs.Views.{view_before, view_of}
use Rattle.watch_events.specs.Lawful.{IsLawfulEvent, IsLawfulLine}
use Rattle.watch_events.specs.declared.event.Event.{Event}
use Rattle.watch_events.specs.declared.line.Line.{Line}
use Rattle.watch_events.specs.declared.line.Line.TheVariants as lines
use Rattle.feed_history.specs.Events.{objects_after}
use Rattle.feed_history.specs.History.{Asked, State, after, after_line, reading_after, refusal_after}
use Rattle.feed_history.specs.Ids.{unless_refused}
use Rattle.feed_history.specs.LastDrain.{LastDrainDecidesShown, drain_in, last_drain}
use Rattle.feed_history.specs.Lawful.{HeldAreLawful, HeldAtKeys, ReadsLawfully}
use Rattle.feed_history.specs.Live.{LastLineDecidesLive, asked_by, live_at, meets_too_long}
use Rattle.feed_history.specs.LookBack.{last_told}
use Rattle.feed_history.specs.Marks.{MarkedRow}
use Rattle.feed_history.specs.Program.{Program}
use Rattle.feed_history.specs.declared.refusal.Refusal.{Refusal}
use Rattle.history_laws.proofs.Held.{row_lawful}
use Rattle.event_laws.specs.Laws.{UntouchedQueriesStay}
use Rattle.feed_history.specs.Due.{due_by, is_due, is_touched}
use Rattle.due_laws.specs.Laws.{OnlyDueAreOwed}

module _ (program : Program) (stay : UntouchedQueriesStay) (id : ℕ) (query : Query) where
  -- the query has the view over these objects that it had at its last drain
  abbrev IsUnmoved : Option (List MarkedRow) → ObjectMap → Type 0
  IsUnmoved last held = view_before program.config query (option_map (λ rows. (after program rows).objects) last) ≡ Some (view_of program.config held query)

  -- where a query is live and not due
  abbrev StaysUnmoved : Option Query → Bool → Option (List MarkedRow) → ObjectMap → Type 0
  StaysUnmoved live due last held = live ≡ Some query → due ≡ false → IsUnmoved last held

  module _ (past : List MarkedRow) (at_keys : AtKeys (after program past).objects) (lawful : AreLawful (after program past).objects)
      (so_far : StaysUnmoved (live_at program past id) (is_due program past id) (last_drain program past id) (after program past).objects) where
    abbrev held : ObjectMap
    held = (after program past).objects

    touched_or_not : (event : Event) → IsLawfulEvent event → (live : Option Query) → live ≡ Some query → (touched : Bool) → is_touched program.config held event live ≡ touched
        → last_told None (cond touched (Some true) None) (is_due program past id) ≡ false → IsUnmoved (last_drain program past id) held → IsUnmoved (last_drain program past id) (objects_after held event)
    touched_or_not event right live is true touched undue unmoved = absurd (cc undue)
    touched_or_not event right live is false touched undue unmoved =
        unmoved ∙ ap Some (sym (stay program.config held at_keys lawful event right query (sym (ap (is_touched program.config held event) is) ∙ touched)).view)

    not_due : (touched : Bool) → last_told None (cond touched (Some true) None) (is_due program past id) ≡ false → is_due program past id ≡ false
    not_due true undue = absurd (cc undue)
    not_due false undue = undue

    event_unmoved : (event : Event) → IsLawfulEvent event
        → StaysUnmoved (live_at program past id) (last_told None (cond (is_touched program.config held event (live_at program past id)) (Some true) None) (is_due program past id)) (last_drain program past id) (objects_after held event)
    event_unmoved event right live undue =
        touched_or_not event right (live_at program past id) live (is_touched program.config held event (live_at program past id)) refl undue (so_far live (not_due (is_touched program.config held event (live_at program past id)) undue))

    subscribed : (b : Bool) (asked : Query)
        → StaysUnmoved (last_told None (cond b (Some (Some asked)) None) (live_at program past id)) (last_told None (cond b (Some true) None) (is_due program past id)) (last_told None (cond b (Some None) None) (last_drain program past id)) held
    subscribed true asked live undue = absurd (cc undue)
    subscribed false asked live undue = so_far live undue

    cancelled : (b : Bool)
        → StaysUnmoved (last_told None (cond b (Some None) None) (live_at program past id)) (last_told None (cond b (Some false) None) (is_due program past id)) (last_drain program past id) held
    cancelled true live undue = absurd (cc live)
    cancelled false live undue = so_far live undue

    drained : (b long : Bool) (rows : List MarkedRow) → (after program rows).objects ≡ held
        → StaysUnmoved (last_told None (cond (b && long) (Some None) None) (live_at program past id)) (last_told None (cond b (Some false) None) (is_due program past id)) (last_told None (cond b (Some (Some rows)) None) (last_drain program past id)) held
    drained true long rows here live undue = ap (λ (objects : ObjectMap). Some (view_of program.config objects query)) here
    drained false long rows here live undue = so_far live undue

    step_unmoved : (rows : List MarkedRow) (refusal : Option Refusal) (line : Result Line Refusal) → IfOk line IsLawfulLine
        → after program rows ≡ unless_refused refusal (after program past) (after_line program (after program past) line)
        → StaysUnmoved (last_told refusal (asked_by program (after program past) line id) (live_at program past id)) (last_told refusal (due_by program past line id) (is_due program past id))
        (last_told refusal (drain_in rows line id) (last_drain program past id)) (unless_refused refusal (after program past) (after_line program (after program past) line)).objects
    step_unmoved rows (Some refusal) line right here = so_far
    step_unmoved rows None (Err fault) right here = so_far
    step_unmoved rows None (Ok lines.Blank) right here = so_far
    step_unmoved rows None (Ok (lines.Simulate request)) right here = so_far
    step_unmoved rows None (Ok lines.Stop) right here = so_far
    step_unmoved rows None (Ok (lines.Event event)) right here = event_unmoved event right
    step_unmoved rows None (Ok (lines.Subscribe asked one)) right here = subscribed (eqb asked.0 id) one
    step_unmoved rows None (Ok (lines.Cancel asked)) right here = cancelled (eqb asked.0 id)
    step_unmoved rows None (Ok (lines.Drain asked)) right here =
        drained (eqb asked.0 id) (meets_too_long program (after program past) id) rows (ap (λ (state : State). state.objects) here)

  module _ (reads : ReadsLawfully program) (lawful : HeldAreLawful program) (at_keys : HeldAtKeys program) where
    pub unmoved : (past : List MarkedRow) → StaysUnmoved (live_at program past id) (is_due program past id) (last_drain program past id) (after program past).objects
    unmoved [] live undue = absurd (cc live)
    unmoved (row ∷ past) live undue =
        step_unmoved past (at_keys past) (lawful past) (unmoved past) (row ∷ past) (refusal_after program past row) (reading_after program past row) (row_lawful program reads past row) refl live undue

module _ (program : Program) (stay : UntouchedQueriesStay) (reads : ReadsLawfully program) (lawful : HeldAreLawful program) (at_keys : HeldAtKeys program)
    (live : LastLineDecidesLive program) (told : LastDrainDecidesShown program) where
  pub only_due_are_owed : OnlyDueAreOwed program
  only_due_are_owed past id asked found undue =
      ap (view_before program.config asked.query) (told past id asked found)
      ∙ unmoved program stay id asked.query reads lawful at_keys past (sym (live past id) ∙ ap (λ (one : Option Asked). option_map (λ (a : Asked). a.query) one) found) undue
