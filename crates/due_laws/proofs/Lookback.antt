-- How a row changes who is due, and that who is due is live.
use Rattle.std.proofs.Common.{◌≡◌, ◌||◌, ◌&&◌, ℕ, Bool, true, false, cond, eqb, List, ◌∷◌, [], Option, Some, None, refl, sym, ap, ◌∙◌}
use Rattle.std.specs.Prelude.{Result, Ok, Err}
use Rattle.std.specs.Option.{is_some}
use Rattle.view_types.specs.declared.query.Query.{Query}
use Rattle.view_rules.specs.Views.{view_before, view_of}
use Rattle.watch_events.specs.declared.event.Event.{Event}
use Rattle.watch_events.specs.declared.line.Line.{Line}
use Rattle.watch_events.specs.declared.line.Line.TheVariants as lines
use Rattle.feed_history.specs.History.{after, reading_after, refusal_after}
use Rattle.feed_history.specs.Live.{LastLineDecidesLive, asked_by, live_at, meets_too_long}
use Rattle.feed_history.specs.LookBack.{last_told}
use Rattle.feed_history.specs.Marks.{MarkedRow}
use Rattle.feed_history.specs.Program.{Program}
use Rattle.feed_history.specs.declared.refusal.Refusal.{Refusal}
use Rattle.feed_history.specs.Due.{due_after, due_by, is_due, is_touched}
use Rattle.due_laws.specs.Laws.{DueAfterRows, DueAreLive, NeverDrainedAreDue, OnlyDueAreOwed}

added : (b before : Bool) → last_told None (cond b (Some true) None) before ≡ (b || before)
added true before = refl
added false before = refl

taken : (b before : Bool) → last_told None (cond b (Some false) None) before ≡ cond b false before
taken true before = refl
taken false before = refl

changed : (program : Program) → LastLineDecidesLive program → (past : List MarkedRow) (refusal : Option Refusal) (line : Result Line Refusal) (id : ℕ) (before : Bool)
    → last_told refusal (due_by program past line id) before ≡ cond (is_some refusal) before (due_after program.config (after program past) line id before)
changed program live past (Some refusal) line id before = refl
changed program live past None (Err fault) id before = refl
changed program live past None (Ok lines.Blank) id before = refl
changed program live past None (Ok (lines.Simulate request)) id before = refl
changed program live past None (Ok lines.Stop) id before = refl
changed program live past None (Ok (lines.Event event)) id before =
    added (is_touched program.config (after program past).objects event (live_at program past id)) before
    ∙ ap (λ query. is_touched program.config (after program past).objects event query || before) (sym (live past id))
changed program live past None (Ok (lines.Subscribe asked query)) id before = added (eqb asked.0 id) before
changed program live past None (Ok (lines.Cancel asked)) id before = taken (eqb asked.0 id) before
changed program live past None (Ok (lines.Drain asked)) id before = taken (eqb asked.0 id) before

pub due_after_rows : (program : Program) → LastLineDecidesLive program → DueAfterRows program
due_after_rows program live past row id = changed program live past (refusal_after program past row) (reading_after program past row) id (is_due program past id)

-- who is due is live
abbrev IsLiveIf : Bool → Option Query → Type 0
IsLiveIf due live = due ≡ true → is_some live ≡ true

module _ (program : Program) (past : List MarkedRow) (id : ℕ) (so_far : IsLiveIf (is_due program past id) (live_at program past id)) where
  event_live : (event : Event) (live : Option Query) → live ≡ live_at program past id → (touched : Bool) → is_touched program.config (after program past).objects event live ≡ touched
      → IsLiveIf (last_told None (cond touched (Some true) None) (is_due program past id)) live
  event_live event None same true is is_so = absurd (cc is)
  event_live event (Some query) same true is is_so = refl
  event_live event live same false is is_so = ap is_some same ∙ so_far is_so

  subscribed_live : (b : Bool) (query : Query) → IsLiveIf (last_told None (cond b (Some true) None) (is_due program past id)) (last_told None (cond b (Some (Some query)) None) (live_at program past id))
  subscribed_live true query is_so = refl
  subscribed_live false query is_so = so_far is_so

  gone_live : (b long : Bool) → IsLiveIf (last_told None (cond b (Some false) None) (is_due program past id)) (last_told None (cond (b && long) (Some None) None) (live_at program past id))
  gone_live true long is_so = absurd (cc is_so)
  gone_live false long is_so = so_far is_so

  cancelled_live : (b : Bool) → IsLiveIf (last_told None (cond b (Some false) None) (is_due program past id)) (last_told None (cond b (Some None) None) (live_at program past id))
  cancelled_live true is_so = absurd (cc is_so)
  cancelled_live false is_so = so_far is_so

  row_live : (refusal : Option Refusal) (line : Result Line Refusal)
      → IsLiveIf (last_told refusal (due_by program past line id) (is_due program past id)) (last_told refusal (asked_by program (after program past) line id) (live_at program past id))
  row_live (Some refusal) line = so_far
  row_live None (Err fault) = so_far
  row_live None (Ok lines.Blank) = so_far
  row_live None (Ok (lines.Simulate request)) = so_far
  row_live None (Ok lines.Stop) = so_far
  row_live None (Ok (lines.Event event)) = event_live event (live_at program past id) refl (is_touched program.config (after program past).objects event (live_at program past id)) refl
  row_live None (Ok (lines.Subscribe asked query)) = subscribed_live (eqb asked.0 id) query
  row_live None (Ok (lines.Cancel asked)) = cancelled_live (eqb asked.0 id)
  row_live None (Ok (lines.Drain asked)) = gone_live (eqb asked.0 id) (meets_too_long program (after program past) id)

pub due_are_live : (program : Program) → DueAreLive program
due_are_live program [] id is_so = absurd (cc is_so)
due_are_live program (row ∷ past) id is_so = row_live program past id (due_are_live program past id) (refusal_after program past row) (reading_after program past row) is_so

-- a live subscription that was never drained is owed its view, so it is due
pub never_drained_are_due : (program : Program) → OnlyDueAreOwed program → NeverDrainedAreDue program
never_drained_are_due program owed past id asked found untold = by_due (is_due program past id) refl
  where
    by_due : (due : Bool) → is_due program past id ≡ due → due ≡ true
    by_due true is = refl
    by_due false is =
        let differ : None ≡ Some (view_of program.config (after program past).objects asked.query) = sym (ap (view_before program.config asked.query) untold) ∙ owed past id asked found is in
        absurd (cc differ)
