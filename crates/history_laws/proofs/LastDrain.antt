-- What was held when a subscription was last drained is what was held at the row of its last accepted drain.
use Rattle.std.proofs.Common.{◌≡◌, ℕ, Bool, true, false, cond, eqb, List, [], ◌∷◌, ◌++◌, Option, Some, None, refl, sym, ap, ◌∙◌}
use Rattle.std.specs.Prelude.{Result, Ok, Err, ◌==◌, option_map, if◌then◌else◌}
use Rattle.view_types.specs.Objects.{ObjectMap}
use Rattle.watch_events.specs.declared.line.Line.{Line}
use Rattle.watch_events.specs.declared.line.Line.TheVariants as lines
use Rattle.request_sim.specs.declared.fault.SimFault.{SimFault}
use Rattle.feed_history.specs.declared.refusal.Refusal.{Refusal}
use Rattle.feed_history.specs.History.{Asked, State, after, after_line, asked_at, id_of, reading_after, refusal_after, refusal_of, told_now}
use Rattle.feed_history.specs.Ids.{ended, in_place, unless_refused}
use Rattle.feed_history.specs.LookBack.{last_told}
use Rattle.feed_history.specs.Marks.{MarkedRow}
use Rattle.feed_history.specs.Program.{Program}
use Rattle.feed_history.specs.LastDrain.{LastDrainDecidesShown, drain_in, last_drain}
use Rattle.feed_history.proofs.AscendingIds.{IsAbove, found_new}
use Rattle.feed_history.proofs.EntriesById.{ended_keeps, found_in_place, gone, then_at}
use Rattle.history_laws.proofs.Lives.{IsOrdered, above_last, ordered}
use Rattle.history_laws.proofs.Told.{told_keeps, was_told}

-- what was held at a drain
abbrev held_at_drain : Program → Option (List MarkedRow) → Option ObjectMap
held_at_drain program last = option_map (λ rows. (after program rows).objects) last

-- what was told to the subscription under the id is what was held there
abbrev IsToldAt : Program → List Asked → ℕ → Option (List MarkedRow) → Type 0
IsToldAt program subs id last = (asked : Asked) → asked_at id subs ≡ Some asked → asked.told ≡ held_at_drain program last

module _ (program : Program) (now : State) (id : ℕ) (last : Option (List MarkedRow)) (ordered : IsOrdered now) (so_far : IsToldAt program now.subs id last) where
  subscribed_told : (new : Asked) → new.told ≡ None → IsAbove now.last new.id.0 → IsToldAt program (now.subs ++ new ∷ []) id (last_told None (if new.id.0 == id then Some None else None) last)
  subscribed_told new untold above asked found = by_id (eqb new.id.0 id) (sym (found_new id_of now.last now.subs ordered id new above) ∙ found)
    where
      by_id : (b : Bool) → cond b (Some new) (asked_at id now.subs) ≡ Some asked → asked.told ≡ held_at_drain program (last_told None (cond b (Some None) None) last)
      by_id true is = let same : new ≡ asked = cc is in ap (λ (one : Asked). one.told) (sym same) ∙ untold
      by_id false is = so_far asked is

  cancelled_told : (cancelled : ℕ) → IsToldAt program (in_place id_of cancelled ended now.subs) id last
  cancelled_told cancelled asked found = by_id (eqb cancelled id) (sym (found_in_place id_of id cancelled ended (ended_keeps id_of) now.subs ordered.ascend) ∙ found)
    where
      by_id : (b : Bool) → cond b (then_at ended (asked_at id now.subs)) (asked_at id now.subs) ≡ Some asked → asked.told ≡ held_at_drain program last
      by_id true is = absurd (gone (asked_at id now.subs) asked is)
      by_id false is = so_far asked is

  drained_told : (rows : List MarkedRow) (drained : ℕ) → (after program rows).objects ≡ now.objects
      → IsToldAt program (in_place id_of drained (told_now program now.objects) now.subs) id (last_told None (if drained == id then Some (Some rows) else None) last)
  drained_told rows drained here asked found = by_id (eqb drained id) (sym (found_in_place id_of id drained (told_now program now.objects) (told_keeps program now.objects) now.subs ordered.ascend) ∙ found)
    where
      by_id : (b : Bool) → cond b (then_at (told_now program now.objects) (asked_at id now.subs)) (asked_at id now.subs) ≡ Some asked
          → asked.told ≡ held_at_drain program (last_told None (cond b (Some (Some rows)) None) last)
      by_id true is = let drain = was_told program now.objects (asked_at id now.subs) asked is in ap (λ (one : Asked). one.told) drain.left_is ∙ ap Some (sym here)
      by_id false is = so_far asked is

told_step : (program : Program) (now : State) (met : Option SimFault) (line : Result Line Refusal) (refusal : Option Refusal) (rows : List MarkedRow) (id : ℕ) (last : Option (List MarkedRow)) → refusal_of program now met line ≡ refusal
    → after program rows ≡ unless_refused refusal now (after_line program now line) → IsOrdered now → IsToldAt program now.subs id last
    → IsToldAt program (unless_refused refusal now (after_line program now line)).subs id (last_told refusal (drain_in rows line id) last)
told_step program now met line (Some refusal) rows id last is here ordered so_far = so_far
told_step program now met (Err fault) None rows id last is here ordered so_far = so_far
told_step program now met (Ok lines.Blank) None rows id last is here ordered so_far = so_far
told_step program now met (Ok (lines.Simulate request)) None rows id last is here ordered so_far = so_far
told_step program now met (Ok lines.Stop) None rows id last is here ordered so_far = so_far
told_step program now met (Ok (lines.Event event)) None rows id last is here ordered so_far = so_far
told_step program now met (Ok (lines.Subscribe asked query)) None rows id last is here ordered so_far =
    subscribed_told program now id last ordered so_far (record { id = asked; query = query; told = None }) refl (above_last program now met asked query is)
told_step program now met (Ok (lines.Cancel asked)) None rows id last is here ordered so_far = cancelled_told program now id last ordered so_far asked.0
told_step program now met (Ok (lines.Drain asked)) None rows id last is here ordered so_far =
    drained_told program now id last ordered so_far rows asked.0 (ap (λ (state : State). state.objects) here)

pub told_at_last_drain : (program : Program) → LastDrainDecidesShown program
told_at_last_drain program [] id asked found = absurd (cc found)
told_at_last_drain program (row ∷ past) id asked found =
    told_step program (after program past) row.1 (reading_after program past row) (refusal_after program past row) (row ∷ past) id (last_drain program past id) refl refl (ordered program past) (told_at_last_drain program past id) asked found
