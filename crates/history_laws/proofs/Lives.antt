-- Live ids ascend up to the greatest accepted one, and the last accepted row that speaks of an id tells its query.
use Rattle.std.proofs.Common.{◌≡◌, ℕ, Bool, true, false, cond, eqb, List, [], ◌∷◌, ◌++◌, Option, Some, None, refl, sym, ap, ◌∙◌, subst, arith}
use Rattle.std.specs.Prelude.{Result, Ok, Err, is_some, length, ◌==◌, ◌&&◌, option_and_then, option_map, if◌then◌else◌}
use Rattle.view_types.specs.declared.query.Query.{Query}
use Rattle.watch_events.specs.declared.line.Line.{Line}
use Rattle.watch_events.specs.declared.line.Line.TheVariants as lines
use Rattle.mesh_base.specs.declared.sub_id.SubId.{SubId}
use Rattle.request_sim.specs.declared.fault.SimFault.{SimFault}
use Rattle.feed_history.specs.declared.refusal.HubFault.{HubFault}
use Rattle.feed_history.specs.declared.refusal.Refusal.{Refusal}
use Rattle.feed_history.specs.declared.refusal.Refusal.TheVariants as refusals
use Rattle.feed_history.specs.Drains.{unless_too_long}
use Rattle.feed_history.specs.History.{Asked, State, after, after_line, asked_at, hub_refusal, id_of, reading_after, refusal_after, refusal_of, told_now, too_long_for}
use Rattle.feed_history.specs.Ids.{ended, in_place, unless_refused}
use Rattle.feed_history.specs.Live.{LastIsGreatest, LastLineDecidesLive, LiveIdsAscend, accepted_ids, asked_by, greatest, id_accepted, max_with, meets_too_long, query_at}
use Rattle.feed_history.specs.LookBack.{last_told}
use Rattle.feed_history.specs.Marks.{MarkedRow}
use Rattle.feed_history.specs.Program.{Program}
use Rattle.feed_history.proofs.AscendingIds.{AreOrdered, IsAbove, accepted_is_above, found_new, none_ordered, ordered_in_place, ordered_more}
use Rattle.feed_history.proofs.EntriesById.{ended_keeps, first_of, found_in_place, then_at}
use Rattle.history_laws.proofs.Told.{told_keeps}

-- ---- an accepted id is above those before it

-- the ids of the live subscriptions ascend, up to the greatest accepted one
abbrev pub IsOrdered : State → Type 0
IsOrdered now = AreOrdered id_of now.last now.subs

-- a line that is accepted is refused by none of its causes
not_refused : (placed : Bool) (fault : Option HubFault) → (if placed then option_map refusals.Hub fault else Some refusals.NotHere) ≡ None → fault ≡ None
not_refused true None is = refl
not_refused true (Some fault) is = absurd cc
not_refused false fault is = absurd cc

-- an accepted subscription's id is above the greatest accepted one
pub above_last : (program : Program) (now : State) (met : Option SimFault) (id : SubId) (query : Query) → refusal_of program now met (Ok (lines.Subscribe id query)) ≡ None → IsAbove now.last id.0
above_last program now met id query is =
    accepted_is_above program.limits.subs now.last (length now.subs) id.0 (not_refused (program.has_place (lines.Subscribe id query)) (hub_refusal program now (lines.Subscribe id query)) is)

-- ---- what rows keep

ordered_step : (program : Program) (now : State) (met : Option SimFault) (line : Result Line Refusal) (refusal : Option Refusal) → refusal_of program now met line ≡ refusal → IsOrdered now
    → IsOrdered (unless_refused refusal now (after_line program now line))
ordered_step program now met line (Some refusal) is ordered = ordered
ordered_step program now met (Err fault) None is ordered = ordered
ordered_step program now met (Ok lines.Blank) None is ordered = ordered
ordered_step program now met (Ok (lines.Simulate request)) None is ordered = ordered
ordered_step program now met (Ok lines.Stop) None is ordered = ordered
ordered_step program now met (Ok (lines.Event event)) None is ordered = ordered
ordered_step program now met (Ok (lines.Subscribe id query)) None is ordered = ordered_more id_of now.last now.subs ordered (record { id = id; query = query; told = None }) (above_last program now met id query is)
ordered_step program now met (Ok (lines.Cancel id)) None is ordered = ordered_in_place id_of now.last now.subs ordered id.0 ended (ended_keeps id_of)
ordered_step program now met (Ok (lines.Drain id)) None is ordered = ordered_in_place id_of now.last now.subs ordered id.0 (told_now program now.objects) (told_keeps program now.objects)

pub ordered : (program : Program) (past : List MarkedRow) → IsOrdered (after program past)
ordered program [] = none_ordered id_of
ordered program (row ∷ past) = ordered_step program (after program past) row.1 (reading_after program past row) (refusal_after program past row) refl (ordered program past)

pub live_ids_ascend : (program : Program) → LiveIdsAscend program
live_ids_ascend program past = (ordered program past).ascend

-- ---- the query under an id

abbrev query_of : Option Asked → Option Query
query_of found = option_map (λ asked. asked.query) found

subscribed_query : (now : State) (asked : Asked) (id : ℕ) → IsOrdered now → IsAbove now.last asked.id.0
    → query_at id (now.subs ++ asked ∷ []) ≡ last_told None (if asked.id.0 == id then Some (Some asked.query) else None) (query_at id now.subs)
subscribed_query now asked id ordered lt = ap query_of (found_new id_of now.last now.subs ordered id asked lt) ∙ by_id (eqb asked.id.0 id) (asked_at id now.subs)
  where
    by_id : (b : Bool) (found : Option Asked) → query_of (cond b (Some asked) found) ≡ last_told None (cond b (Some (Some asked.query)) None) (query_of found)
    by_id true found = refl
    by_id false found = refl

cancelled_query : (now : State) (cancelled id : ℕ) → IsOrdered now → query_at id (in_place id_of cancelled ended now.subs) ≡ last_told None (if cancelled == id then Some None else None) (query_at id now.subs)
cancelled_query now cancelled id ordered = ap query_of (found_in_place id_of id cancelled ended (ended_keeps id_of) now.subs ordered.ascend) ∙ by_id (eqb cancelled id) (asked_at id now.subs)
  where
    by_id : (b : Bool) (found : Option Asked) → query_of (cond b (then_at ended found) found) ≡ last_told None (cond b (Some None) None) (query_of found)
    by_id true None = refl
    by_id true (Some asked) = refl
    by_id false found = refl

drained_query : (program : Program) (now : State) (drained id : ℕ) → IsOrdered now
    → query_at id (in_place id_of drained (told_now program now.objects) now.subs) ≡ last_told None (if (drained == id) && meets_too_long program now id then Some None else None) (query_at id now.subs)
drained_query program now drained id ordered =
    ap query_of (found_in_place id_of id drained (told_now program now.objects) (told_keeps program now.objects) now.subs ordered.ascend) ∙ by_id (eqb drained id) (asked_at id now.subs)
  where
    by_length : (asked : Asked) (bytes : Option ℕ) → query_of (first_of (unless_too_long bytes (record asked { told = Some now.objects }))) ≡ last_told None (cond (is_some bytes) (Some None) None) (Some asked.query)
    by_length asked None = refl
    by_length asked (Some n) = refl

    by_id : (b : Bool) (found : Option Asked) → query_of (cond b (then_at (told_now program now.objects) found) found)
        ≡ last_told None (cond (b && is_some (option_and_then (too_long_for program now.objects) found)) (Some None) None) (query_of found)
    by_id true None = refl
    by_id true (Some asked) = by_length asked (too_long_for program now.objects asked)
    by_id false found = refl

asked_step : (program : Program) (now : State) (met : Option SimFault) (line : Result Line Refusal) (refusal : Option Refusal) (id : ℕ) → refusal_of program now met line ≡ refusal → IsOrdered now
    → query_at id (unless_refused refusal now (after_line program now line)).subs ≡ last_told refusal (asked_by program now line id) (query_at id now.subs)
asked_step program now met line (Some refusal) id is ordered = refl
asked_step program now met (Err fault) None id is ordered = refl
asked_step program now met (Ok lines.Blank) None id is ordered = refl
asked_step program now met (Ok (lines.Simulate request)) None id is ordered = refl
asked_step program now met (Ok lines.Stop) None id is ordered = refl
asked_step program now met (Ok (lines.Event event)) None id is ordered = refl
asked_step program now met (Ok (lines.Subscribe asked query)) None id is ordered = subscribed_query now (record { id = asked; query = query; told = None }) id ordered (above_last program now met asked query is)
asked_step program now met (Ok (lines.Cancel asked)) None id is ordered = cancelled_query now asked.0 id ordered
asked_step program now met (Ok (lines.Drain asked)) None id is ordered = drained_query program now asked.0 id ordered

pub live_by_the_last : (program : Program) → LastLineDecidesLive program
live_by_the_last program [] id = refl
live_by_the_last program (row ∷ past) id =
    let now = after program past in
    let refusal = refusal_after program past row in
    asked_step program now row.1 (reading_after program past row) refusal id refl (ordered program past) ∙ ap (last_told refusal (asked_by program now (reading_after program past row) id)) (live_by_the_last program past id)

-- ---- the greatest accepted id

last_step : (program : Program) (now : State) (met : Option SimFault) (line : Result Line Refusal) (refusal : Option Refusal) (ids : List ℕ) → refusal_of program now met line ≡ refusal → now.last ≡ greatest ids
    → (unless_refused refusal now (after_line program now line)).last ≡ greatest (id_accepted refusal line ++ ids)
last_step program now met line (Some refusal) ids is so_far = so_far
last_step program now met (Err fault) None ids is so_far = so_far
last_step program now met (Ok lines.Blank) None ids is so_far = so_far
last_step program now met (Ok (lines.Simulate request)) None ids is so_far = so_far
last_step program now met (Ok lines.Stop) None ids is so_far = so_far
last_step program now met (Ok (lines.Cancel id)) None ids is so_far = so_far
last_step program now met (Ok (lines.Drain id)) None ids is so_far = so_far
last_step program now met (Ok (lines.Event event)) None ids is so_far = so_far
last_step program now met (Ok (lines.Subscribe asked query)) None ids is so_far =
    ap Some (sym (most (greatest ids) asked.0 (subst (λ (last : Option ℕ). IsAbove last asked.0) so_far (above_last program now met asked query is))))
  where
    most : (last : Option ℕ) (id : ℕ) → IsAbove last id → max_with id last ≡ id
    most None id lt = refl
    most (Some last) id lt = omega (arith, lt)

pub last_is_greatest : (program : Program) → LastIsGreatest program
last_is_greatest program [] = refl
last_is_greatest program (row ∷ past) =
    last_step program (after program past) row.1 (reading_after program past row) (refusal_after program past row) (accepted_ids program past) refl (last_is_greatest program past)
