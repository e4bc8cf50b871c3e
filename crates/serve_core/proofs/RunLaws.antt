-- Laws on the calls of a server.
use Rattle.std.proofs.Common.{◌≡◌, ℕ, ◌==◌, Bool, true, false, List, [], ◌∷◌, ◌++◌, Option, Some, None, refl, sym, ap, ◌∙◌, subst, append_assoc}
use Rattle.std.specs.List.{list_any}
use Rattle.std.proofs.lemmas.Bool.{false≢true, not-true, or_parts}
use Rattle.std.proofs.lemmas.List.Concat.{flat_map-cons}
use Rattle.mesh_links.specs.declared.call.LinkCall.{LinkCall}
use Rattle.mesh_links.specs.declared.call.LinkCall.TheVariants as calls
use Rattle.feed_history.specs.KnownPatterns.{PatternsNow}
use Rattle.serve_rules.specs.Batches.{Serving}
use Rattle.serve_rules.specs.Due.{IsPlaced, NoFeedIn, all_written, find, written}
use Rattle.serve_rules.specs.FedLines.{FedRow}
use Rattle.serve_rules.specs.LinkErasure.{NeverFeed, TraceErasure}
use Rattle.serve_rules.specs.LinkFailures.{FailedReadCloses, FailedWriteCloses}
use Rattle.serve_rules.specs.LinkStates.{LinkState, has_work}
use Rattle.serve_rules.specs.Outboxes.{EachHoldsOne, OutboxesHoldOne}
use Rattle.serve_rules.specs.OwedBytes.{ChangesTouch, IsOwed, OwedHasWork}
use Rattle.serve_rules.specs.Traces.{AreTurns, WaitRightly, fed_in, links_in, trace_of}
use Rattle.serve_rules.specs.Turns.{Turn, calls_of}
use Rattle.serve_rules.specs.WrittenBytes.{AllPlacesAscend, DueByPlaces, SameForOthers, WrittenIsDue}
use Rattle.serve_rules.proofs.DueSteps.{find-in, find-out, same_some, written-append}
use Rattle.serve_rules.proofs.LinksLeftOut.{by_test}
use Rattle.serve_core.specs.Ends.{EndsAfter}
use Rattle.serve_core.specs.Laws.{FailuresClose, IsByPlaces, IsLeftOut, IsSent, MeetNoLimit, turns_in}
use Rattle.serve_core.specs.declared.serve.ServeStatus.{ServeStatus}
use Rattle.serve_core.proofs.Failures.{trace_closes}
use Rattle.serve_core.proofs.Numbers.{new_at_most_once}
use Rattle.serve_core.proofs.Placed.{EachPlaced, turns_placed}
use Rattle.serve_core.proofs.RunParts.{trace_on, turns_before, wait_at}

some_is : (xs ys : List LinkCall) → Some xs ≡ Some ys → xs ≡ ys
some_is xs ys same = cc

written_all : (k : ℕ) (turns : List Turn) → written k (trace_of turns) ≡ all_written k turns
written_all k [] = refl
written_all k (r ∷ turns) =
    ap (written k) (flat_map-cons calls_of r turns) ∙ written-append k (calls_of r) (trace_of turns)
    ∙ ap (λ bytes. bytes ++ written k (trace_of turns)) (written-append k (calls.Poll r.waited r.shown ∷ []) r.made)
    ∙ ap (λ bytes. written k r.made ++ bytes) (written_all k turns)

-- ---- links

module _ (k : ℕ) where
  none_passes : (test : LinkState → Bool) (links : List LinkState) (s : LinkState) → list_any test links ≡ false → find k links ≡ Some s → test s ≡ false
  none_passes test [] s none found = absurd cc
  none_passes test (x ∷ links) s none found =
      let parts = or_parts (test x) (list_any test links) none in
      by_test (x.number == k) (test s ≡ false)
      (λ e. sym (ap test (same_some x s (sym (find-in k x links e) ∙ found))) ∙ parts.0)
      (λ e. none_passes test links s parts.1 (sym (find-out k x links e) ∙ found))

  placed_at : (fed : List FedRow) (links : List LinkState) (s : LinkState) → EachPlaced fed links → find k links ≡ Some s → IsPlaced s.drained fed
  placed_at fed [] s placed found = absurd cc
  placed_at fed (x ∷ links) s placed found =
      by_test (x.number == k) (IsPlaced s.drained fed)
      (λ e. subst (λ (y : LinkState). IsPlaced y.drained fed) (same_some x s (sym (find-in k x links e) ∙ found)) placed.0)
      (λ e. placed_at fed links s placed.1 (sym (find-out k x links e) ∙ found))

-- ---- the laws

module _ (serving : Serving) (known : PatternsNow) (status : ServeStatus) (trace : List LinkCall) (run : EndsAfter serving known status (Some trace)) where
  -- with the calls that were not made
  all_calls : trace ++ run.more ≡ trace_of (turns_in run)
  all_calls =
      ap (λ calls. calls ++ run.more) (some_is trace (trace_of run.turns ++ run.part) run.trace_is)
      ∙ append_assoc (trace_of run.turns) run.part run.more
      ∙ ap (λ calls. trace_of run.turns ++ calls) (sym run.cut)
      ∙ sym (trace_on run.turns run.last)

  pub is_sent : WrittenIsDue → (k : ℕ) → IsSent serving k trace run.more (turns_in run)
  is_sent due k =
      let front = due serving false k (turns_in run) run.taken.are (new_at_most_once k 0 (turns_in run) run.taken.numbers) in
      record {
        rest = written k run.more ++ front.rest;
        joined =
            sym (append_assoc (written k trace) (written k run.more) front.rest)
            ∙ ap (λ bytes. bytes ++ front.rest) (sym (written-append k trace run.more) ∙ ap (written k) all_calls ∙ written_all k (turns_in run))
            ∙ front.joined;
        unwritten = λ whole t found. ap (λ calls. written k calls ++ front.rest) whole ∙ front.unwritten t found;
      }

  pub is_by_places : DueByPlaces → AllPlacesAscend → (k : ℕ) → NoFeedIn serving k (turns_in run) → IsByPlaces serving k (turns_in run)
  is_by_places by ascend k none =
      let once = new_at_most_once k 0 (turns_in run) run.taken.numbers in
      record { due = by serving false k (turns_in run) run.taken.are once none; ascend = ascend serving false k (turns_in run) run.taken.are once none }

  pub is_left_out : TraceErasure → SameForOthers → (k : ℕ) → MeetNoLimit serving (turns_in run) → NeverFeed serving k (turns_in run) → IsLeftOut serving k (turns_in run)
  is_left_out erased same k unmet none = record {
    are = erased serving k [] [] (turns_in run) unmet none;
    same = λ j other. same serving j k other [] None (turns_in run);
  }

  pub holds_one : OutboxesHoldOne → (before after : List Turn) → turns_in run ≡ before ++ after → EachHoldsOne serving (links_in [] before)
  holds_one hold before after is = hold serving false [] [] before (turns_before serving false [] [] before after (subst (AreTurns serving false [] []) is run.taken.are)) tt

  pub waits_for_none : OwedHasWork → ChangesTouch serving → (before : List Turn) (r : Turn) (after : List Turn) → turns_in run ≡ before ++ r ∷ after → r.waited ≡ true
      → (k : ℕ) (s : LinkState) → find k (links_in [] before) ≡ Some s → IsOwed serving (fed_in [] before) s → s.writable ≡ false
  waits_for_none work touch before r after is waited k s found owed =
      let fed = fed_in [] before in
      let links = links_in [] before in
      let right = wait_at serving [] [] before r after (subst (WaitRightly serving [] []) is run.taken.wait) in
      let none = none_passes k (has_work serving fed) links s (not-true (list_any (has_work serving fed) links) (sym right ∙ waited)) found in
      let placed = placed_at k fed links s (turns_placed serving [] [] before (turns_before serving false [] [] before (r ∷ after) (subst (AreTurns serving false [] []) is run.taken.are)) tt) found in
      by_test s.writable (s.writable ≡ false) (λ writable. absurd (false≢true (sym none ∙ work serving touch fed s placed owed writable))) (λ e. e)

  pub all_close : FailedReadCloses → FailedWriteCloses → FailuresClose (trace ++ run.more)
  all_close reads writes = subst FailuresClose (sym all_calls) (trace_closes serving reads writes [] [] (turns_in run) run.taken.are)
