-- The numbers of new links in turns, against those in a trace.
use Rattle.std.proofs.Common.{◌≡◌, ℕ, ◌==◌, ◌≤◌, ◌<◌, max, Bool, true, false, List, [], ◌∷◌, ◌++◌, Option, Some, None, inl, inr, ◌⊎◌, refl, sym, ap, ◌∙◌, subst, arith}
use Rattle.std.proofs.lemmas.Bool.Decides.{nat_tests}
use Rattle.std.proofs.lemmas.List.Concat.{flat_map-cons}
use Rattle.mesh_links.specs.Calls.{AreAbove, last_after, last_of_events}
use Rattle.mesh_links.specs.declared.call.LinkCall.{LinkCall}
use Rattle.mesh_links.specs.declared.call.LinkCall.TheVariants as calls
use Rattle.mesh_links.specs.declared.call.LinkEvent.{LinkEvent}
use Rattle.mesh_links.specs.declared.call.LinkEvent.TheVariants as events
use Rattle.serve_rules.specs.Batches.{Serving}
use Rattle.serve_rules.specs.Due.{NoNewEvents, NoNew}
use Rattle.serve_rules.specs.FedLines.{FedRow}
use Rattle.serve_rules.specs.LinkOrder.{AreAboveIn, NumbersRise, last_number, last_shown}
use Rattle.serve_rules.specs.LinkStates.{LinkState, may_read, may_write}
use Rattle.serve_rules.specs.Traces.{AreTurns, opened, trace_of}
use Rattle.serve_rules.specs.Turns.{ReadIf, Turn, WriteIf, calls_of}
use Rattle.serve_rules.specs.WrittenBytes.{NeverNew, NewAtMostOnce, NewOnce, NewOnceEvents}
use Rattle.serve_core.proofs.MadeCalls.{OfSteps, of_closing, of_turn}
use Rattle.serve_core.proofs.OpenTraces.{last_then}
use Rattle.serve_core.proofs.Polls.{rises}

-- ---- no call after the poll of a turn is a poll

abbrev pub NoPolls : List LinkCall → Type 0
NoPolls [] = Unit {0}
NoPolls (calls.Poll wait got ∷ made) = ⊥
NoPolls (calls.Read n space got ∷ made) = NoPolls made
NoPolls (calls.Write n piece got ∷ made) = NoPolls made
NoPolls (calls.Close n ∷ made) = NoPolls made

none_then : (xs ys : List LinkCall) → NoPolls xs → NoPolls ys → NoPolls (xs ++ ys)
none_then [] ys first second = second
none_then (calls.Poll wait got ∷ xs) ys first second = absurd first
none_then (calls.Read n space got ∷ xs) ys first second = none_then xs ys first second
none_then (calls.Write n piece got ∷ xs) ys first second = none_then xs ys first second
none_then (calls.Close n ∷ xs) ys first second = none_then xs ys first second

pub last_stays : (last : ℕ) (made : List LinkCall) → NoPolls made → last_after last made ≡ last
last_stays last [] none = refl
last_stays last (calls.Poll wait got ∷ made) none = absurd none
last_stays last (calls.Read n space got ∷ made) none = last_stays last made none
last_stays last (calls.Write n piece got ∷ made) none = last_stays last made none
last_stays last (calls.Close n ∷ made) none = last_stays last made none

read_none : (b : Bool) (serving : Serving) (others : List LinkState) (fed : List FedRow) (s : LinkState) (made : List LinkCall) (now : List FedRow) (t : LinkState) → ReadIf b serving false others fed s made now t → NoPolls made
read_none true serving others fed s made now t reads = subst NoPolls (sym reads.calls) (of_closing NoPolls tt (λ n. tt) s t)
read_none false serving others fed s made now t rests = subst NoPolls (sym rests.calls) tt

write_none : (b : Bool) (serving : Serving) (others : List LinkState) (fed : List FedRow) (s : LinkState) (made : List LinkCall) (now : List FedRow) (t : LinkState) → WriteIf b serving others fed s made now t → NoPolls made
write_none true serving others fed s made now t writes = subst NoPolls (sym writes.calls) (of_closing NoPolls tt (λ n. tt) s t)
write_none false serving others fed s made now t rests = subst NoPolls (sym rests.calls) tt

no_polls : (serving : Serving) → OfSteps serving NoPolls
no_polls serving = record {
  none = tt;
  both = none_then;
  close = λ n. tt;
  read = λ others fed s made now t stepped. read_none (may_read serving s) serving others fed s made now t stepped;
  write = λ others fed s made now t stepped. write_none (may_write s) serving others fed s made now t stepped;
}

-- ---- the last number

last_polled : (last : ℕ) (wait : Bool) (shown : Option (List LinkEvent)) (made : List LinkCall) → NoPolls made → last_after last (calls.Poll wait shown ∷ made) ≡ last_shown last shown
last_polled last wait None made none = last_stays last made none
last_polled last wait (Some shown) made none = last_stays (last_of_events last shown) made none

pub last_is : (serving : Serving) (fed : List FedRow) (before : List LinkState) (turns : List Turn) (last : ℕ) → AreTurns serving false fed before turns → last_after last (trace_of turns) ≡ last_number last turns
last_is serving fed before [] last are = refl
last_is serving fed before (r ∷ turns) last are =
    let none = of_turn serving NoPolls (no_polls serving) r.shown fed before r.made r.fed r.links are.0 in
    ap (last_after last) (flat_map-cons calls_of r turns)
    ∙ last_then last (calls_of r) (trace_of turns)
    ∙ ap (λ n. last_after n (trace_of turns)) (last_polled last r.waited r.shown r.made none)
    ∙ last_is serving r.fed (opened r.links) turns (last_shown last r.shown) are.1

pub numbers_last : (last : ℕ) (turns : List Turn) (r : Turn) → NumbersRise last turns → AreAboveIn (last_number last turns) r.shown → NumbersRise last (turns ++ r ∷ [])
numbers_last last [] r rise above = (above, tt)
numbers_last last (first ∷ turns) r rise above = (rise.0, numbers_last (last_shown last first.shown) turns r rise.1 above)

-- ---- each link is shown as new at most once

module _ (k : ℕ) where
  other : (n : ℕ) → k < n → (n == k) ≡ false
  other n less = grind (arith, nat_tests)

  no_more : (last : ℕ) (shown : List LinkEvent) → k ≤ last → AreAbove last shown → NoNewEvents k shown
  no_more last [] le above = tt
  no_more last (events.New n ∷ shown) le above = let less : last < n = above.0 in (other n (omega (arith, less)), no_more n shown (omega (arith, less)) above.1)
  no_more last (events.Readable n ∷ shown) le above = no_more last shown le above
  no_more last (events.Writable n ∷ shown) le above = no_more last shown le above

  -- the link is new once, and then its number is not above the last, or not at all
  once_or_not : (last : ℕ) (shown : List LinkEvent) → AreAbove last shown → NoNewEvents k shown ⊎ (NewOnceEvents k shown × (k ≤ last_of_events last shown))
  once_or_not last [] above = inl tt
  once_or_not last (events.New n ∷ shown) above = by (n == k) refl (once_or_not n shown above.1)
    where
      most : max last n ≡ n
      most = let less : last < n = above.0 in omega (arith, less)

      here : (n == k) ≡ true → NoNewEvents k (events.New n ∷ shown) ⊎ (NewOnceEvents k (events.New n ∷ shown) × (k ≤ last_of_events (max last n) shown))
      here is =
          let same : k ≤ n = grind (arith, nat_tests) in
          let rest = rises (max last n) shown in
          let le : n ≤ max last n = omega arith in
          inr (inl (is, no_more n shown same above.1), omega (arith, same, le, rest))

      by : (b : Bool) → (n == k) ≡ b → NoNewEvents k shown ⊎ (NewOnceEvents k shown × (k ≤ last_of_events n shown)) → NoNewEvents k (events.New n ∷ shown) ⊎ (NewOnceEvents k (events.New n ∷ shown) × (k ≤ last_of_events (max last n) shown))
      by true is rest = here is
      by false is (inl none) = inl (is, none)
      by false is (inr some) = inr (inr (is, some.0), subst (λ m. k ≤ last_of_events m shown) (sym most) some.1)
  once_or_not last (events.Readable n ∷ shown) above = once_or_not last shown above
  once_or_not last (events.Writable n ∷ shown) above = once_or_not last shown above

  turn_once : (last : ℕ) (shown : Option (List LinkEvent)) → AreAboveIn last shown → NoNew k shown ⊎ (NewOnce k shown × (k ≤ last_shown last shown))
  turn_once last None above = inl tt
  turn_once last (Some shown) above = once_or_not last shown above

  none_shown : (last : ℕ) (shown : Option (List LinkEvent)) → k ≤ last → AreAboveIn last shown → NoNew k shown
  none_shown last None le above = tt
  none_shown last (Some shown) le above = no_more last shown le above

  still : (last : ℕ) (shown : Option (List LinkEvent)) → k ≤ last → k ≤ last_shown last shown
  still last None le = le
  still last (Some shown) le = let more = rises last shown in omega (arith, more)

  never : (last : ℕ) (turns : List Turn) → k ≤ last → NumbersRise last turns → NeverNew k turns
  never last [] le rise = tt
  never last (r ∷ turns) le rise = (none_shown last r.shown le rise.0, never (last_shown last r.shown) turns (still last r.shown le) rise.1)

  pub new_at_most_once : (last : ℕ) (turns : List Turn) → NumbersRise last turns → NewAtMostOnce k turns
  new_at_most_once last [] rise = tt
  new_at_most_once last (r ∷ turns) rise =
      elim (turn_once last r.shown rise.0) [
        | inl none ↦ inl (none, new_at_most_once (last_shown last r.shown) turns rise.1)
        | inr some ↦ inr (some.0, never (last_shown last r.shown) turns some.1 rise.1)
      ]
