-- What holds of the calls that a turn makes after its poll, where it holds of those of each step.
use Rattle.std.proofs.Common.{◌≡◌, ℕ, Bool, true, false, not, List, [], ◌∷◌, ◌++◌, Option, Some, None, sym, subst, if◌then◌else◌}
use Rattle.std.specs.Prelude.{◌&&◌}
use Rattle.mesh_links.specs.declared.call.LinkCall.{LinkCall}
use Rattle.mesh_links.specs.declared.call.LinkCall.TheVariants as calls
use Rattle.mesh_links.specs.declared.call.LinkEvent.{LinkEvent}
use Rattle.mesh_links.specs.declared.call.LinkEvent.TheVariants as events
use Rattle.serve_rules.specs.Batches.{Serving}
use Rattle.serve_rules.specs.FedLines.{FedRow}
use Rattle.serve_rules.specs.LinkStates.{LinkState, closing}
use Rattle.serve_rules.specs.Turns.{AfterPoll, Becomes, DrainStep, Each, Events, Passes, ReadStep, Step, StopStep, WriteStep, admits_link, event_closes, event_to, has_stop}

-- what holds of the calls of each step, and of calls one after another
pub record OfSteps (serving : Serving) (holds : List LinkCall → Type 0) : Type 0 where
  pub none : holds []
  pub both : (xs ys : List LinkCall) → holds xs → holds ys → holds (xs ++ ys)
  pub close : (n : ℕ) → holds (calls.Close n ∷ [])
  pub read : (others : List LinkState) (fed : List FedRow) (s : LinkState) (made : List LinkCall) (now : List FedRow) (t : LinkState) → ReadStep serving false others fed s made now t → holds made
  pub write : (others : List LinkState) (fed : List FedRow) (s : LinkState) (made : List LinkCall) (now : List FedRow) (t : LinkState) → WriteStep serving others fed s made now t → holds made

-- of a close, or of nothing
pub of_closing : (holds : List LinkCall → Type 0) → holds [] → ((n : ℕ) → holds (calls.Close n ∷ [])) → (s t : LinkState) → holds (closing s t)
of_closing holds none close s t = at (s.is_open && not t.is_open)
  where
    at : (b : Bool) → holds (if b then calls.Close s.number ∷ [] else [])
    at true = close s.number
    at false = none

module _ (serving : Serving) (holds : List LinkCall → Type 0) (of : OfSteps serving holds) where
  of_each : (step : Step) → ((others : List LinkState) (fed : List FedRow) (s : LinkState) (made : List LinkCall) (now : List FedRow) (t : LinkState) → step others fed s made now t → holds made)
      → (done : List LinkState) (fed : List FedRow) (ss : List LinkState) (made : List LinkCall) (now : List FedRow) (ts : List LinkState) → Each step done fed ss made now ts → holds made
  of_each step of_step done fed [] made now [] each = subst holds (sym each.0) of.none
  of_each step of_step done fed [] made now (t ∷ ts) each = absurd each
  of_each step of_step done fed (s ∷ ss) made now [] each = absurd each
  of_each step of_step done fed (s ∷ ss) made now (t ∷ ts) each =
      subst holds (sym each.3) (of.both each.0 each.1 (of_step (done ++ ss) fed s each.0 each.2 t each.4) (of_each step of_step (done ++ t ∷ []) each.2 ss each.1 now ts each.5))

  of_becoming : (fed : List FedRow) (s : LinkState) (made : List LinkCall) (now : List FedRow) (t expected : LinkState) → Becomes fed s made now t expected → holds made
  of_becoming fed s made now t expected becomes = subst holds (sym becomes.calls) (of_closing holds of.none of.close s t)

  of_event : (all : List LinkState) (event : LinkEvent) → holds (event_closes serving all event)
  of_event all (events.New n) = at (admits_link serving all)
    where
      at : (b : Bool) → holds (if b then [] else calls.Close n ∷ [])
      at true = of.none
      at false = of.close n
  of_event all (events.Readable n) = of.none
  of_event all (events.Writable n) = of.none

  of_events : (shown : List LinkEvent) (all : List LinkState) (made : List LinkCall) (ts : List LinkState) → Events serving false shown all made ts → holds made
  of_events [] all made ts is = subst holds (sym is.0) of.none
  of_events (event ∷ shown) all made ts is = subst holds (sym is.1) (of.both (event_closes serving all event) is.0 (of_event all event) (of_events shown (event_to serving all event) is.0 ts is.3))

  of_passes : (fed : List FedRow) (polled : List LinkState) (made : List LinkCall) (now : List FedRow) (after : List LinkState) → Passes serving false fed polled made now after → holds made
  of_passes fed polled made now after p =
      let stop = has_stop serving fed now in
      let reads = of_each (ReadStep serving false) of.read [] fed polled p.reads now p.read p.each_read in
      let drains = of_each (DrainStep serving) (λ others fs s made now t stepped. of_becoming fs s made now t _ stepped) [] now p.read p.drains now p.drained p.each_drain in
      let writes = of_each (WriteStep serving) of.write [] now p.drained p.writes now p.written p.each_write in
      let stops = of_each (StopStep stop) (λ others fs s made now t stepped. of_becoming fs s made now t _ stepped) [] now p.written p.stops now after p.each_stop in
      subst holds (sym p.calls_are) (of.both p.reads (p.drains ++ (p.writes ++ p.stops)) reads (of.both p.drains (p.writes ++ p.stops) drains (of.both p.writes p.stops writes stops)))

  pub of_turn : (shown : Option (List LinkEvent)) (fed : List FedRow) (before : List LinkState) (made : List LinkCall) (now : List FedRow) (after : List LinkState) → AfterPoll serving false shown fed before made now after → holds made
  of_turn None fed before made now after is = subst holds (sym is.0) of.none
  of_turn (Some shown) fed before made now after is = subst holds (sym is.3) (of.both is.0 is.1 (of_events shown before is.0 is.2 is.4) (of_passes fed is.2 is.1 now after is.5))
