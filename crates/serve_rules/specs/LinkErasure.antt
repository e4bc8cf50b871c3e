-- Leaving one link out of a turn.
use Rattle.std.specs.Prelude.{◌≡◌, ℕ, ◌==◌, true, false, not, if◌then◌else◌, List, [], ◌∷◌, map, Option, Some, None}
use Rattle.std.specs.List.{filter, flat_map}
use Rattle.mesh_links.specs.declared.call.LinkCall.{LinkCall}
use Rattle.mesh_links.specs.declared.call.LinkCall.TheVariants as calls
use Rattle.mesh_links.specs.declared.call.LinkEvent.{LinkEvent}
use Rattle.mesh_links.specs.declared.call.LinkEvent.TheVariants as events
use Rattle.serve_rules.specs.FedLines.{FedRow}
use Rattle.serve_rules.specs.Batches.{Serving}
use Rattle.serve_rules.specs.LinkStates.{LinkState, is_feed}
use Rattle.serve_rules.specs.Turns.{Turn, IsTurn}
use Rattle.serve_rules.specs.Traces.{AreTurns}

abbrev pub event_link : LinkEvent → ℕ
event_link (events.New n) = n
event_link (events.Readable n) = n
event_link (events.Writable n) = n

abbrev pub without : ℕ → List LinkState → List LinkState
without k ss = filter (λ s. not (s.number == k)) ss

abbrev pub events_without : ℕ → List LinkEvent → List LinkEvent
events_without k shown = filter (λ e. not (event_link e == k)) shown

abbrev pub shown_without : ℕ → Option (List LinkEvent) → Option (List LinkEvent)
shown_without k None = None
shown_without k (Some shown) = Some (events_without k shown)

abbrev pub call_without : ℕ → LinkCall → List LinkCall
call_without k (calls.Poll wait got) = calls.Poll wait (shown_without k got) ∷ []
call_without k (calls.Read n room got) = if n == k then [] else calls.Read n room got ∷ []
call_without k (calls.Write n piece got) = if n == k then [] else calls.Write n piece got ∷ []
call_without k (calls.Close n) = if n == k then [] else calls.Close n ∷ []

abbrev pub calls_without : ℕ → List LinkCall → List LinkCall
calls_without k made = flat_map (call_without k) made

-- a turn without the link; what was fed stays the same
abbrev pub round_without : ℕ → Turn → Turn
round_without k r = record { waited = r.waited; shown = shown_without k r.shown; made = calls_without k r.made; fed = r.fed; links = without k r.links }

-- the link is no feed
abbrev pub NoFeed : Serving → ℕ → List LinkState → Type 0
NoFeed serving k [] = Unit {0}
NoFeed serving k (s ∷ ss) = ((s.number == k) ≡ true → is_feed serving s.bytes ≡ false) × NoFeed serving k ss

-- A turn in which no limit was reached is still a turn without one link that is no feed after it, except for whether its poll waits.
abbrev pub Erasure : Type 0
Erasure = (serving : Serving) (k : ℕ) (fed : List FedRow) (before : List LinkState) (r : Turn) → IsTurn serving true fed before r → NoFeed serving k r.links → IsTurn serving true fed (without k before) (round_without k r)

abbrev pub NeverFeed : Serving → ℕ → List Turn → Type 0
NeverFeed serving k [] = Unit {0}
NeverFeed serving k (r ∷ rounds) = NoFeed serving k r.links × NeverFeed serving k rounds

-- The same for a list of turns.
abbrev pub TraceErasure : Type 0
TraceErasure = (serving : Serving) (k : ℕ) (fed : List FedRow) (before : List LinkState) (rounds : List Turn) → AreTurns serving true fed before rounds → NeverFeed serving k rounds → AreTurns serving true fed (without k before) (map (round_without k) rounds)

-- A turn in which no limit was reached is a turn under the rules that allow limits to be reached.
abbrev pub StrictTurnsAreTurns : Type 0
StrictTurnsAreTurns = (serving : Serving) (fed : List FedRow) (before : List LinkState) (r : Turn) → IsTurn serving true fed before r → IsTurn serving false fed before r
