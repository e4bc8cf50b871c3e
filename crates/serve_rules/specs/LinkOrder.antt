-- Links are in the order of their numbers.
use Rattle.std.specs.Prelude.{◌<◌, ◌≤◌, ℕ, Bool, List, [], ◌∷◌, Option, Some, None}
use Rattle.mesh_links.specs.Calls.{AreAbove, last_of_events}
use Rattle.mesh_links.specs.declared.call.LinkEvent.{LinkEvent}
use Rattle.serve_rules.specs.FedLines.{FedRow}
use Rattle.serve_rules.specs.Batches.{Serving}
use Rattle.serve_rules.specs.LinkStates.{LinkState}
use Rattle.serve_rules.specs.Turns.{Turn}
use Rattle.serve_rules.specs.Traces.{AreTurns, links_in}

-- The numbers are above the first, each is below those that follow it, and none is above the last.
abbrev pub AreBetween : ℕ → List LinkState → ℕ → Type 0
AreBetween low [] high = low ≤ high
AreBetween low (s ∷ ss) high = (low < s.number) × AreBetween s.number ss high

abbrev pub AreAboveIn : ℕ → Option (List LinkEvent) → Type 0
AreAboveIn last None = Unit {0}
AreAboveIn last (Some shown) = AreAbove last shown

abbrev pub last_shown : ℕ → Option (List LinkEvent) → ℕ
last_shown last None = last
last_shown last (Some shown) = last_of_events last shown

-- each link that is reported as new has a number above all earlier ones
abbrev pub NumbersRise : ℕ → List Turn → Type 0
NumbersRise last [] = Unit {0}
NumbersRise last (r ∷ rounds) = AreAboveIn last r.shown × NumbersRise (last_shown last r.shown) rounds

abbrev pub last_number : ℕ → List Turn → ℕ
last_number last [] = last
last_number last (r ∷ rounds) = last_number (last_shown last r.shown) rounds

-- So each step of a turn is taken in the order of the numbers.
abbrev pub LinksAscend : Type 0
LinksAscend = (serving : Serving) (strict : Bool) (fed : List FedRow) (before : List LinkState) (rounds : List Turn) (last : ℕ) → AreTurns serving strict fed before rounds → AreBetween 0 before last → NumbersRise last rounds
    → AreBetween 0 (links_in before rounds) (last_number last rounds)
