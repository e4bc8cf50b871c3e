-- The extension of a lawful trace by a turn.
use Rattle.std.specs.Prelude.{◌≡◌, ℕ, Bool, false, List, [], ◌++◌, Option, Some}
use Rattle.mesh_links.specs.declared.call.LinkCall.{LinkCall}
use Rattle.mesh_links.specs.declared.call.LinkEvent.{LinkEvent}
use Rattle.feed_history.specs.MarkCauses.{AreFair}
use Rattle.serve_rules.specs.FedLines.{FedRow, rows_fed}
use Rattle.serve_rules.specs.Batches.{Serving}
use Rattle.serve_rules.specs.LinkStates.{LinkState}
use Rattle.serve_rules.specs.Turns.{Turn, IsTurn, calls_of}
use Rattle.serve_rules.specs.Traces.{IsLawful, StandsFor, opened, waits}
use Rattle.route_match.specs.Asking.{PatternFacts}

-- A new server represents the empty trace.
abbrev pub BeginsWithNothing : Type 0
BeginsWithNothing = (serving : Serving) (facts : PatternFacts) → StandsFor serving facts [] [] []

-- a turn that may come next
pub record IsNext (serving : Serving) (facts : PatternFacts) (fed : List FedRow) (links : List LinkState) (r : Turn) : Type 0 where
  pub turn : IsTurn serving false fed links r
  pub wait : r.waited ≡ waits serving fed links
  pub fair : AreFair serving.program facts (rows_fed r.fed)

abbrev pub TurnExtends : Type 0
TurnExtends = (serving : Serving) (facts : PatternFacts) (trace : List LinkCall) (fed : List FedRow) (links : List LinkState) (r : Turn)
    → StandsFor serving facts trace fed links → IsNext serving facts fed links r → StandsFor serving facts (trace ++ calls_of r) r.fed (opened r.links)

-- With the first calls of a turn, the trace becomes one whose last turn is cut short.
abbrev pub CutExtends : Type 0
CutExtends = (serving : Serving) (facts : PatternFacts) (trace : List LinkCall) (fed : List FedRow) (links : List LinkState) (r : Turn) (part more : List LinkCall)
    → StandsFor serving facts trace fed links → IsNext serving facts fed links r → calls_of r ≡ part ++ more → IsLawful serving facts (trace ++ part)

-- a turn whose poll reported these events
pub record IsPolled (serving : Serving) (fed : List FedRow) (links : List LinkState) (shown : Option (List LinkEvent)) : Type 0 where
  pub round : Turn
  pub wait : round.waited ≡ waits serving fed links
  pub showed : round.shown ≡ shown
  pub same : round.fed ≡ fed
  pub turn : IsTurn serving false fed links round

-- Whatever a poll reports, some turn that feeds nothing continues from it.
abbrev pub SomeTurnGoesOn : Type 0
SomeTurnGoesOn = (serving : Serving) (fed : List FedRow) (links : List LinkState) (shown : Option (List LinkEvent)) → IsPolled serving fed links shown
