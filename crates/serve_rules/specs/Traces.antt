-- Traces of whole turns, the last of which may be cut short if memory ran out, and their effect.
use Rattle.std.specs.Prelude.{◌≡◌, ℕ, Bool, false, not, List, [], ◌∷◌, ◌++◌, Option}
use Rattle.std.specs.List.{filter, flat_map, list_any}
use Rattle.mesh_links.specs.declared.call.LinkCall.{LinkCall}
use Rattle.feed_history.specs.MarkCauses.{AreFair}
use Rattle.feed_history.specs.Marks.{AreFew}
use Rattle.serve_rules.specs.FedLines.{FedRow, lines_since, rows_fed}
use Rattle.serve_rules.specs.Batches.{Serving}
use Rattle.serve_rules.specs.LinkStates.{LinkState, has_work}
use Rattle.serve_rules.specs.Turns.{Turn, IsTurn, calls_of}
use Rattle.route_match.specs.Asking.{PatternFacts}

abbrev pub opened : List LinkState → List LinkState
opened all = filter (λ s. s.is_open) all

-- whole turns, one after another; the links that a turn leaves open are those of the next
abbrev pub AreTurns : Serving → Bool → List FedRow → List LinkState → List Turn → Type 0
AreTurns serving strict fed before [] = Unit {0}
AreTurns serving strict fed before (r ∷ rounds) = IsTurn serving strict fed before r × AreTurns serving strict r.fed (opened r.links) rounds

-- a poll waits exactly if no link has work
abbrev pub waits : Serving → List FedRow → List LinkState → Bool
waits serving fed before = not (list_any (has_work serving fed) before)

abbrev pub WaitRightly : Serving → List FedRow → List LinkState → List Turn → Type 0
WaitRightly serving fed before [] = Unit {0}
WaitRightly serving fed before (r ∷ rounds) = (r.waited ≡ waits serving fed before) × WaitRightly serving r.fed (opened r.links) rounds

-- what was fed, and the links that are open, after turns
abbrev pub fed_in : List FedRow → List Turn → List FedRow
fed_in fed [] = fed
fed_in fed (r ∷ rounds) = fed_in r.fed rounds

abbrev pub links_in : List LinkState → List Turn → List LinkState
links_in before [] = before
links_in before (r ∷ rounds) = links_in (opened r.links) rounds

abbrev pub trace_of : List Turn → List LinkCall
trace_of rounds = flat_map calls_of rounds

-- A trace of whole turns, what was fed and the links before it, and what was fed and the links after it.
pub record Leads (serving : Serving) (fed : List FedRow) (before : List LinkState) (trace : List LinkCall) (now : List FedRow) (after : List LinkState) : Type 0 where
  pub rounds : List Turn
  pub turns : AreTurns serving false fed before rounds
  pub wait : WaitRightly serving fed before rounds
  pub trace_is : trace ≡ trace_of rounds
  pub fed_is : now ≡ fed_in fed rounds
  pub links_are : after ≡ links_in before rounds

-- A trace is lawful if it is one of whole turns, or if more calls would make it one, so that its last turn is cut short. A line has a
-- pattern fault only if it simulates a request that may meet it.
pub record IsLawful (serving : Serving) (facts : PatternFacts) (trace : List LinkCall) : Type 0 where
  pub whole : List LinkCall
  pub part : List LinkCall
  pub more : List LinkCall
  pub now : List FedRow
  pub after : List LinkState
  pub last_fed : List FedRow
  pub last_links : List LinkState
  pub trace_is : trace ≡ whole ++ part
  pub leads : Leads serving [] [] whole now after
  pub last : Leads serving now after (part ++ more) last_fed last_links
  pub fair : AreFair serving.program facts (rows_fed last_fed)

-- The trace of whole turns from the start gives these lines fed and these open links.
pub record StandsFor (serving : Serving) (facts : PatternFacts) (trace : List LinkCall) (fed : List FedRow) (links : List LinkState) : Type 0 where
  pub leads : Leads serving [] [] trace fed links
  pub fair : AreFair serving.program facts (rows_fed fed)

-- At most as many of the lines that were added have a pattern fault as the count of refusals rose.
abbrev pub AreFewSince : List FedRow → List FedRow → ℕ → ℕ → Type 0
AreFewSince fed now refusals_before refusals_now = AreFew (rows_fed (lines_since fed now)) refusals_before refusals_now
