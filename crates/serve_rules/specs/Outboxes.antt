-- An outbox has the rest of one batch, or of the answers to one read.
use Rattle.std.specs.Prelude.{◌≡◌, ◌⊎◌, ℕ, Bool, true, false, List, [], ◌∷◌, ◌++◌, Option, Some, None}
use Rattle.std.specs.List.{concat}
use Rattle.view_types.specs.declared.query.Query.{Query}
use Rattle.request_sim.specs.declared.fault.SimFault.{SimFault}
use Rattle.serve_rules.specs.FedLines.{FedRow}
use Rattle.serve_rules.specs.Batches.{Serving, frames_due}
use Rattle.serve_rules.specs.LinkStates.{LinkState, answers_then, came, is_feed, query_of}
use Rattle.serve_rules.specs.Turns.{Turn}
use Rattle.serve_rules.specs.Traces.{AreTurns, links_in}

-- the frames of a drain
pub record AreOneBatch (serving : Serving) (items : List (List ℕ)) : Type 0 where
  pub query : Query
  pub place : Option ℕ
  pub fed : List FedRow
  pub frames : frames_due serving.program query place fed ≡ Some items

-- the answers to the lines of one read
pub record AreOneRead (serving : Serving) (items : List (List ℕ)) : Type 0 where
  pub link : LinkState
  pub met : ℕ → Option SimFault
  pub fed : List FedRow
  pub piece : List ℕ
  pub answers : items ≡ answers_then serving fed (came serving met link piece)

abbrev pub AreOne : Serving → List (List ℕ) → Type 0
AreOne serving items = (items ≡ []) ⊎ (AreOneBatch serving items ⊎ AreOneRead serving items)

-- the rest of these items, the beginning of which was written
pub record HoldsOne (serving : Serving) (s : LinkState) : Type 0 where
  pub items : List (List ℕ)
  pub front : List ℕ
  pub left : front ++ concat s.outbox ≡ concat items
  pub one : AreOne serving items
  -- it is empty if the link is neither a feed nor a subscriber
  pub quiet : s.is_open ≡ true → is_feed serving s.bytes ≡ false → query_of serving s.bytes ≡ None → s.outbox ≡ []

abbrev pub EachHoldsOne : Serving → List LinkState → Type 0
EachHoldsOne serving [] = Unit {0}
EachHoldsOne serving (s ∷ ss) = HoldsOne serving s × EachHoldsOne serving ss

-- The same after each list of turns.
abbrev pub OutboxesHoldOne : Type 0
OutboxesHoldOne = (serving : Serving) (strict : Bool) (fed : List FedRow) (before : List LinkState) (rounds : List Turn) → AreTurns serving strict fed before rounds → EachHoldsOne serving before → EachHoldsOne serving (links_in before rounds)
