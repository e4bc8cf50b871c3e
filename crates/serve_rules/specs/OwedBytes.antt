-- What a link is owed, and which links have work.
use Rattle.std.specs.Prelude.{◌≡◌, ◌≢◌, ◌⊎◌, ℕ, true, false, List, ◌∷◌, Option, Some, None}
use Rattle.view_types.specs.declared.query.Query.{Query}
use Rattle.view_types.specs.declared.view.View.{View}
use Rattle.view_rules.specs.Views.{view_of}
use Rattle.serve_rules.specs.FedLines.{FedRow, held_after, rows_fed, up_to}
use Rattle.serve_rules.specs.Batches.{Serving}
use Rattle.serve_rules.specs.LinkStates.{LinkState, has_work, is_empty, query_of}
use Rattle.serve_rules.specs.Due.{IsPlaced}

-- the view of a query after these lines
abbrev pub view_after : Serving → Query → List FedRow → View
view_after serving query fed = view_of serving.program.config (held_after serving.program fed) query

-- A subscriber is owed a batch if it was never drained, or if its view differs from that at its last drain.
abbrev pub IsOwedBatch : Serving → List FedRow → Option ℕ → Query → Type 0
IsOwedBatch serving fed None query = Unit {0}
IsOwedBatch serving fed (Some place) query = view_after serving query (up_to place fed) ≢ view_after serving query fed

abbrev pub IsOwedFor : Serving → List FedRow → Option ℕ → Option Query → Type 0
IsOwedFor serving fed drained None = ⊥
IsOwedFor serving fed drained (Some query) = IsOwedBatch serving fed drained query

-- An open link is owed bytes if something is left to write, or if it is owed a batch.
pub record IsOwed (serving : Serving) (fed : List FedRow) (s : LinkState) : Type 0 where
  pub is_open : s.is_open ≡ true
  pub owed : (is_empty s.outbox ≡ false) ⊎ IsOwedFor serving fed s.drained (query_of serving s.bytes)

-- A line that changes the view of a query touches what the query reads.
abbrev pub ChangesTouch : Serving → Type 0
ChangesTouch serving = (query : Query) (past : List FedRow) (f : FedRow) → serving.touches query (rows_fed past) f.row ≡ false → view_after serving query (f ∷ past) ≡ view_after serving query past

-- A link that is owed bytes has work, unless its last write returned `Pending`.
abbrev pub OwedHasWork : Type 0
OwedHasWork = (serving : Serving) → ChangesTouch serving → (fed : List FedRow) (s : LinkState) → IsPlaced s.drained fed → IsOwed serving fed s → s.writable ≡ true → has_work serving fed s ≡ true
