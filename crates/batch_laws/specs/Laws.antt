-- The contents of a batch, and the result of folding it.
use Rattle.std.specs.Prelude.{◌≡◌, ◌+◌, ◌<◌, ◌≤◌, ℕ, List, [], Option, Some, None, length, slice_index_or, All, flat_map}
use Rattle.mesh_base.specs.declared.limits.Limits.{Limits}
use Rattle.net_cidr.specs.declared.ip.Ip.{Ip}
use Rattle.view_types.specs.Objects.{AtKeys, ObjectMap}
use Rattle.view_types.specs.declared.config.Config.{Config}
use Rattle.view_types.specs.declared.endpoint.EndpointRow.{EndpointRow}
use Rattle.view_types.specs.declared.query.Query.{Query}
use Rattle.view_types.specs.declared.server_view.AuthzRow.{AuthzRow}
use Rattle.view_types.specs.declared.view.View.{View}
use Rattle.view_rules.specs.AuthzOrder.{AuthzKey}
use Rattle.view_rules.specs.Batch.{batch, in_pieces}
use Rattle.view_rules.specs.Fold.{IsOrderlyIfShown, folded_onto}
use Rattle.view_rules.specs.Views.{view_before, view_of}

-- the pieces joined are the items
pub record IsCut {X : Type 0} (size : ℕ) (items : List X) (pieces : List (List X)) : Type 0 where
  pub joined : flat_map (λ piece. piece) pieces ≡ items
  -- each piece except the last has exactly `size` items, and the last no more
  pub full : (k : ℕ) (d : List X) → k + 1 < length pieces → length (slice_index_or pieces k d) ≡ size
  pub within : All (λ piece. length piece ≤ size) pieces
  -- no piece is empty
  pub some : All (λ piece. 0 < length piece) pieces

abbrev pub RowsAreCut : Type 0
RowsAreCut = (size : ℕ) (rows : List EndpointRow) → 1 ≤ size → IsCut size rows (in_pieces size rows)

abbrev pub PairsAreCut : Type 0
PairsAreCut = (size : ℕ) (pairs : List (Ip × ℕ)) → 1 ≤ size → IsCut size pairs (in_pieces size pairs)

abbrev pub AuthzIsCut : Type 0
AuthzIsCut = (size : ℕ) (rows : List AuthzRow) → 1 ≤ size → IsCut size rows (in_pieces size rows)

abbrev pub AuthzKeysAreCut : Type 0
AuthzKeysAreCut = (size : ℕ) (keys : List AuthzKey) → 1 ≤ size → IsCut size keys (in_pieces size keys)

-- Folding the messages of a batch over the old view, if there was one, gives the new view. The views need not be those of objects, but
-- their rows must be in order, each key once, and a Service that does not exist must have none.
abbrev pub BatchesFold : Type 0
BatchesFold = (old : Option View) (new : View) (limits : Limits) → 1 ≤ limits.frame_addrs → IsOrderlyIfShown old → IsOrderlyIfShown (Some new)
    → folded_onto old (batch old new limits) ≡ Some new

-- each object that was held then, if anything was, was held under its own key
abbrev pub WereAtKeys : Option ObjectMap → Type 0
WereAtKeys None = Unit {0}
WereAtKeys (Some held) = AtKeys held

-- Whatever objects were held when the view of a query was last shown, if it was, and whatever objects are held now, folding the messages
-- of the query over the old view gives the new one.
abbrev pub MessagesFold : Type 0
MessagesFold = (config : Config) (before : Option ObjectMap) (held : ObjectMap) (query : Query) (limits : Limits) → 1 ≤ limits.frame_addrs → WereAtKeys before → AtKeys held
    → folded_onto (view_before config query before) (batch (view_before config query before) (view_of config held query) limits) ≡ Some (view_of config held query)

-- The batch from a view to itself is empty.
abbrev pub SameViewSendsNothing : Type 0
SameViewSendsNothing = (view : View) (limits : Limits) → batch (Some view) view limits ≡ []
