-- The rows of ports are those over the objects held.
use Rattle.std.specs.Prelude.{◌≡◌, ◌⊎◌, ◌++◌, ◌||◌, if◌then◌else◌, ℕ, Bool, false, true, List, [], ◌∷◌, Option, option_map}
use Rattle.std.specs.BTreeMap.{BTreeMap}
use Rattle.std.specs.declared.cmp.Ordering.{Ordering}
use Rattle.mesh_base.specs.contracts.key.ObjKeyOrd as key_order
use Rattle.mesh_base.specs.declared.key.ObjKey.{ObjKey}
use Rattle.view_types.specs.Objects.{ObjectMap}
use Rattle.view_types.specs.declared.config.Config.{Config}
use Rattle.view_types.specs.declared.mark.Mark.{Mark}
use Rattle.view_types.specs.declared.query.Query.{Query}
use Rattle.view_types.specs.declared.server_view.AuthzRow.{AuthzRow}
use Rattle.view_types.specs.declared.server_view.RouteRow.{RouteRow}
use Rattle.mark_graph.specs.RowMarks.{has_row}
use Rattle.mark_graph.specs.declared.rows_by_mark.RowsByMark.{RowsByMark}
use Rattle.mark_rules.specs.Rows.{authz_row, server_routes}
use Rattle.mark_rules.specs.contracts.keys.RouteKeyOrd as route_order
use Rattle.mark_rules.specs.declared.keys.RouteKey.{RouteKey}
use Rattle.mark_rules.specs.declared.keys.ServerKey.{ServerKey}
use Rattle.row_table.specs.IndexRows.{Filter, has_key}
use Rattle.row_views.specs.Ids.{SetsAt, has_ids, is_open, key_at}
use Rattle.row_views.specs.Standing.{is_met}
use Rattle.row_sets.specs.Standing.{Standing, any_met, keys_at}
use Rattle.inbound_views.specs.PortRows.{authz_keys, authz_rows, query_for, route_keys, route_rows, server_rows}
use Rattle.inbound_views.specs.declared.moving.Earlier.{Earlier}
use Rattle.inbound_views.specs.declared.moving.Earlier.TheVariants.{Stay, Leave}
use Rattle.inbound_views.specs.declared.moving.KeysOf.{KeysOf}
use Rattle.inbound_views.specs.declared.moving.KeysOf.TheVariants.{Routes, Rows}
use Rattle.inbound_views.specs.declared.views.InboundViews.{InboundViews}

-- ---- what ids are open with

-- the query of an id
abbrev pub query_at : InboundViews → ℕ → Option Query
query_at views id = option_map query_for (key_at views.servers.by_id id)

abbrev pub routes_of : InboundViews → ℕ → List RouteKey
routes_of views id = keys_at views.routes.by_id id

abbrev pub authz_of : InboundViews → ℕ → List ObjKey
authz_of views id = keys_at views.authz.by_id id

module _ (config : Config) (held : ObjectMap) (views : InboundViews) (id : ℕ) where
  -- the id is open with the routes of the Server of its port
  abbrev pub HasRoutes : Type 0
  HasRoutes = routes_of views id ≡ route_keys config held (query_at views id)

  -- and with the authorizations of this Server and of each of its routes
  abbrev pub HasAuthz : Type 0
  HasAuthz = authz_of views id ≡ authz_keys config held (query_at views id)

-- it is open with the key of the routes of its Server, or with the keys of all rows of its port
abbrev pub HasKeys : Config → ObjectMap → KeysOf → InboundViews → ℕ → Type 0
HasKeys config held Routes views id = HasRoutes config held views id
HasKeys config held Rows views id = HasRoutes config held views id × HasAuthz config held views id

-- ---- the rows of the keys that are in use

-- the rows of a key, and none for a key that is not in use
abbrev pub rows_if : {Row : Type 0} → Bool → List Row → List Row
rows_if used rows = if used then rows else []

-- ids are open with the key, by the numbers of the rows of Servers
abbrev pub uses_server : (ServerKey → Option ℕ) → InboundViews → ServerKey → Bool
uses_server number_at views key = is_open number_at views.servers.by_number key

abbrev pub uses_routes : InboundViews → RouteKey → Bool
uses_routes views key = has_ids route_order.TheImpl.cmp-value.it views.routes.used.by_key key

abbrev pub uses_authz : InboundViews → ObjKey → Bool
uses_authz views key = has_ids key_order.TheImpl.cmp-value.it views.authz.used.by_key key

abbrev pub kept_routes : InboundViews → ObjectMap → RouteKey → List RouteRow
kept_routes views held key = rows_if (uses_routes views key) (server_routes held key)

abbrev pub kept_authz : InboundViews → Config → ObjectMap → ObjKey → List AuthzRow
kept_authz views config held key = rows_if (uses_authz views key) (authz_row config held key)

-- these keys, and the old ones unless they leave
abbrev pub with_earlier : {Key : Type 0} → Earlier → List Key → List Key → List Key
with_earlier Stay keys before = keys ++ before
with_earlier Leave keys before = keys

-- ---- standing

-- The rows of keys that ids are open with stand for the objects held, and are those of this filter.
pub record SetsAreKept {Index Key Row : Type 0} (cmp : Key → Key → Ordering) (users : Index → Key → ℕ) (stand : Index → ObjectMap → Type 0) (filter_of : Index → Filter Key Row) (filter : Filter Key Row)
    (held : ObjectMap) (index : Index) (by_key : RowsByMark Key) (by_id : BTreeMap ℕ (List Key)) : Type 0 where
  pub rows : Standing cmp users stand held index by_key by_id
  pub filtered : filter_of index ≡ filter

-- what each index stores
pub record AllAreKept (OfServers OfRoutes OfAuthz : Type 0) : Type 0 where
  pub servers : OfServers
  pub routes : OfRoutes
  pub authz : OfAuthz

-- one of the rows of the id reads a mark of the change
abbrev pub reads_row : Config → ObjectMap → List Mark → InboundViews → ℕ → Bool
reads_row config held changed views id =
    is_met (server_rows config) held changed (key_at views.servers.by_id id)
    || (any_met route_rows held changed (routes_of views id) || any_met (authz_rows config) held changed (authz_of views id))

-- the id is appended, unless this holds
abbrev pub NotesUnless : Type 0 → ℕ → List ℕ → List ℕ → Type 0
NotesUnless Holds id old new = (Holds × (new ≡ old)) ⊎ ((¬ Holds) × (new ≡ old ++ id ∷ []))

-- those of some ids for which something does not hold
pub record AreThoseWithout (Holds : ℕ → Type 0) (ids without : List ℕ) : Type 0 where
  pub all : (id : ℕ) → has_row id ids ≡ true → has_row id without ≡ false → Holds id
  pub only : (id : ℕ) → has_row id without ≡ true → (has_row id ids ≡ true) × (¬ Holds id)

-- After a change, those that have other keys than those of the rows of their ports. All others have
-- these if they did before it.
pub record AreMoved (config : Config) (before after : ObjectMap) (views : InboundViews) (moved : List ℕ) : Type 0 where
  pub others : (id : ℕ) → has_row id moved ≡ false → HasKeys config before Rows views id → HasKeys config after Rows views id
  pub only : (id : ℕ) → has_row id moved ≡ true → ¬ HasKeys config after Rows views id

-- each of these keys is one of those
abbrev pub Covers : {Key : Type 0} → (Key → Key → Ordering) → List Key → List Key → Type 0
Covers {Key} cmp keys those = (key : Key) → has_key cmp keys key ≡ true → has_key cmp those key ≡ true

-- an id is open with each key of the rows of a query
abbrev pub HasRowsOf : Config → ObjectMap → Option Query → InboundViews → ℕ → Type 0
HasRowsOf config held query views id =
    Covers route_order.TheImpl.cmp-value.it (route_keys config held query) (routes_of views id) × Covers key_order.TheImpl.cmp-value.it (authz_keys config held query) (authz_of views id)

-- These are the routes of the Server of an id's port, and they are in use.
abbrev pub AreUsed : Config → ObjectMap → List RouteKey → ℕ → InboundViews → Type 0
AreUsed config held servers id views = (servers ≡ route_keys config held (query_at views id)) × ((key : RouteKey) → has_key route_order.TheImpl.cmp-value.it servers key ≡ true → uses_routes views key ≡ true)

module _ (stand : InboundViews → Config → ObjectMap → Type 0) (config : Config) (held : ObjectMap) where
  -- The stored rows stand for the objects held, and each id has the keys of the rows of its query.
  pub record AreJoined (views : InboundViews) : Type 0 where
    pub kept : stand views config held
    pub routes : (id : ℕ) → HasRoutes config held views id
    pub authz : (id : ℕ) → HasAuthz config held views id

  -- ---- what changes

  -- The id has the keys of the rows of its query.
  pub record SetsRows (earlier : Earlier) (id : ℕ) (old new : InboundViews) : Type 0 where
    pub kept : stand new config held
    pub routes : SetsAt id (with_earlier earlier (route_keys config held (query_at old id)) (routes_of old id)) (routes_of old) (routes_of new)
    pub authz : SetsAt id (with_earlier earlier (authz_keys config held (query_at old id)) (authz_of old id)) (authz_of old) (authz_of new)

  -- Each of these ids has them, and all others have their old keys.
  pub record SetsAllRows (earlier : Earlier) (ids : List ℕ) (old new : InboundViews) : Type 0 where
    pub kept : stand new config held
    pub covered : (id : ℕ) → has_row id ids ≡ true → HasRowsOf config held (query_at old id) new id
    pub these : earlier ≡ Leave → (id : ℕ) → has_row id ids ≡ true → (routes_of new id ≡ route_keys config held (query_at old id)) × (authz_of new id ≡ authz_keys config held (query_at old id))
    pub others : (id : ℕ) → has_row id ids ≡ false → (routes_of new id ≡ routes_of old id) × (authz_of new id ≡ authz_of old id)
