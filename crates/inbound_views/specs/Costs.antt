-- The objects that are looked up when ports are opened, and when their rows follow a change.
use Rattle.std.specs.Prelude.{◌≡◌, ◌≤◌, ◌+◌, ℕ, Bool, true, false, List, Option}
use Rattle.std.specs.List.{AllByRecursion, IsDistinct, sum_by}
use Rattle.std.specs.Ordering.{eq_by_cmp}
use Rattle.std.specs.declared.cmp.Ordering.{Ordering}
use Rattle.mesh_base.specs.contracts.key.ObjKeyOrd as key_order
use Rattle.mesh_base.specs.declared.key.ObjKey.{ObjKey}
use Rattle.view_types.specs.Objects.{ObjectMap}
use Rattle.view_types.specs.declared.config.Config.{Config}
use Rattle.view_types.specs.declared.mark.Mark.{Mark}
use Rattle.mark_rules.specs.Reads.{authz_reads, cost, route_reads}
use Rattle.mark_rules.specs.contracts.keys.RouteKeyOrd as route_order
use Rattle.mark_rules.specs.contracts.keys.ServerKeyOrd as server_order
use Rattle.mark_rules.specs.declared.keys.RouteKey.{RouteKey}
use Rattle.mark_rules.specs.declared.keys.ServerKey.{ServerKey}
use Rattle.row_table.specs.IndexRows.{has_key}
use Rattle.row_views.specs.Standing.{FollowCost}
use Rattle.row_sets.specs.Standing.{EntersWithin}
use Rattle.inbound_views.specs.PortRows.{authz_keys, authz_rows, route_keys, route_rows, server_rows}
use Rattle.inbound_views.specs.Standing.{authz_of, query_at, routes_of, uses_authz, uses_routes, uses_server, with_earlier}
use Rattle.inbound_views.specs.declared.moving.Earlier.{Earlier}
use Rattle.inbound_views.specs.declared.views.InboundViews.{InboundViews}

-- Keys of the rows of ids that were not in use, each once.
pub record ComeInUse {Key : Type 0} (cmp : Key → Key → Ordering) (used : Key → Bool) (keys_for : ℕ → List Key) (keys : List Key) : Type 0 where
  pub each : AllByRecursion (λ key. (used key ≡ false) × ((id : ℕ) × (has_key cmp (keys_for id) key ≡ true))) keys
  pub once : IsDistinct (eq_by_cmp cmp) keys

module _ (held : ObjectMap) where
  -- what these routes read in total
  abbrev pub cost_of_routes : List RouteKey → ℕ
  cost_of_routes keys = sum_by (λ key. cost held (route_reads key)) keys

  -- what these authorizations read in total
  abbrev pub cost_of_authz : List ObjKey → ℕ
  cost_of_authz keys = sum_by (λ key. cost held (authz_reads held key)) keys

module _ (config : Config) (held : ObjectMap) where
  -- New keys read everything that is looked up when an id is opened with the routes of its Server,
  abbrev pub RoutesEnter : Earlier → ℕ → InboundViews → ℕ → ℕ → Type 0
  RoutesEnter earlier id views old new = EntersWithin route_rows held route_order.TheImpl.cmp-value.it (uses_routes views) (with_earlier earlier (route_keys config held (query_at views id)) (routes_of views id)) old new

  -- or with the authorizations of this and of each of its routes,
  abbrev pub AuthzEnter : Earlier → ℕ → InboundViews → ℕ → ℕ → Type 0
  AuthzEnter earlier id views old new = EntersWithin (authz_rows config) held key_order.TheImpl.cmp-value.it (uses_authz views) (with_earlier earlier (authz_keys config held (query_at views id)) (authz_of views id)) old new

  -- or with both.
  pub record Enters (earlier : Earlier) (id : ℕ) (views : InboundViews) (old new : ℕ) : Type 0 where
    pub mid : ℕ
    pub routes : RoutesEnter earlier id views old mid
    pub authz : AuthzEnter earlier id views mid new

  -- The keys of rows that come into use read everything that is looked up when the keys of ids are
  -- set.
  pub record AllEnter (views : InboundViews) (old new : ℕ) : Type 0 where
    pub routes : List RouteKey
    pub authz : List ObjKey
    pub new_routes : ComeInUse route_order.TheImpl.cmp-value.it (uses_routes views) (λ id. route_keys config held (query_at views id)) routes
    pub new_authz : ComeInUse key_order.TheImpl.cmp-value.it (uses_authz views) (λ id. authz_keys config held (query_at views id)) authz
    pub most : new ≤ old + (cost_of_routes held routes + cost_of_authz held authz)

-- Rows that are used and read a mark of a change read everything that is looked up when they follow
-- it.
pub record RowsFollow (number_at : ServerKey → Option ℕ) (config : Config) (before after : ObjectMap) (changed : List Mark) (views : InboundViews) (old new : ℕ) : Type 0 where
  pub first : ℕ
  pub second : ℕ
  pub servers : FollowCost (server_rows config) server_order.TheImpl.cmp-value.it (uses_server number_at views) changed before after old first
  pub routes : FollowCost route_rows route_order.TheImpl.cmp-value.it (uses_routes views) changed before after first second
  pub authz : FollowCost (authz_rows config) key_order.TheImpl.cmp-value.it (uses_authz views) changed before after second new
