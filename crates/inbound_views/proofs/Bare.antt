-- Views of ports whose routes are without their authorizations: what they read, and that they stand for something.
use Rattle.std.proofs.Common.{◌≡◌, ◌≤◌, ◌+◌, ℕ, zero, suc, List, [], ◌∷◌, map, Option, Some, None, refl, ap, arith}
use Rattle.std.proofs.Math.Logic.{∥∥₁_elim}
use Rattle.std.proofs.lemmas.List.Sums.{sum_by-cons}
use Rattle.std.specs.Coded.{Coded, Coded-set, codes}
use Rattle.std.specs.List.{slice_get}
use Rattle.view_types.specs.Objects.{ObjectMap}
use Rattle.view_types.specs.contracts.server_view.AuthzRow as the_authz
use Rattle.view_types.specs.contracts.server_view.ServerView as the_view
use Rattle.view_types.specs.declared.config.Config.{Config}
use Rattle.view_types.specs.declared.server_view.AuthzRow.{AuthzRow}
use Rattle.view_types.specs.declared.server_view.RouteRow.{RouteRow}
use Rattle.view_types.specs.declared.server_view.ServerView.{ServerView}
use Rattle.view_rules.specs.PolicyLaws.{server_key}
use Rattle.mark_rules.specs.Reads.{authz_reads, cost, reads}
use Rattle.mark_rules.specs.Rows.{key_of_row, name_in, port_rows, routes_behind, server_part, server_routes}
use Rattle.mark_rules.specs.declared.keys.RouteKey.{RouteKey}
use Rattle.mark_rules.specs.declared.keys.RowKey.{RowKey}
use Rattle.mark_rules.specs.declared.keys.RowKey.TheVariants as row
use Rattle.mark_rules.specs.declared.keys.ServerKey.{ServerKey}
use Rattle.row_views.specs.Costs.{cost_of}
use Rattle.inbound_views.specs.BarePorts.{bare_behind, bare_rows, route_cost}
use Rattle.inbound_views.specs.Costs.{cost_of_authz, cost_of_routes}
use Rattle.inbound_views.specs.PortRows.{listed, own_authz}
use Rattle.inbound_views.proofs.Costs.{behind_parts, more_authz, one_route, port_whole}

-- ---- what stands

pub same_ports : {A : Type 0} (a b : ServerView) → ∥ A ∥₁ → (A → a ≡ b) → a ≡ b
same_ports a b t f = let coded : Coded ServerView = the_view.the_row.coded in ∥∥₁_elim t (Coded-set coded a b) f

pub same_authz : {A : Type 0} (a b : List AuthzRow) → ∥ A ∥₁ → (A → a ≡ b) → a ≡ b
same_authz a b t f = let coded : Coded (List AuthzRow) = hlevel (codes, the_authz.the_row.coded) in ∥∥₁_elim t (Coded-set coded a b) f

-- ---- what is read

module _ (config : Config) (held : ObjectMap) where
  abbrev one : RowKey → ℕ
  one key = cost held (reads config held key)

  pub bare_parts : (ns : List ℕ) (name : Option (List ℕ)) → cost_of config held (bare_behind ns name) ≡ cost_of_authz held (own_authz ns name) + cost_of_routes held (listed ns name)
  bare_parts ns None = refl
  bare_parts ns (Some server) =
      let key : RouteKey = record { ns = ns; server = server } in
      let all = sum_by-cons one (row.Route key) (row.Authz (server_key ns server) ∷ []) in
      let after : cost_of config held (row.Authz (server_key ns server) ∷ []) ≡ cost held (authz_reads held (server_key ns server)) + 0 = sum_by-cons one (row.Authz (server_key ns server)) [] in
      let of_route = one_route held key in
      let of_authz : cost_of_authz held (server_key ns server ∷ []) ≡ cost held (authz_reads held (server_key ns server)) + 0 = more_authz held (server_key ns server) [] in
      omega (arith, all, after, of_route, of_authz)

  -- with the authorizations of all routes, all rows of the port
  pub bare_whole : (key : ServerKey) → cost_of config held (port_rows config held key)
      ≡ cost_of config held (bare_rows config held key) + cost_of_authz held (map (key_of_row key.ns) (routes_behind (server_routes held) key.ns (name_in (server_part config held key))))
  bare_whole key =
      let name = name_in (server_part config held key) in
      let all = port_whole config held key in
      let behind = behind_parts config held (server_routes held) key.ns name in
      let bare = sum_by-cons one (row.Server key) (bare_behind key.ns name) in
      let parts = bare_parts key.ns name in
      omega (arith, all, behind, bare, parts)

  -- one of the routes reads at most what all do
  pub one_of_all : (ns : List ℕ) (routes : List RouteRow) (place : ℕ) (route : RouteRow) → slice_get routes place ≡ Some route → route_cost held ns route ≤ cost_of_authz held (map (key_of_row ns) routes)
  one_of_all ns [] place route is = absurd (cc is)
  one_of_all ns (r ∷ routes) zero route is =
      let same : r ≡ route = cc is in
      let first = ap (route_cost held ns) same in
      let all = more_authz held (key_of_row ns r) (map (key_of_row ns) routes) in
      omega (arith, first, all)
  one_of_all ns (r ∷ routes) (suc place) route is =
      let rest = one_of_all ns routes place route is in
      let all = more_authz held (key_of_row ns r) (map (key_of_row ns) routes) in
      omega (arith, rest, all)
