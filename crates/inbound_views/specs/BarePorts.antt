-- Views of ports whose routes are without their authorizations, and the rows that they are joined from.
use Rattle.std.specs.Prelude.{ℕ, List, [], ◌∷◌, Option, Some, None}
use Rattle.mesh_base.specs.declared.key.ObjKey.{ObjKey}
use Rattle.view_types.specs.Objects.{ObjectMap}
use Rattle.view_types.specs.declared.config.Config.{Config}
use Rattle.view_types.specs.declared.server_view.AuthzRow.{AuthzRow}
use Rattle.view_types.specs.declared.server_view.RouteRow.{RouteRow}
use Rattle.view_types.specs.declared.server_view.ServerView.{ServerView}
use Rattle.view_types.specs.declared.server_view.ServerView.TheVariants.{Absent, Present}
use Rattle.view_rules.specs.PolicyLaws.{server_key}
use Rattle.mark_rules.specs.Reads.{authz_reads, cost}
use Rattle.mark_rules.specs.Rows.{ServerPart, authz_behind, authz_row, key_of_row, name_in, routes_behind, row_joined, server_part, server_routes}
use Rattle.mark_rules.specs.declared.keys.RouteKey.{RouteKey}
use Rattle.mark_rules.specs.declared.keys.RowKey.{RowKey}
use Rattle.mark_rules.specs.declared.keys.RowKey.TheVariants as row
use Rattle.mark_rules.specs.declared.keys.ServerKey.{ServerKey}

-- the view of a Server's row, with the Server's authorizations and its routes
abbrev pub join_bare : (RouteKey → List RouteRow) → (ObjKey → List AuthzRow) → List ℕ → Option ServerPart → ServerView
join_bare routes authz ns None = Absent
join_bare routes authz ns (Some part) = Present (row_joined part (authz_behind authz ns part.2) (routes_behind routes ns part.2))

-- the view of a port
abbrev pub bare_port : Config → ObjectMap → ServerKey → ServerView
bare_port config held key = join_bare (server_routes held) (authz_row config held) key.ns (server_part config held key)

-- the routes of a Server and its authorizations
abbrev pub bare_behind : List ℕ → Option (List ℕ) → List RowKey
bare_behind ns None = []
bare_behind ns (Some server) = row.Route (record { ns = ns; server = server }) ∷ row.Authz (server_key ns server) ∷ []

-- the rows of the view of a port
abbrev pub bare_rows : Config → ObjectMap → ServerKey → List RowKey
bare_rows config held key = row.Server key ∷ bare_behind key.ns (name_in (server_part config held key))

-- ---- the authorizations of a route in a namespace

abbrev pub authz_of_route : Config → ObjectMap → List ℕ → RouteRow → List AuthzRow
authz_of_route config held ns route = authz_row config held (key_of_row ns route)

-- what they read
abbrev pub route_cost : ObjectMap → List ℕ → RouteRow → ℕ
route_cost held ns route = cost held (authz_reads held (key_of_row ns route))
