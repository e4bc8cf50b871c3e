-- Queries of ports, and the keys of their rows in each index.
use Rattle.std.proofs.Common.{◌≡◌, ℕ, List, [], ◌∷◌, map, Option, Some, None, sym, ap}
use Rattle.std.specs.List.{filter_map}
use Rattle.mesh_base.specs.declared.key.ObjKey.{ObjKey}
use Rattle.view_types.specs.Objects.{ObjectMap}
use Rattle.view_types.specs.declared.config.Config.{Config}
use Rattle.view_types.specs.declared.query.Query.{Query}
use Rattle.view_types.specs.declared.query.Query.TheVariants.{Port, PortRows}
use Rattle.view_types.specs.declared.server_view.AuthzRow.{AuthzRow}
use Rattle.view_types.specs.declared.server_view.RouteRow.{RouteRow}
use Rattle.view_rules.specs.PolicyLaws.{server_key}
use Rattle.view_rules.specs.Views.{as_asked, view_of}
use Rattle.mark_rules.specs.Reads.{authz_reads, route_reads, server_reads}
use Rattle.mark_rules.specs.Rows.{ServerPart, authz_row, key_of_row, rows, server_part, server_routes}
use Rattle.mark_rules.specs.declared.keys.RouteKey.{RouteKey}
use Rattle.mark_rules.specs.declared.keys.RowKey.{RowKey}
use Rattle.mark_rules.specs.declared.keys.RowKey.TheVariants as row
use Rattle.mark_rules.specs.declared.keys.ServerKey.{ServerKey}
use Rattle.row_table.specs.IndexRows.{Filter}
use Rattle.row_views.specs.Queries.{ShowsSame, rows_at}

-- A query for a port is stored as that for its whole view. No other view is kept.
abbrev pub port_query : Query → Option Query
port_query (Port ns pod port) = Some (Port ns pod port)
port_query (PortRows ns pod port) = Some (Port ns pod port)
port_query _ = None

-- the query of a key
abbrev pub query_for : ServerKey → Query
query_for key = Port key.ns key.pod key.port

pub ports_same : ShowsSame port_query
ports_same (Port ns pod port) asked is config held =
    let same : Port ns pod port ≡ asked = cc is in
    (ap (view_of config held) (sym same), ap (rows config held) (sym same))
ports_same (PortRows ns pod port) asked is config held =
    let same : Port ns pod port ≡ asked = cc is in
    (ap (λ q. as_asked (PortRows ns pod port) (view_of config held q)) (sym same), ap (rows config held) (sym same))
ports_same _ asked is config held = absurd (cc is)

-- ---- the rows of the three indexes, and what each reads

-- the server part of a port
abbrev pub server_rows : Config → Filter ServerKey (Option ServerPart)
server_rows config = record { row_of = server_part config; reads = λ held. server_reads }

-- the routes of a Server
abbrev pub route_rows : Filter RouteKey (List RouteRow)
route_rows = record { row_of = server_routes; reads = λ held. route_reads }

-- the authorizations of a Server or of a route
abbrev pub authz_rows : Config → Filter ObjKey (List AuthzRow)
authz_rows config = record { row_of = authz_row config; reads = authz_reads }

-- ---- the rows of a port

abbrev pub route_key : RowKey → Option RouteKey
route_key (row.Route key) = Some key
route_key _ = None

abbrev pub authz_key : RowKey → Option ObjKey
authz_key (row.Authz key) = Some key
authz_key _ = None

-- those of them that are the routes of a Server
abbrev pub route_keys : Config → ObjectMap → Option Query → List RouteKey
route_keys config held query = filter_map route_key (rows_at config held query)

-- and those that are the authorizations of a Server or of a route
abbrev pub authz_keys : Config → ObjectMap → Option Query → List ObjKey
authz_keys config held query = filter_map authz_key (rows_at config held query)

-- the authorizations of a Server and of each of its routes
abbrev pub authz_of_server : (RouteKey → List RouteRow) → RouteKey → List ObjKey
authz_of_server routes server = server_key server.ns server.server ∷ map (key_of_row server.ns) (routes server)

-- the key of the routes of a Server, if there is one
abbrev pub listed : List ℕ → Option (List ℕ) → List RouteKey
listed ns None = []
listed ns (Some server) = record { ns = ns; server = server } ∷ []

-- the key of its authorizations
abbrev pub own_authz : List ℕ → Option (List ℕ) → List ObjKey
own_authz ns None = []
own_authz ns (Some server) = server_key ns server ∷ []
