-- The rows of a query: the first one, and the others.
use Rattle.std.specs.Prelude.{ℕ, List, [], ◌∷◌, Option, Some, None, map}
use Rattle.view_types.specs.Objects.{ObjectMap}
use Rattle.view_types.specs.declared.config.Config.{Config}
use Rattle.view_types.specs.declared.mark.Mark.TheVariants.{RouteOn}
use Rattle.view_types.specs.declared.query.Query.{Query}
use Rattle.view_types.specs.declared.query.Query.TheVariants as query
use Rattle.view_types.specs.declared.route.ParentKind.TheVariants as parent
use Rattle.view_rules.specs.PolicyLaws.{server_key}
use Rattle.mark_rules.specs.MarkLookups.{keys_at}
use Rattle.mark_rules.specs.Rows.{name_in, server_part}
use Rattle.mark_rules.specs.declared.keys.RowKey.{RowKey}
use Rattle.mark_rules.specs.declared.keys.RowKey.TheVariants as row

-- ---- the first row

abbrev pub port_row : List ℕ → List ℕ → ℕ → RowKey
port_row ns pod port = row.Server (record { ns = ns; pod = pod; port = port })

abbrev pub first_row : Query → RowKey
first_row (query.Get ns name port ctx) = row.Endpoint (record { ns = ns; name = name; port = port })
first_row (query.Profile target ctx) = row.Profile (record { target = target; client = ctx.ns })
first_row (query.Port ns pod port) = port_row ns pod port
first_row (query.Traffic target) = row.Outbound target
first_row (query.PortRows ns pod port) = port_row ns pod port

-- ---- the other rows

abbrev pub route_row : List ℕ → List ℕ → RowKey
route_row ns name = row.Route (record { ns = ns; server = name })

-- the routes of a Server, its authorizations, and those of each route that has it as a parent
abbrev pub behind_server : ObjectMap → List ℕ → List ℕ → List RowKey
behind_server held ns name = route_row ns name ∷ row.Authz (server_key ns name) ∷ map row.Authz (keys_at held (RouteOn ns parent.Server name))

-- none if no Server is chosen
abbrev pub behind_name : ObjectMap → List ℕ → Option (List ℕ) → List RowKey
behind_name held ns None = []
behind_name held ns (Some name) = behind_server held ns name

-- only the row of a port has others
abbrev pub behind_row : Config → ObjectMap → RowKey → List RowKey
behind_row config held (row.Server key) = behind_name held key.ns (name_in (server_part config held key))
behind_row config held _ = []
