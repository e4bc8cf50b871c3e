-- The rows that views are joined from: each is a filter over the objects held.
use Rattle.std.specs.Prelude.{ℕ, List, [], ◌∷◌, Option, Some, None, map, option_map}
use Rattle.std.specs.FinMap.{get}
use Rattle.mesh_base.specs.declared.key.Kind.{Kind}
use Rattle.mesh_base.specs.declared.key.Kind.TheVariants as kind
use Rattle.mesh_base.specs.declared.key.ObjKey.{ObjKey}
use Rattle.view_types.specs.Objects.{ObjectMap}
use Rattle.view_types.specs.declared.config.Config.{Config}
use Rattle.view_types.specs.declared.endpoint.EndpointView.{EndpointView}
use Rattle.view_types.specs.declared.object.Object.{Object}
use Rattle.view_types.specs.declared.outbound.OutboundView.{OutboundView}
use Rattle.view_types.specs.declared.outbound.ProfileView.{ProfileView}
use Rattle.view_types.specs.declared.pod.Pod.{Pod}
use Rattle.view_types.specs.declared.policy.Policy.{Policy}
use Rattle.view_types.specs.declared.policy.Protocol.{Protocol}
use Rattle.view_types.specs.declared.query.Query.{Query}
use Rattle.view_types.specs.declared.query.Query.TheVariants as query
use Rattle.view_types.specs.declared.query.Target.{Target}
use Rattle.view_types.specs.declared.route.Route.{Route}
use Rattle.view_types.specs.declared.server.ServerSpec.{ServerSpec}
use Rattle.view_types.specs.declared.server_view.AuthzRow.{AuthzRow}
use Rattle.view_types.specs.declared.server_view.RouteRow.{RouteRow}
use Rattle.view_types.specs.declared.server_view.ServerRow.{ServerRow}
use Rattle.view_types.specs.declared.server_view.ServerView.{ServerView}
use Rattle.view_types.specs.declared.server_view.ServerView.TheVariants.{Absent, Present}
use Rattle.view_types.specs.declared.view.View.{View}
use Rattle.view_types.specs.declared.view.View.TheVariants as view
use Rattle.view_rules.specs.Endpoints.{endpoints}
use Rattle.view_rules.specs.Inbound.{default_policy, default_protocol, inbound_rule, probe_paths, unless_routes}
use Rattle.view_rules.specs.Outbound.{outbound}
use Rattle.view_rules.specs.PodRows.{pod_held}
use Rattle.view_rules.specs.Policies.{applies_to_route, applies_to_server, authz_rows}
use Rattle.view_rules.specs.PolicyLaws.{server_key}
use Rattle.view_rules.specs.Profiles.{profile}
use Rattle.view_rules.specs.Routes.{attached_routes, is_server_parent, route_row}
use Rattle.view_rules.specs.Servers.{chosen_server, server_found}
use Rattle.mark_rules.specs.declared.keys.EndpointKey.{EndpointKey}
use Rattle.mark_rules.specs.declared.keys.ProfileKey.{ProfileKey}
use Rattle.mark_rules.specs.declared.keys.RouteKey.{RouteKey}
use Rattle.mark_rules.specs.declared.keys.RowKey.{RowKey}
use Rattle.mark_rules.specs.declared.keys.RowKey.TheVariants as row
use Rattle.mark_rules.specs.declared.keys.ServerKey.{ServerKey}

-- ---- rows that are views

abbrev pub endpoint_row : Config → ObjectMap → EndpointKey → EndpointView
endpoint_row config held key = endpoints config held key.ns key.name key.port

abbrev pub profile_row : Config → ObjectMap → ProfileKey → ProfileView
profile_row config held key = profile config held key.target key.client

abbrev pub outbound_row : Config → ObjectMap → Target → OutboundView
outbound_row = outbound

-- ---- the Server of a port

-- the protocol, the policy, the name of the Server if there is one, and the paths of the Pod's probes
abbrev pub ServerPart : Type 0
ServerPart = Protocol × Policy × Option (List ℕ) × List (List ℕ)

abbrev pub part_of : Config → Pod → ℕ → Option ServerSpec → ServerPart
part_of config pod port None = (default_protocol pod port, default_policy config pod, None, probe_paths pod port)
part_of config pod port (Some server) = (server.protocol, server.policy, Some server.meta.name, probe_paths pod port)

-- none if the Pod is not held
abbrev pub server_part : Config → ObjectMap → ServerKey → Option ServerPart
server_part config held key = option_map (λ pod. part_of config pod key.port (chosen_server held key.ns pod key.port)) (pod_held held (Some (key.ns, key.pod)))

-- ---- the routes of a Server

-- without its authorizations, which are a row of their own
abbrev pub bare_route : Route → RouteRow
bare_route route = route_row inbound_rule [] route

abbrev pub server_routes : ObjectMap → RouteKey → List RouteRow
server_routes held key = map bare_route (attached_routes held key.ns (is_server_parent key.server))

-- ---- the authorizations of a Server or of a route

-- none for a Server that is not held
abbrev pub authz_found : Config → ObjectMap → Option ServerSpec → List AuthzRow
authz_found config held None = []
authz_found config held (Some server) = authz_rows config held (applies_to_server held server)

-- by the object under the key
abbrev pub authz_at : Config → ObjectMap → ObjKey → Kind → Option Object → List AuthzRow
authz_at config held key kind.Server found = authz_found config held (server_found found)
authz_at config held key kind.LinkerdRoute found = authz_rows config held (applies_to_route held key)
authz_at config held key kind.GatewayRoute found = authz_rows config held (applies_to_route held key)
authz_at config held key _ found = []

abbrev pub authz_row : Config → ObjectMap → ObjKey → List AuthzRow
authz_row config held key = authz_at config held key key.kind (get held key)

-- ---- views, joined from rows

-- the key of the route of a row
abbrev pub key_of_row : List ℕ → RouteRow → ObjKey
key_of_row ns route = record { kind = route.kind; ns = ns; name = route.name }

abbrev pub with_authz : (ObjKey → List AuthzRow) → List ℕ → RouteRow → RouteRow
with_authz authz ns route = record {
  kind = route.kind;
  name = route.name;
  created = route.created;
  hosts = route.hosts;
  rules = route.rules;
  authz = authz (key_of_row ns route);
}

abbrev pub authz_behind : (ObjKey → List AuthzRow) → List ℕ → Option (List ℕ) → List AuthzRow
authz_behind authz ns None = []
authz_behind authz ns (Some server) = authz (server_key ns server)

abbrev pub routes_behind : (RouteKey → List RouteRow) → List ℕ → Option (List ℕ) → List RouteRow
routes_behind routes ns None = []
routes_behind routes ns (Some server) = routes (record { ns = ns; server = server })

-- with the authorizations of a Server and its routes, and with the Pod's probes if it has none
abbrev pub row_joined : ServerPart → List AuthzRow → List RouteRow → ServerRow
row_joined part authz routes = record {
  protocol = part.0;
  policy = part.1;
  server = part.2;
  authz = authz;
  routes = routes;
  probes = unless_routes routes part.3;
}

-- the inbound view of the Server's row: with the Server's authorizations, and with its routes, each with its own
abbrev pub join_inbound : (RouteKey → List RouteRow) → (ObjKey → List AuthzRow) → List ℕ → Option ServerPart → ServerView
join_inbound routes authz ns None = Absent
join_inbound routes authz ns (Some part) = Present (row_joined part (authz_behind authz ns part.2) (map (with_authz authz ns) (routes_behind routes ns part.2)))

abbrev pub server_joined : Config → ObjectMap → ServerKey → ServerView
server_joined config held key = join_inbound (server_routes held) (authz_row config held) key.ns (server_part config held key)

-- the view of a query, joined from its rows
abbrev pub view_of_rows : Config → ObjectMap → Query → View
view_of_rows config held (query.Get ns name port ctx) = view.Endpoints (endpoint_row config held (record { ns = ns; name = name; port = port }))
view_of_rows config held (query.Profile target ctx) = view.Profile (profile_row config held (record { target = target; client = ctx.ns }))
view_of_rows config held (query.Port ns pod port) = view.Server (server_joined config held (record { ns = ns; pod = pod; port = port }))
view_of_rows config held (query.Traffic target) = view.Outbound (outbound_row config held target)
view_of_rows config held (query.PortRows ns pod port) = view.ServerRows (server_joined config held (record { ns = ns; pod = pod; port = port }))

-- ---- the rows of a view

abbrev pub name_in : Option ServerPart → Option (List ℕ)
name_in None = None
name_in (Some part) = part.2

-- the routes of a Server, its authorizations, and those of each route
abbrev pub keys_behind : (RouteKey → List RouteRow) → List ℕ → Option (List ℕ) → List RowKey
keys_behind routes ns None = []
keys_behind routes ns (Some server) =
    row.Route (record { ns = ns; server = server })
    ∷ row.Authz (server_key ns server)
    ∷ map (λ route. row.Authz (key_of_row ns route)) (routes (record { ns = ns; server = server }))

abbrev pub port_rows : Config → ObjectMap → ServerKey → List RowKey
port_rows config held key = row.Server key ∷ keys_behind (server_routes held) key.ns (name_in (server_part config held key))

-- the keys of the rows that the view of a query is joined from
abbrev pub rows : Config → ObjectMap → Query → List RowKey
rows config held (query.Get ns name port ctx) = row.Endpoint (record { ns = ns; name = name; port = port }) ∷ []
rows config held (query.Profile target ctx) = row.Profile (record { target = target; client = ctx.ns }) ∷ []
rows config held (query.Port ns pod port) = port_rows config held (record { ns = ns; pod = pod; port = port })
rows config held (query.Traffic target) = row.Outbound target ∷ []
rows config held (query.PortRows ns pod port) = port_rows config held (record { ns = ns; pod = pod; port = port })
