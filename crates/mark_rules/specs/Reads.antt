-- The marks that each row reads: a list, with duplicates, whether or not an object has them.
use Rattle.std.specs.Prelude.{◌++◌, ℕ, if◌then◌else◌, List, [], ◌∷◌, Option, Some, None, filter_map, flat_map}
use Rattle.std.specs.FinMap.{values}
use Rattle.std.specs.List.{count_by, sum_by}
use Rattle.mesh_base.specs.declared.key.Kind.{Kind}
use Rattle.mesh_base.specs.declared.key.Kind.TheVariants as kind
use Rattle.mesh_base.specs.declared.key.ObjKey.{ObjKey}
use Rattle.mesh_text.specs.Targets.{full_name}
use Rattle.net_cidr.specs.declared.ip.Ip.{Ip}
use Rattle.view_types.specs.Objects.{ObjectMap}
use Rattle.view_types.specs.declared.authn.RefKind.{RefKind}
use Rattle.view_types.specs.declared.authn.RefKind.TheVariants as ref
use Rattle.view_types.specs.declared.config.Config.{Config}
use Rattle.view_types.specs.declared.mark.Mark.{Mark}
use Rattle.view_types.specs.declared.mark.Mark.TheVariants.{Obj, SlicesOf, ServersIn, ServerAuthzIn, PolicyOn, RouteOn, IpService, IpPod}
use Rattle.view_types.specs.declared.object.Object.{Object}
use Rattle.view_types.specs.declared.object.Object.TheVariants as object
use Rattle.view_types.specs.declared.query.Query.{Query}
use Rattle.view_types.specs.declared.query.Target.{Target}
use Rattle.view_types.specs.declared.query.Target.TheVariants as target
use Rattle.view_types.specs.declared.route.BackendRef.{BackendRef}
use Rattle.view_types.specs.declared.route.ParentKind.TheVariants as parent
use Rattle.view_types.specs.declared.route.Route.{Route}
use Rattle.view_types.specs.declared.route.Rule.{Rule}
use Rattle.view_types.specs.declared.service.Service.{Service}
use Rattle.view_types.specs.declared.slice.Point.{Point}
use Rattle.view_types.specs.declared.slice.Slice.{Slice}
use Rattle.view_rules.specs.Endpoints.{has_addresses, service_key, slices_held}
use Rattle.view_rules.specs.PodRows.{pod_key}
use Rattle.view_rules.specs.Policies.{mesh_authn_key, net_authn_key, ns_of}
use Rattle.view_rules.specs.Profiles.{profile_key, service_at}
use Rattle.view_rules.specs.Routes.{as_route}
use Rattle.mark_rules.specs.Marks.{has_mark, objects_with, marks_of}
use Rattle.mark_rules.specs.Rows.{rows}
use Rattle.mark_rules.specs.declared.keys.EndpointKey.{EndpointKey}
use Rattle.mark_rules.specs.declared.keys.ProfileKey.{ProfileKey}
use Rattle.mark_rules.specs.declared.keys.RouteKey.{RouteKey}
use Rattle.mark_rules.specs.declared.keys.RowKey.{RowKey}
use Rattle.mark_rules.specs.declared.keys.RowKey.TheVariants as row
use Rattle.mark_rules.specs.declared.keys.ServerKey.{ServerKey}

-- ---- endpoints

abbrev pub target_marks : Option (List ℕ × List ℕ) → List Mark
target_marks None = []
target_marks (Some pod) = Obj (pod_key pod.0 pod.1) ∷ []

abbrev pub point_marks : Point → List Mark
point_marks point = if point.ready then target_marks point.pod else []

-- the Pods of the endpoints that are ready
abbrev pub pods_of : Slice → List Mark
pods_of slice = if has_addresses slice.family then flat_map point_marks slice.points else []

abbrev pub endpoint_reads : ObjectMap → EndpointKey → List Mark
endpoint_reads held key = Obj (service_key key.ns key.name) ∷ SlicesOf key.ns key.name ∷ flat_map pods_of (slices_held held key.ns key.name)

-- ---- addresses

-- those of the Service at the address, or the Pods at it
abbrev pub address_reads : (List ℕ → List ℕ → List Mark) → Ip → Option Service → List Mark
address_reads service_reads ip None = IpPod ip ∷ []
address_reads service_reads ip (Some service) = service_reads service.meta.ns service.meta.name

-- ---- profiles

abbrev pub client_marks : Option (List ℕ) → List ℕ → List Mark
client_marks None full = []
client_marks (Some client) full = Obj (profile_key client full) ∷ []

abbrev pub service_profile_reads : Config → Option (List ℕ) → List ℕ → List ℕ → List Mark
service_profile_reads config client ns name =
    let full = full_name name ns config.cluster_domain in
    client_marks client full ++ Obj (profile_key ns full) ∷ Obj (service_key ns name) ∷ []

abbrev pub profile_reads_of : Config → ObjectMap → Option (List ℕ) → Target → List Mark
profile_reads_of config held client (target.Service ns name port) = service_profile_reads config client ns name
profile_reads_of config held client (target.Address ip port) = IpService ip ∷ address_reads (service_profile_reads config client) ip (service_at held ip)

abbrev pub profile_reads : Config → ObjectMap → ProfileKey → List Mark
profile_reads config held key = profile_reads_of config held key.client key.target

-- ---- Servers and their routes

abbrev pub server_reads : ServerKey → List Mark
server_reads key = Obj (pod_key key.ns key.pod) ∷ ServersIn key.ns ∷ []

abbrev pub route_reads : RouteKey → List Mark
route_reads key = RouteOn key.ns parent.Server key.server ∷ []

-- ---- authorizations

-- the object that a reference names; for a ServiceAccount there is none
abbrev pub need_marks : List ℕ → List ℕ → RefKind → List Mark
need_marks ns name ref.MeshAuthn = Obj (mesh_authn_key ns name) ∷ []
need_marks ns name ref.NetAuthn = Obj (net_authn_key ns name) ∷ []
need_marks ns name _ = []

-- those of all references of a policy
abbrev pub needs_of : Object → List Mark
needs_of (object.AuthorizationPolicy policy) = flat_map (λ need. need_marks (ns_of policy.meta.ns need) need.name need.kind) policy.needs
needs_of _ = []

-- these marks, and those of the objects that the policies with one of them refer to
abbrev pub with_needs : ObjectMap → List Mark → List Mark
with_needs held marks = marks ++ flat_map needs_of (objects_with held marks)

abbrev pub server_authz_marks : List ℕ → List ℕ → List Mark
server_authz_marks ns name = ServerAuthzIn ns ∷ PolicyOn ns ref.Server name ∷ PolicyOn ns ref.Namespace ns ∷ []

abbrev pub authz_reads_of : ObjectMap → ObjKey → Kind → List Mark
authz_reads_of held key kind.Server = Obj key ∷ with_needs held (server_authz_marks key.ns key.name)
authz_reads_of held key kind.LinkerdRoute = with_needs held (PolicyOn key.ns ref.LinkerdRoute key.name ∷ [])
authz_reads_of held key kind.GatewayRoute = with_needs held (PolicyOn key.ns ref.GatewayRoute key.name ∷ [])
authz_reads_of held key _ = []

abbrev pub authz_reads : ObjectMap → ObjKey → List Mark
authz_reads held key = authz_reads_of held key key.kind

-- ---- outbound views

abbrev pub backend_marks : BackendRef → List Mark
backend_marks backend = if backend.service then Obj (service_key backend.ns backend.name) ∷ [] else []

abbrev pub backends_of : Route → List Mark
backends_of route = flat_map (λ (rule : Rule). flat_map backend_marks rule.backends) route.rules

-- the routes with a parent that is the Service, at any port
abbrev pub routes_on : ObjectMap → List ℕ → List ℕ → List Route
routes_on held ns name = filter_map as_route (objects_with held (RouteOn ns parent.Service name ∷ []))

abbrev pub service_outbound_reads : ObjectMap → List ℕ → List ℕ → List Mark
service_outbound_reads held ns name = Obj (service_key ns name) ∷ RouteOn ns parent.Service name ∷ flat_map backends_of (routes_on held ns name)

abbrev pub outbound_reads : ObjectMap → Target → List Mark
outbound_reads held (target.Service ns name port) = service_outbound_reads held ns name
outbound_reads held (target.Address ip port) = IpService ip ∷ address_reads (service_outbound_reads held) ip (service_at held ip)

-- ---- all rows

abbrev pub reads : Config → ObjectMap → RowKey → List Mark
reads config held (row.Endpoint key) = endpoint_reads held key
reads config held (row.Profile key) = profile_reads config held key
reads config held (row.Server key) = server_reads key
reads config held (row.Route key) = route_reads key
reads config held (row.Authz key) = authz_reads held key
reads config held (row.Outbound key) = outbound_reads held key

-- what the rows of a query read
abbrev pub query_reads : Config → ObjectMap → Query → List Mark
query_reads config held query = flat_map (reads config held) (rows config held query)

-- ---- how many objects are read

-- the held objects that have the mark
abbrev pub count_at : ObjectMap → Mark → ℕ
count_at held mark = count_by (λ o. has_mark (marks_of o) mark) (values held)

-- the pairs of a mark of the list and a held object that has it
abbrev pub cost : ObjectMap → List Mark → ℕ
cost held marks = sum_by (count_at held) marks
