-- The verdict of the written policy on a request, over the objects held, and what decided.
use Rattle.std.specs.Prelude.{◌&&◌, ◌||◌, ℕ, Bool, true, false, if◌then◌else◌, List, [], ◌∷◌, Option, Some, None, codes, find, map, position}
use Rattle.std.specs.FinMap.{values}
use Rattle.std.specs.List.{list_any, slice_get}
use Rattle.std.specs.Str.{bytes_eq}
use Rattle.mesh_base.specs.declared.key.Kind.{Kind}
use Rattle.mesh_base.specs.declared.key.Kind.TheVariants as kind
use Rattle.net_cidr.specs.declared.ip.Ip.{Ip}
use Rattle.view_types.specs.Objects.{ObjectMap, kind_of, meta_of}
use Rattle.view_types.specs.declared.config.Config.{Config}
use Rattle.view_types.specs.declared.object.Object.{Object}
use Rattle.view_types.specs.declared.pod.Pod.{Pod}
use Rattle.view_types.specs.declared.policy.Policy.{Policy}
use Rattle.view_types.specs.declared.policy.Policy.TheVariants.{AllUnauthenticated, AllAuthenticated, ClusterUnauthenticated, ClusterAuthenticated, Deny, Audit}
use Rattle.view_types.specs.declared.policy.Protocol.{Protocol}
use Rattle.view_types.specs.declared.policy.Protocol.TheVariants.{Opaque, Tls}
use Rattle.view_types.specs.declared.request.ClientTls.{ClientTls}
use Rattle.view_types.specs.declared.request.ClientTls.TheVariants.{Identity}
use Rattle.view_types.specs.declared.request.HttpRequest.{HttpRequest}
use Rattle.view_types.specs.declared.request.Request.{Request}
use Rattle.view_types.specs.declared.route.Route.{Route}
use Rattle.view_types.specs.declared.server.ServerSpec.{ServerSpec}
use Rattle.view_types.specs.declared.server_view.AuthzKind.{AuthzKind}
use Rattle.view_types.specs.declared.server_view.AuthzKind.TheVariants.{ServerAuthorization, AuthorizationPolicy}
use Rattle.view_types.specs.declared.verdict.Decider.{Decider}
use Rattle.view_types.specs.declared.verdict.Decider.TheVariants.{Authz, Default, Probe}
use Rattle.view_types.specs.declared.verdict.Verdict.{Verdict}
use Rattle.view_types.specs.declared.verdict.Verdict.TheVariants.{Allowed, Denied, NotFound, NoWorkload}
use Rattle.request_rules.specs.Admits.{admits}
use Rattle.view_rules.specs.Inbound.{default_policy, default_protocol, probe_paths, unless_routes}
use Rattle.route_match.specs.Matching.{Pat, Shape, best}
use Rattle.route_match.specs.declared.best.Candidate.{Candidate}
use Rattle.view_rules.specs.PodRows.{pod_held}
use Rattle.view_rules.specs.Policies.{applies_to_route, applies_to_server}
use Rattle.view_rules.specs.Routes.{attached_routes, is_server_parent, route_key}
use Rattle.request_rules.specs.Networks.{net_holds}
use Rattle.view_rules.specs.Servers.{chosen_server}

-- ---- the policy

abbrev pub has_identity : ClientTls → Bool
has_identity (Identity identity) = true
has_identity _ = false

abbrev pub is_in_cluster : Config → Ip → Bool
is_in_cluster config ip = list_any (net_holds ip) config.cluster_nets

abbrev pub policy_admits : Config → Ip → ClientTls → Policy → Bool
policy_admits config ip tls AllUnauthenticated = true
policy_admits config ip tls AllAuthenticated = has_identity tls
policy_admits config ip tls ClusterUnauthenticated = is_in_cluster config ip
policy_admits config ip tls ClusterAuthenticated = is_in_cluster config ip && has_identity tls
policy_admits config ip tls Deny = false
policy_admits config ip tls Audit = true

abbrev pub by_policy : Config → Request → Policy → Verdict
by_policy config request policy = if policy_admits config request.client request.tls policy then Allowed (Default policy) else Denied (Default policy)

-- ---- authorizations

abbrev pub authz_kind_of : Kind → AuthzKind
authz_kind_of kind.ServerAuthorization = ServerAuthorization
authz_kind_of _ = AuthorizationPolicy

abbrev pub decider_of : Object → Decider
decider_of o = Authz (authz_kind_of (kind_of o)) (meta_of o).name

abbrev pub by_found : Verdict → Option Object → Verdict
by_found otherwise None = otherwise
by_found otherwise (Some o) = Allowed (decider_of o)

-- Objects are in order of kind, namespace and name, so that the first one of a namespace is the least. If none admits the client, the
-- verdict is `otherwise`.
abbrev pub decided : Config → ObjectMap → Request → Verdict → (Object → Bool) → Verdict
decided config held request otherwise applies =
    by_found otherwise (find (λ o. applies o && admits config held request.client request.tls o) (values held))

-- ---- routes

abbrev pub shape_of : Route → Shape
shape_of route = (route.hosts, map (λ rule. rule.matches) route.rules)

abbrev pub asks_routes : Protocol → Bool
asks_routes Opaque = false
asks_routes Tls = false
asks_routes _ = true

abbrev pub is_more_than_none : List Route → Bool
is_more_than_none [] = false
is_more_than_none (route ∷ routes) = true

-- to the Server, or to the route
abbrev pub applies_to_either : ObjectMap → ServerSpec → Route → Object → Bool
applies_to_either held server route o = applies_to_server held server o || applies_to_route held (route_key route) o

abbrev pub on_route : Config → ObjectMap → Request → ServerSpec → Option Route → Verdict
on_route config held request server None = NotFound
on_route config held request server (Some route) = decided config held request (by_policy config request server.policy) (applies_to_either held server route)

abbrev pub route_at : List Route → Option Candidate → Option Route
route_at routes None = None
route_at routes (Some found) = slice_get routes found.route

-- ---- probes

-- a GET from a cluster network, to a port whose protocol is not opaque or TLS
abbrev pub may_be_probe : Config → Request → Protocol → HttpRequest → Bool
may_be_probe config request protocol http = bytes_eq http.method (codes "GET") && asks_routes protocol && is_in_cluster config request.client

-- the index of the request's path among these paths, if the request may be a probe
abbrev pub probe_place : Config → Request → Protocol → List (List ℕ) → Option HttpRequest → Option ℕ
probe_place config request protocol paths None = None
probe_place config request protocol paths (Some http) = if may_be_probe config request protocol http then position (bytes_eq http.path) paths else None

abbrev pub by_probe : Config → Request → Policy → Option ℕ → Verdict
by_probe config request policy None = by_policy config request policy
by_probe config request policy (Some place) = Allowed (Probe place)

-- the verdict if no authorization decides: by a probe of one of these paths, and otherwise by the policy
abbrev pub by_paths : Config → Request → Protocol → Policy → List (List ℕ) → Verdict
by_paths config request protocol policy paths = by_probe config request policy (probe_place config request protocol paths request.http)

-- ---- the verdict

-- by the authorizations of the Server, and by the probes of the Pod where the Server has no routes
abbrev pub by_server_alone : Config → ObjectMap → Request → Pod → ServerSpec → List Route → Verdict
by_server_alone config held request pod server routes =
    decided config held request (by_paths config request server.protocol server.policy (unless_routes routes (probe_paths pod request.port))) (applies_to_server held server)

abbrev pub by_routes : Config → ObjectMap → Pat → Request → Pod → ServerSpec → List Route → Option HttpRequest → Verdict
by_routes config held pat request pod server routes None = by_server_alone config held request pod server routes
by_routes config held pat request pod server routes (Some http) =
    if is_more_than_none routes && asks_routes server.protocol
    then on_route config held request server (route_at routes (best pat http (map shape_of routes)))
    else by_server_alone config held request pod server routes

abbrev pub by_server : Config → ObjectMap → Pat → Request → Pod → Option ServerSpec → Verdict
by_server config held pat request pod None =
    by_paths config request (default_protocol pod request.port) (default_policy config pod) (probe_paths pod request.port)
by_server config held pat request pod (Some server) =
    by_routes config held pat request pod server (attached_routes held server.meta.ns (is_server_parent server.meta.name)) request.http

abbrev pub by_pod : Config → ObjectMap → Pat → Request → Option Pod → Verdict
by_pod config held pat request None = NoWorkload
by_pod config held pat request (Some pod) = by_server config held pat request pod (chosen_server held request.ns pod request.port)

-- the verdict on the request over these objects
abbrev pub verdict : Config → ObjectMap → Pat → Request → Verdict
verdict config held pat request = by_pod config held pat request (pod_held held (Some (request.ns, request.pod)))
