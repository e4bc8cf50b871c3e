-- Laws on verdicts.
use Rattle.std.specs.Prelude.{◌≡◌, ◌≢◌, ◌↔◌, ◌&&◌, ℕ, Bool, true, false, if◌then◌else◌, List, [], Option, Some, None, codes, find, map}
use Rattle.std.specs.Bool.{Decides}
use Rattle.std.specs.FinMap.{get}
use Rattle.std.specs.List.{slice_get}
use Rattle.std.specs.declared.cmp.Ordering.TheVariants.{Greater}
use Rattle.mesh_base.specs.KeyOrder.{key_cmp}
use Rattle.net_cidr.specs.Network.{BlockHolds}
use Rattle.net_cidr.specs.Texts.{FitsIp}
use Rattle.net_cidr.specs.declared.block.Block.{Block}
use Rattle.net_cidr.specs.declared.ip.Ip.{Ip}
use Rattle.view_types.specs.Objects.{AtKeys, ObjectMap, key_of}
use Rattle.view_types.specs.declared.config.Config.{Config}
use Rattle.view_types.specs.declared.object.Object.{Object}
use Rattle.view_types.specs.declared.pod.Pod.{Pod}
use Rattle.view_types.specs.declared.policy.Policy.{Policy}
use Rattle.view_types.specs.declared.policy.Protocol.{Protocol}
use Rattle.view_types.specs.declared.request.ClientTls.{ClientTls}
use Rattle.view_types.specs.declared.request.HttpRequest.{HttpRequest}
use Rattle.view_types.specs.declared.request.Request.{Request}
use Rattle.view_types.specs.declared.route.Route.{Route}
use Rattle.view_types.specs.declared.server.ServerSpec.{ServerSpec}
use Rattle.view_types.specs.declared.server_view.AuthzRow.{AuthzRow}
use Rattle.view_types.specs.declared.verdict.Decider.TheVariants.{Authz, Default, Probe}
use Rattle.view_types.specs.declared.verdict.Verdict.{Verdict}
use Rattle.view_types.specs.declared.verdict.Verdict.TheVariants.{Allowed, Denied, NotFound, NoWorkload}
use Rattle.view_rules.specs.Inbound.{default_policy, default_protocol, inbound_routes, probe_paths, unless_routes}
use Rattle.view_rules.specs.PodRows.{pod_held}
use Rattle.view_rules.specs.Policies.{applies_to_server, authz_row, authz_rows}
use Rattle.view_rules.specs.Servers.{chosen_server}
use Rattle.route_match.specs.Matching.{IsCandidate, Pat, best, row_shape}
use Rattle.route_match.specs.declared.best.Candidate.{Candidate}
use Rattle.request_rules.specs.Admits.{admits, row_admits}
use Rattle.request_rules.specs.Meeting.{RoutesCount, routes_of}
use Rattle.request_rules.specs.Networks.{block_holds}
use Rattle.request_rules.specs.Verdicts.{applies_to_either, asks_routes, decider_of, is_in_cluster, is_more_than_none, policy_admits, route_at, shape_of, verdict}

abbrev pub BlockHoldsDecides : Type 0
BlockHoldsDecides = (block : Block) (ip : Ip) → Decides (block_holds ip block) (BlockHolds block ip)

-- ---- rows and objects

-- a row admits a client exactly if the authorization that it shows does
abbrev pub RowsAdmitAsTheirObjects : Type 0
RowsAdmitAsTheirObjects = (config : Config) (held : ObjectMap) (o : Object) (row : AuthzRow) (ip : Ip) → FitsIp ip → (tls : ClientTls)
    → authz_row config held o ≡ Some row → row_admits ip tls row ≡ admits config held ip tls o

-- the object is held, applies, and admits the client
pub record IsAdmitting (config : Config) (held : ObjectMap) (applies : Object → Bool) (ip : Ip) (tls : ClientTls) (o : Object) : Type 0 where
  pub at_key : get held (key_of o) ≡ Some o
  pub passes : applies o ≡ true
  pub admitting : admits config held ip tls o ≡ true

-- the object satisfies `Is`, and no object that does is before it by kind, namespace and name
pub record IsLeastObject (Is : Object → Type 0) (o : Object) : Type 0 where
  pub is : Is o
  pub least : (other : Object) → Is other → key_cmp (key_of o) (key_of other) ≢ Greater

-- the row shows the least object that satisfies `Is`; if there is no row, there is no such object
pub record ShowsLeast (config : Config) (held : ObjectMap) (Is : Object → Type 0) (found : Option AuthzRow) : Type 0 where
  pub some : (row : AuthzRow) → found ≡ Some row → (o : Object) × IsLeastObject Is o × (authz_row config held o ≡ Some row)
  pub none : found ≡ None → (o : Object) → Is o → ⊥

-- the first row that admits a client shows the least authorization that applies and admits it
abbrev pub FirstRowsShowTheLeast : Type 0
FirstRowsShowTheLeast =
    (config : Config) (held : ObjectMap) → AtKeys held → (applies : Object → Bool) (ip : Ip) → FitsIp ip → (tls : ClientTls)
    → ShowsLeast config held (IsAdmitting config held applies ip tls) (find (row_admits ip tls) (authz_rows config held applies))

-- the rows of a Server's routes have the hostnames and matches of the routes, place by place
abbrev pub RowsShowTheirMatches : Type 0
RowsShowTheirMatches = (config : Config) (held : ObjectMap) (server : ServerSpec)
    → map row_shape (inbound_routes config held server) ≡ map shape_of (routes_of held server)

-- ---- what decides

-- what is in force for a request: the protocol and the policy, which authorizations are used, and the paths of the probes that are used
pub record InForce : Type 0 where
  pub protocol : Protocol
  pub policy : Policy
  pub counts : Object → Bool
  pub paths : List (List ℕ)

abbrev pub on_route : ObjectMap → ServerSpec → Option Route → Option InForce
on_route held server None = None
on_route held server (Some route) = Some record { protocol = server.protocol; policy = server.policy; counts = applies_to_either held server route; paths = [] }

abbrev pub on_server : ObjectMap → Pod → ℕ → ServerSpec → Option InForce
on_server held pod port server =
    Some record { protocol = server.protocol; policy = server.policy; counts = applies_to_server held server; paths = unless_routes (routes_of held server) (probe_paths pod port) }

-- the authorizations of the Server, and those of the route with the best match if routes are used
abbrev pub at_server : ObjectMap → Pat → Pod → ℕ → ServerSpec → Option HttpRequest → Option InForce
at_server held pat pod port server None = on_server held pod port server
at_server held pat pod port server (Some http) =
    if is_more_than_none (routes_of held server) && asks_routes server.protocol
    then on_route held server (route_at (routes_of held server) (best pat http (map shape_of (routes_of held server))))
    else on_server held pod port server

-- without a Server no authorization is used
abbrev pub at_port : Config → ObjectMap → Pat → Request → Pod → Option ServerSpec → Option InForce
at_port config held pat request pod None =
    Some record { protocol = default_protocol pod request.port; policy = default_policy config pod; counts = λ o. false; paths = probe_paths pod request.port }
at_port config held pat request pod (Some server) = at_server held pat pod request.port server request.http

abbrev pub at_pod : Config → ObjectMap → Pat → Request → Option Pod → Option InForce
at_pod config held pat request None = None
at_pod config held pat request (Some pod) = at_port config held pat request pod (chosen_server held request.ns pod request.port)

abbrev pub in_force : Config → ObjectMap → Pat → Request → Option InForce
in_force config held pat request = at_pod config held pat request (pod_held held (Some (request.ns, request.pod)))

abbrev pub Counting : Config → ObjectMap → Request → InForce → Object → Type 0
Counting config held request force = IsAdmitting config held force.counts request.client request.tls

-- the request is a GET of the path at this index, from a cluster network, to a port whose protocol is not opaque or TLS
pub record IsProbe (config : Config) (request : Request) (force : InForce) (place : ℕ) : Type 0 where
  pub http : HttpRequest
  pub http_is : request.http ≡ Some http
  pub method : http.method ≡ codes "GET"
  pub protocol_asks : asks_routes force.protocol ≡ true
  pub near : is_in_cluster config request.client ≡ true
  pub path : slice_get force.paths place ≡ Some http.path

-- no authorization that is used admits the client
abbrev pub NoneAdmits : Config → ObjectMap → Request → InForce → Type 0
NoneAdmits config held request force = (o : Object) → Counting config held request force o → ⊥

-- nor is the request a probe
pub record IsLeftToPolicy (config : Config) (held : ObjectMap) (request : Request) (force : InForce) : Type 0 where
  pub none_admits : NoneAdmits config held request force
  pub no_probe : (place : ℕ) → IsProbe config request force place → ⊥

-- An allowed client is admitted by the authorization that is named, the least of those that are used and admit it; or by none that is
-- used, and then by the probe that is named, or by the policy that is named. A denied client is admitted by none of these.
abbrev pub IsDecidedBy : Config → ObjectMap → Request → InForce → Verdict → Type 0
IsDecidedBy config held request force (Allowed (Authz kind name)) =
    (o : Object) × IsLeastObject (Counting config held request force) o × (decider_of o ≡ Authz kind name)
IsDecidedBy config held request force (Allowed (Probe place)) = IsProbe config request force place × NoneAdmits config held request force
IsDecidedBy config held request force (Allowed (Default policy)) =
    (policy ≡ force.policy) × (policy_admits config request.client request.tls policy ≡ true) × IsLeftToPolicy config held request force
IsDecidedBy config held request force (Denied (Default policy)) =
    (policy ≡ force.policy) × (policy_admits config request.client request.tls policy ≡ false) × IsLeftToPolicy config held request force
IsDecidedBy config held request force (Denied (Authz kind name)) = ⊥
IsDecidedBy config held request force (Denied (Probe place)) = ⊥
IsDecidedBy config held request force NotFound = ⊥
IsDecidedBy config held request force NoWorkload = ⊥

-- neither allowed nor denied
abbrev pub IsUndecided : Verdict → Type 0
IsUndecided NotFound = Unit {0}
IsUndecided NoWorkload = Unit {0}
IsUndecided (Allowed decider) = ⊥
IsUndecided (Denied decider) = ⊥

abbrev pub IsDecided : Config → ObjectMap → Request → Option InForce → Verdict → Type 0
IsDecided config held request None found = IsUndecided found
IsDecided config held request (Some force) found = IsDecidedBy config held request force found

abbrev pub VerdictsNameTheirDecider : Type 0
VerdictsNameTheirDecider = (config : Config) (held : ObjectMap) → AtKeys held → (pat : Pat) (request : Request)
    → IsDecided config held request (in_force config held pat request) (verdict config held pat request)

-- ---- verdicts without a decider

-- routes are used for the request, and none of their matches holds
pub record NoMatchHolds (held : ObjectMap) (pat : Pat) (request : Request) : Type 0 where
  pub counts : RoutesCount held request
  pub none : (c : Candidate) → IsCandidate pat counts.http (map shape_of (routes_of held counts.server)) c → ⊥

abbrev pub NotFoundWhereNoMatchHolds : Type 0
NotFoundWhereNoMatchHolds = (config : Config) (held : ObjectMap) (pat : Pat) (request : Request)
    → (verdict config held pat request ≡ NotFound) ↔ NoMatchHolds held pat request

abbrev pub NoWorkloadWhereNoPod : Type 0
NoWorkloadWhereNoPod = (config : Config) (held : ObjectMap) (pat : Pat) (request : Request)
    → (verdict config held pat request ≡ NoWorkload) ↔ (pod_held held (Some (request.ns, request.pod)) ≡ None)
