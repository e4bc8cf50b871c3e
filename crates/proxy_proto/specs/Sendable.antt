-- Messages that can be sent and read back: numbers fit their types, strings are UTF-8, an optional string is not empty and an optional
-- port not 0, networks have no host bits, durations are below 2 ^ 63 nanoseconds, and lengths fit 64 bits. Inbound routes have no
-- backends and timeouts, and outbound routes no authorizations.
use Rattle.std.specs.Prelude.{ℕ, ◌<◌, ◌≡◌, ◌≢◌, ◌^◌, List, [], Option, Some, None, IsUtf8, length}
use Rattle.std.specs.List.{AllByRecursion}
use Rattle.std.specs.FinMap.{entries}
use Rattle.k8s_meta.specs.Lawful.{IsPort, IsShort, IsString}
use Rattle.mesh_base.specs.declared.key.Kind.{Kind}
use Rattle.mesh_base.specs.declared.key.Kind.TheVariants.{LinkerdRoute, GatewayRoute}
use Rattle.net_cidr.specs.Texts.{FitsIp}
use Rattle.net_cidr.specs.declared.ip.Ip.{Ip}
use Rattle.view_types.specs.Lawful.{IsLawfulBlock, IsLawfulFilter, IsLawfulMatch, IsLawfulOverride, IsLawfulProfileRoute}
use Rattle.view_types.specs.declared.endpoint.EndpointRow.{EndpointRow}
use Rattle.view_types.specs.declared.message.Message.{Message}
use Rattle.view_types.specs.declared.message.Message.TheVariants.{Add, Remove, NoEndpoints, Profile, Server, Outbound, Whole, AuthzPut, AuthzGone}
use Rattle.view_types.specs.declared.outbound.OutboundView.{OutboundView}
use Rattle.view_types.specs.declared.outbound.OutboundView.TheVariants as outbound
use Rattle.view_types.specs.declared.outbound.ProfileView.{ProfileView}
use Rattle.view_types.specs.declared.query.Method.{Method}
use Rattle.view_types.specs.declared.query.Method.TheVariants.{Get, GetProfile, WatchPort, Watch, WatchPort2}
use Rattle.view_types.specs.declared.server_view.Authn.{Authn}
use Rattle.view_types.specs.declared.server_view.Authn.TheVariants.{Anyone, AnyTls, Clients}
use Rattle.view_types.specs.declared.server_view.AuthzKind.{AuthzKind}
use Rattle.view_types.specs.declared.server_view.AuthzRow.{AuthzRow}
use Rattle.view_types.specs.declared.server_view.BackendRow.{BackendRow}
use Rattle.view_types.specs.declared.server_view.RouteRow.{RouteRow}
use Rattle.view_types.specs.declared.server_view.RuleRow.{RuleRow}
use Rattle.view_types.specs.declared.server_view.ServerRow.{ServerRow}
use Rattle.view_types.specs.declared.server_view.ServerView.{ServerView}
use Rattle.view_types.specs.declared.server_view.ServerView.TheVariants as server
use Rattle.proxy_proto.specs.Messages.{canonical}

-- ---- endpoints and profiles

abbrev pub PortFits : Option ℕ → Type 0
PortFits None = Unit {0}
PortFits (Some port) = port < 65536

abbrev pub IsSendableLabel : List ℕ × List ℕ → Type 0
IsSendableLabel label = IsUtf8 label.0 × IsUtf8 label.1

abbrev pub IsSendableIdentity : Option (List ℕ) → Type 0
IsSendableIdentity None = Unit {0}
IsSendableIdentity (Some name) = (name ≢ []) × IsUtf8 name

pub record IsSendableRow (row : EndpointRow) : Type 0 where
  pub ip : FitsIp row.ip
  pub port : row.port < 65536
  pub weight : row.weight < 2 ^ 32
  pub tunnel : PortFits row.tunnel
  pub labels : AllByRecursion IsSendableLabel (entries row.labels)
  pub identity : IsSendableIdentity row.identity

pub record IsSendablePair (pair : Ip × ℕ) : Type 0 where
  pub ip : FitsIp pair.0
  pub port : pair.1 < 65536

abbrev pub IsSendableEndpoint : Option EndpointRow → Type 0
IsSendableEndpoint None = Unit {0}
IsSendableEndpoint (Some row) = IsSendableRow row

pub record IsSendableProfile (view : ProfileView) : Type 0 where
  pub fqn : IsUtf8 view.fqn
  pub routes : AllByRecursion IsLawfulProfileRoute view.routes
  pub overrides : AllByRecursion IsLawfulOverride view.overrides
  pub endpoint : IsSendableEndpoint view.endpoint

-- ---- authorizations

pub record AreSendableClients (ids suffixes : List (List ℕ)) : Type 0 where
  pub each_id : AllByRecursion IsUtf8 ids
  pub each_suffix : AllByRecursion IsUtf8 suffixes

abbrev pub IsSendableAuthn : Authn → Type 0
IsSendableAuthn Anyone = Unit {0}
IsSendableAuthn AnyTls = Unit {0}
IsSendableAuthn (Clients ids suffixes everyone) = AreSendableClients ids suffixes

pub record IsSendableAuthz (row : AuthzRow) : Type 0 where
  pub name : IsUtf8 row.name
  pub blocks : AllByRecursion IsLawfulBlock row.blocks
  pub authn : IsSendableAuthn row.authn

-- ---- routes

pub record IsSendableBackend (backend : BackendRow) : Type 0 where
  pub ns : IsUtf8 backend.ns
  pub name : IsUtf8 backend.name
  pub port : IsPort backend.port
  pub weight : backend.weight < 2 ^ 32

pub record IsSendableRule (rule : RuleRow) : Type 0 where
  pub matches : AllByRecursion IsLawfulMatch rule.matches
  pub filters : AllByRecursion IsLawfulFilter rule.filters
  pub backends : AllByRecursion IsSendableBackend rule.backends
  pub request : IsShort rule.request_timeout
  pub backend : IsShort rule.backend_timeout

-- one of the two kinds of routes
abbrev pub IsRouteKind : Kind → Type 0
IsRouteKind LinkerdRoute = Unit {0}
IsRouteKind GatewayRoute = Unit {0}
IsRouteKind _ = ⊥

pub record IsSendableRoute (route : RouteRow) : Type 0 where
  pub kind : IsRouteKind route.kind
  pub name : IsUtf8 route.name
  pub created : route.created ≢ Some []
  pub created_text : IsString route.created
  pub hosts : AllByRecursion IsUtf8 route.hosts
  pub rules : AllByRecursion IsSendableRule route.rules
  pub authz : AllByRecursion IsSendableAuthz route.authz

pub record IsInboundRule (rule : RuleRow) : Type 0 where
  pub backends : rule.backends ≡ []
  pub request : rule.request_timeout ≡ None
  pub backend : rule.backend_timeout ≡ None

pub record IsInboundRoute (route : RouteRow) : Type 0 where
  pub sendable : IsSendableRoute route
  pub rules : AllByRecursion IsInboundRule route.rules

pub record IsOutboundRoute (route : RouteRow) : Type 0 where
  pub sendable : IsSendableRoute route
  pub authz : route.authz ≡ []

-- ---- policies

pub record IsSendableServerRow (row : ServerRow) : Type 0 where
  pub server : row.server ≢ Some []
  pub server_text : IsString row.server
  pub authz : AllByRecursion IsSendableAuthz row.authz
  pub routes : AllByRecursion IsInboundRoute row.routes
  pub probes : AllByRecursion IsUtf8 row.probes

abbrev pub IsSendableServer : ServerView → Type 0
IsSendableServer server.Absent = Unit {0}
IsSendableServer (server.Present row) = IsSendableServerRow row

pub record IsSendableService (ns name : List ℕ) (port : ℕ) (routes : List RouteRow) : Type 0 where
  pub ns_text : IsUtf8 ns
  pub name_text : IsUtf8 name
  pub port_number : IsPort port
  pub each_route : AllByRecursion IsOutboundRoute routes

abbrev pub IsSendableOutbound : OutboundView → Type 0
IsSendableOutbound outbound.Absent = Unit {0}
IsSendableOutbound (outbound.Forward endpoint opaque) = IsSendableRow endpoint
IsSendableOutbound (outbound.Service ns name port opaque routes) = IsSendableService ns name port routes

-- ---- messages

abbrev pub IsSendableAuthzKey : AuthzKind × List ℕ → Type 0
IsSendableAuthzKey key = IsUtf8 key.1

abbrev pub AreSendableParts : Message → Type 0
AreSendableParts (Add rows) = AllByRecursion IsSendableRow rows
AreSendableParts (Remove pairs) = AllByRecursion IsSendablePair pairs
AreSendableParts (NoEndpoints exists) = Unit {0}
AreSendableParts (Profile view) = IsSendableProfile view
AreSendableParts (Server view) = IsSendableServer view
AreSendableParts (Outbound view) = IsSendableOutbound view
AreSendableParts (Whole view) = IsSendableServer view
AreSendableParts (AuthzPut rows) = AllByRecursion IsSendableAuthz rows
AreSendableParts (AuthzGone keys) = AllByRecursion IsSendableAuthzKey keys

pub record IsSendable (message : Message) : Type 0 where
  pub parts : AreSendableParts message
  pub short : length (canonical message) < 2 ^ 64

-- the method that is answered with the message
abbrev pub method_of : Message → Method
method_of (Profile view) = GetProfile
method_of (Server view) = WatchPort
method_of (Outbound view) = Watch
method_of (Whole view) = WatchPort2
method_of (AuthzPut rows) = WatchPort2
method_of (AuthzGone keys) = WatchPort2
method_of _ = Get
