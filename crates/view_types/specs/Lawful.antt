-- What calls require of the objects held, and readers ensure: strings are in UTF-8, numbers are
-- within their types, and the relations between fields hold.
use Rattle.std.specs.Prelude.{◌≡◌, ◌≢◌, ◌≤◌, ◌<◌, ◌^◌, ◌&&◌, ℕ, Bool, true, false, List, [], Option, Some, IsUtf8, count_by, nat_lt}
use Rattle.std.specs.List.{AllByRecursion, list_all}
use Rattle.std.specs.Str.{is_utf8}
use Rattle.net_cidr.specs.Network.{IsRound}
use Rattle.net_cidr.specs.Texts.{FitsIp}
use Rattle.net_cidr.specs.declared.block.Block.{Block}
use Rattle.net_cidr.specs.declared.ip.Ip.{Ip}
use Rattle.net_cidr.specs.declared.net.Net.{Net}
use Rattle.k8s_meta.specs.Lawful.{IsLawfulMeta, IsPort, IsShort, IsSomePort, IsString}
use Rattle.mesh_base.specs.declared.key.Kind.{Kind}
use Rattle.mesh_base.specs.declared.key.Kind.TheVariants as kind
use Rattle.view_types.specs.declared.authn.AuthnSpec.{AuthnSpec}
use Rattle.view_types.specs.declared.authn.AuthnSpec.TheVariants.{Anyone, AnyTls, Clients}
use Rattle.view_types.specs.declared.authn.AuthzPolicy.{AuthzPolicy}
use Rattle.view_types.specs.declared.authn.IdSpec.{IdSpec}
use Rattle.view_types.specs.declared.authn.IdSpec.TheVariants.{Written, Account, Namespace}
use Rattle.view_types.specs.declared.authn.MeshAuthn.{MeshAuthn}
use Rattle.view_types.specs.declared.authn.NetAuthn.{NetAuthn}
use Rattle.view_types.specs.declared.authn.Ref.{Ref}
use Rattle.view_types.specs.declared.authn.RefKind.{RefKind}
use Rattle.view_types.specs.declared.authn.RefKind.TheVariants.{MeshAuthn as MeshAuthnRef, NetAuthn as NetAuthnRef, ServiceAccount}
use Rattle.view_types.specs.declared.authn.ServerAuthz.{ServerAuthz}
use Rattle.view_types.specs.declared.object.Object.{Object}
use Rattle.view_types.specs.declared.object.Object.TheVariants as object
use Rattle.view_types.specs.declared.pod.Pod.{Pod}
use Rattle.view_types.specs.declared.profile.Override.{Override}
use Rattle.view_types.specs.declared.profile.Profile.{Profile}
use Rattle.view_types.specs.declared.profile.ProfileRoute.{ProfileRoute}
use Rattle.view_types.specs.declared.profile.ReqMatch.{ReqMatch, fold-ReqMatch}
use Rattle.view_types.specs.declared.profile.ReqMatch.TheOpen.{ReqMatch-F}
use Rattle.view_types.specs.declared.profile.RespClass.{RespClass}
use Rattle.view_types.specs.declared.profile.RespMatch.{RespMatch, fold-RespMatch}
use Rattle.view_types.specs.declared.profile.RespMatch.TheOpen.{RespMatch-F}
use Rattle.view_types.specs.declared.route.BackendRef.{BackendRef}
use Rattle.view_types.specs.declared.route.Filter.{Filter}
use Rattle.view_types.specs.declared.route.Filter.TheVariants.{Headers, Redirect}
use Rattle.view_types.specs.declared.route.HttpMatch.{HttpMatch}
use Rattle.view_types.specs.declared.route.NameMatch.{NameMatch}
use Rattle.view_types.specs.declared.route.Parent.{Parent}
use Rattle.view_types.specs.declared.route.PathMatch.{PathMatch}
use Rattle.view_types.specs.declared.route.PathMatch.TheVariants.{Exact, Prefix, Regex}
use Rattle.view_types.specs.declared.route.Route.{Route}
use Rattle.view_types.specs.declared.route.Rule.{Rule}
use Rattle.view_types.specs.declared.server.PortRef.{PortRef}
use Rattle.view_types.specs.declared.server.PortRef.TheVariants.{Number, Named}
use Rattle.view_types.specs.declared.server.ServerSpec.{ServerSpec}
use Rattle.view_types.specs.declared.service.NamedPort.{NamedPort}
use Rattle.view_types.specs.declared.service.Service.{Service}
use Rattle.view_types.specs.declared.slice.Point.{Point}
use Rattle.view_types.specs.declared.slice.Slice.{Slice}

-- ---- Pods, Services and slices

abbrev pub ArePorts : List NamedPort → Type 0
ArePorts ports = AllByRecursion (λ (p : NamedPort). IsPort p.port) ports

abbrev pub AreAddresses : List Ip → Type 0
AreAddresses addrs = AllByRecursion FitsIp addrs

-- the paths of probes are in UTF-8
abbrev pub ArePaths : List (ℕ × List ℕ) → Type 0
ArePaths probes = AllByRecursion (λ (probe : ℕ × List ℕ). IsUtf8 probe.1) probes

pub record IsLawfulPod (pod : Pod) : Type 0 where
  pub meta : IsLawfulMeta pod.meta
  pub account : IsUtf8 pod.account
  pub addrs : AreAddresses pod.addrs
  pub ports : ArePorts pod.ports
  pub probes : ArePaths pod.probes

pub record IsLawfulService (service : Service) : Type 0 where
  pub meta : IsLawfulMeta service.meta
  pub addrs : AreAddresses service.addrs
  pub ports : ArePorts service.ports

pub record IsLawfulSlice (slice : Slice) : Type 0 where
  pub meta : IsLawfulMeta slice.meta
  pub points : AllByRecursion (λ (p : Point). AreAddresses p.addrs) slice.points
  pub ports : ArePorts slice.ports

-- ---- policies

-- a Server's port: a number, or the name of a container's port
abbrev pub IsLawfulPortRef : PortRef → Type 0
IsLawfulPortRef (Number port) = IsPort port
IsLawfulPortRef (Named name) = IsUtf8 name

pub record IsLawfulServer (server : ServerSpec) : Type 0 where
  pub meta : IsLawfulMeta server.meta
  pub port : IsLawfulPortRef server.port

-- a network has at most as many bits as its addresses, and the host bits of its base are zero
pub record IsLawfulNet (net : Net) : Type 0 where
  pub base : FitsIp net.base
  pub round : IsRound net

pub record IsLawfulBlock (block : Block) : Type 0 where
  pub whole : IsLawfulNet block.net
  pub except : AllByRecursion IsLawfulNet block.except

abbrev pub IsLawfulId : IdSpec → Type 0
IsLawfulId (Written text) = IsUtf8 text
IsLawfulId (Account ns name) = IsUtf8 ns × IsUtf8 name
IsLawfulId (Namespace ns) = IsUtf8 ns

abbrev pub IsLawfulAuthnSpec : AuthnSpec → Type 0
IsLawfulAuthnSpec Anyone = Unit {0}
IsLawfulAuthnSpec AnyTls = Unit {0}
IsLawfulAuthnSpec (Clients ids) = AllByRecursion IsLawfulId ids

pub record IsLawfulServerAuthz (authz : ServerAuthz) : Type 0 where
  pub meta : IsLawfulMeta authz.meta
  pub blocks : AllByRecursion IsLawfulBlock authz.blocks
  pub authn : IsLawfulAuthnSpec authz.authn

-- the references to networks
abbrev pub gives_networks : RefKind → Bool
gives_networks NetAuthnRef = true
gives_networks _ = false

-- the references to clients
abbrev pub gives_clients : RefKind → Bool
gives_clients MeshAuthnRef = true
gives_clients ServiceAccount = true
gives_clients _ = false

abbrev pub count_of : (RefKind → Bool) → List Ref → ℕ
count_of test needs = count_by (λ need. test need.kind) needs

-- at most one reference to networks, and at most one to clients
pub record AreLawfulNeeds (needs : List Ref) : Type 0 where
  pub networks : count_of gives_networks needs ≤ 1
  pub clients : count_of gives_clients needs ≤ 1

pub record IsLawfulRef (ref : Ref) : Type 0 where
  pub ns : IsString ref.ns
  pub name : IsUtf8 ref.name

pub record IsLawfulPolicy (policy : AuthzPolicy) : Type 0 where
  pub meta : IsLawfulMeta policy.meta
  pub needs : AreLawfulNeeds policy.needs
  pub refs : AllByRecursion IsLawfulRef policy.needs

pub record IsLawfulMeshAuthn (authn : MeshAuthn) : Type 0 where
  pub meta : IsLawfulMeta authn.meta
  pub ids : AllByRecursion IsLawfulId authn.ids

pub record IsLawfulNetAuthn (authn : NetAuthn) : Type 0 where
  pub meta : IsLawfulMeta authn.meta
  pub blocks : AllByRecursion IsLawfulBlock authn.blocks

-- ---- profiles

-- whether all strings of the match are in UTF-8, if that is known of the matches in it
abbrev pub has_strings_by : ReqMatch-F Bool → Bool
has_strings_by (ReqMatch-F.Method name) = is_utf8 name
has_strings_by (ReqMatch-F.Path regex) = is_utf8 regex
has_strings_by (ReqMatch-F.All parts) = list_all (λ part. part) parts
has_strings_by (ReqMatch-F.Any parts) = list_all (λ part. part) parts
has_strings_by (ReqMatch-F.Not part) = part

-- the strings of the match, at any depth, are in UTF-8
abbrev pub has_strings : ReqMatch → Bool
has_strings = fold-ReqMatch Bool has_strings_by

abbrev pub has_statuses_by : RespMatch-F Bool → Bool
has_statuses_by (RespMatch-F.Status low high) = nat_lt low 65536 && nat_lt high 65536
has_statuses_by (RespMatch-F.All parts) = list_all (λ part. part) parts
has_statuses_by (RespMatch-F.Any parts) = list_all (λ part. part) parts
has_statuses_by (RespMatch-F.Not part) = part

-- the status codes of the match, at any depth, are below 2 ^ 16
abbrev pub has_statuses : RespMatch → Bool
has_statuses = fold-RespMatch Bool has_statuses_by

pub record IsLawfulProfileRoute (route : ProfileRoute) : Type 0 where
  pub name : IsUtf8 route.name
  pub condition : has_strings route.condition ≡ true
  pub classes : AllByRecursion (λ (c : RespClass). has_statuses c.condition ≡ true) route.classes
  pub timeout : IsShort route.timeout

pub record IsLawfulOverride (override : Override) : Type 0 where
  pub authority : IsUtf8 override.authority
  pub weight : override.weight < 2 ^ 32

pub record IsLawfulProfile (profile : Profile) : Type 0 where
  pub meta : IsLawfulMeta profile.meta
  pub routes : AllByRecursion IsLawfulProfileRoute profile.routes
  pub overrides : AllByRecursion IsLawfulOverride profile.overrides

-- ---- HTTP routes

pub record IsLawfulParent (parent : Parent) : Type 0 where
  pub name : IsUtf8 parent.name
  pub port : IsSomePort parent.port

abbrev pub IsLawfulPath : PathMatch → Type 0
IsLawfulPath (Exact text) = IsUtf8 text
IsLawfulPath (Prefix text) = IsUtf8 text
IsLawfulPath (Regex text) = IsUtf8 text

pub record IsLawfulName (part : NameMatch) : Type 0 where
  pub name : IsUtf8 part.name
  pub value : IsUtf8 part.value

pub record IsLawfulMatch (m : HttpMatch) : Type 0 where
  pub path : IsLawfulPath m.path
  pub headers : AllByRecursion IsLawfulName m.headers
  pub query : AllByRecursion IsLawfulName m.query
  pub method : IsString m.method
  pub filled : m.method ≢ Some []

abbrev pub ArePairs : List (List ℕ × List ℕ) → Type 0
ArePairs pairs = AllByRecursion (λ (p : List ℕ × List ℕ). IsUtf8 p.0 × IsUtf8 p.1) pairs

pub record AreLawfulHeaders (add set : List (List ℕ × List ℕ)) (remove : List (List ℕ)) : Type 0 where
  pub added : ArePairs add
  pub replaced : ArePairs set
  pub removed : AllByRecursion IsUtf8 remove

-- No part of a redirect is present and empty.
pub record IsLawfulRedirect (scheme host : Option (List ℕ)) (port : Option ℕ) (status : ℕ) : Type 0 where
  pub scheme_text : IsString scheme
  pub scheme_filled : scheme ≢ Some []
  pub host_text : IsString host
  pub host_filled : host ≢ Some []
  pub port_number : IsSomePort port
  pub port_filled : port ≢ Some 0
  pub status_number : status < 65536

abbrev pub IsLawfulFilter : Filter → Type 0
IsLawfulFilter (Headers add set remove) = AreLawfulHeaders add set remove
IsLawfulFilter (Redirect scheme host port status) = IsLawfulRedirect scheme host port status

pub record IsLawfulBackend (backend : BackendRef) : Type 0 where
  pub ns : IsUtf8 backend.ns
  pub name : IsUtf8 backend.name
  pub port : IsSomePort backend.port
  pub weight : backend.weight < 2 ^ 32

pub record IsLawfulRule (rule : Rule) : Type 0 where
  pub matches : AllByRecursion IsLawfulMatch rule.matches
  pub filters : AllByRecursion IsLawfulFilter rule.filters
  pub backends : AllByRecursion IsLawfulBackend rule.backends
  pub request : IsShort rule.request_timeout
  pub backend : IsShort rule.backend_timeout

pub record IsLawfulRoute (kind : Kind) (route : Route) : Type 0 where
  pub same_kind : route.kind ≡ kind
  pub meta : IsLawfulMeta route.meta
  pub parents : AllByRecursion IsLawfulParent route.parents
  pub hosts : AllByRecursion IsUtf8 route.hosts
  pub rules : AllByRecursion IsLawfulRule route.rules

-- ---- all kinds

abbrev pub IsLawful : Object → Type 0
IsLawful (object.Pod o) = IsLawfulPod o
IsLawful (object.Service o) = IsLawfulService o
IsLawful (object.EndpointSlice o) = IsLawfulSlice o
IsLawful (object.ServiceProfile o) = IsLawfulProfile o
IsLawful (object.Server o) = IsLawfulServer o
IsLawful (object.ServerAuthorization o) = IsLawfulServerAuthz o
IsLawful (object.AuthorizationPolicy o) = IsLawfulPolicy o
IsLawful (object.MeshTLSAuthentication o) = IsLawfulMeshAuthn o
IsLawful (object.NetworkAuthentication o) = IsLawfulNetAuthn o
IsLawful (object.LinkerdRoute o) = IsLawfulRoute kind.LinkerdRoute o
IsLawful (object.GatewayRoute o) = IsLawfulRoute kind.GatewayRoute o
