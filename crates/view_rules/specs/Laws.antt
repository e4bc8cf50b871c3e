-- The places that yield the endpoints of a Service port, the owners of addresses, and equal views.
use Rattle.std.specs.Prelude.{◌≡◌, ◌≢◌, ◌↔◌, ℕ, Bool, true, false, if◌then◌else◌, slice_get, IsTrue, List, Option, Some, None, All, Contains, find, map}
use Rattle.std.specs.Bool.{Decides}
use Rattle.std.specs.Cmp.Lexicographic.{slice_cmp}
use Rattle.std.specs.FinMap.{get}
use Rattle.std.specs.List.Sorted.{IsStrictlySortedBy}
use Rattle.std.specs.Ordering.{eq_by_cmp, nat_cmp, ordering_then}
use Rattle.std.specs.declared.cmp.Ordering.{Ordering}
use Rattle.std.specs.declared.cmp.Ordering.TheVariants.{Greater}
use Rattle.k8s_meta.specs.declared.meta.Meta.{Meta}
use Rattle.mesh_base.specs.declared.key.Kind.TheVariants as kind
use Rattle.mesh_base.specs.declared.key.ObjKey.{ObjKey}
use Rattle.net_cidr.specs.declared.ip.Ip.{Ip}
use Rattle.view_types.specs.Objects.{AtKeys, ObjectMap}
use Rattle.view_types.specs.declared.config.Config.{Config}
use Rattle.view_types.specs.declared.endpoint.EndpointRow.{EndpointRow}
use Rattle.view_types.specs.declared.object.Object.TheVariants as object
use Rattle.view_types.specs.declared.outbound.OutboundView.{OutboundView}
use Rattle.view_types.specs.declared.outbound.ProfileView.{ProfileView}
use Rattle.view_types.specs.declared.pod.Pod.{Pod}
use Rattle.view_types.specs.declared.query.Query.{Query}
use Rattle.view_types.specs.declared.server_view.AuthzRow.{AuthzRow}
use Rattle.view_types.specs.declared.server_view.ServerView.{ServerView}
use Rattle.view_types.specs.declared.service.NamedPort.{NamedPort}
use Rattle.view_types.specs.declared.service.Service.{Service}
use Rattle.view_types.specs.declared.slice.Point.{Point}
use Rattle.view_types.specs.declared.slice.Slice.{Slice}
use Rattle.view_rules.specs.Endpoints.{RowFor, endpoints, first_rows, has_addresses, pair_cmp, pair_of, port_name, service_held, service_key, service_of, slices_held}
use Rattle.view_rules.specs.Fold.{IsOrderly, IsOrderlyIfShown}
use Rattle.view_rules.specs.PodRows.{pod_key, row_for}
use Rattle.view_rules.specs.Profiles.{has_ended, pod_at, service_at}
use Rattle.view_rules.specs.Same.{same_profile, same_row}
use Rattle.view_rules.specs.SamePolicies.{same_authz, same_outbound, same_server}
use Rattle.view_rules.specs.Views.{view_of}

-- the name of the Service port with the number, if the Service has endpoints
abbrev pub name_of_port : ℕ → Option Service → Option (List ℕ)
name_of_port number None = None
name_of_port number (Some s) = if s.external then None else port_name number s.ports

-- a place in the slices of the Service yields the pair, at a port of the Service port's name
pub record IsGiven (held : ObjectMap) (ns name : List ℕ) (named : Option (List ℕ)) (ip : Ip) (port : ℕ) : Type 0 where
  pub slice : Slice
  pub key : ObjKey
  pub at_key : get held key ≡ Some (object.EndpointSlice slice)
  pub in_namespace : slice.meta.ns ≡ ns
  pub of_service : service_of slice ≡ Some name
  pub with_addresses : IsTrue (has_addresses slice.family)
  pub point : Point
  pub among_points : Contains slice.points point
  pub ready : IsTrue point.ready
  pub among_addresses : Contains point.addrs ip
  pub entry : NamedPort
  pub among_ports : Contains slice.ports entry
  pub tcp : IsTrue entry.tcp
  pub same_name : named ≡ Some entry.name
  pub number : entry.port ≡ port

-- a pair is in the view exactly if some place yields it
abbrev pub PairsAreGiven : Type 0
PairsAreGiven = (config : Config) (held : ObjectMap) (ns name : List ℕ) (number : ℕ) (ip : Ip) (port : ℕ)
    → Contains (map pair_of (endpoints config held ns name number).rows) (ip, port) ↔ IsGiven held ns name (name_of_port number (service_held held ns name)) ip port

abbrev pub is_at : Ip × ℕ → EndpointRow → Bool
is_at pair row = eq_by_cmp pair_cmp pair (pair_of row)

-- the rows ascend by address and port, each pair once, and each is the first of its pair
pub record AreFirst (rows first : List EndpointRow) : Type 0 where
  pub rise : IsStrictlySortedBy pair_cmp (map pair_of first)
  pub firsts : All (λ row. find (is_at (pair_of row)) rows ≡ Some row) first
  pub all : All (λ row. Contains (map pair_of first) (pair_of row)) rows

abbrev pub FirstRowsAreFirst : Type 0
FirstRowsAreFirst = (rows : List EndpointRow) → AreFirst rows (first_rows rows)

-- the slices of a Service are in the order of their names, so that the first place is the least
abbrev pub SlicesByName : Type 0
SlicesByName = (held : ObjectMap) → AtKeys held → (ns name : List ℕ)
    → IsStrictlySortedBy (slice_cmp nat_cmp) (map (λ (s : Slice). s.meta.name) (slices_held held ns name))

-- the rows of each view are in order, and a Service that does not exist has none
abbrev pub EndpointsAreOrderly : Type 0
EndpointsAreOrderly = (config : Config) (held : ObjectMap) (ns name : List ℕ) (port : ℕ) → IsOrderly (endpoints config held ns name port)

-- so are the rows of the view of each query that is sent by rows
abbrev pub ViewsAreOrderly : Type 0
ViewsAreOrderly = (config : Config) (held : ObjectMap) → AtKeys held → (query : Query) → IsOrderlyIfShown (Some (view_of config held query))

-- ---- the place that a row comes from

-- the name of a slice, and the indexes of an endpoint, of one of its addresses, and of a port
pub record Place : Type 0 where
  pub slice : List ℕ
  pub point : ℕ
  pub address : ℕ
  pub port : ℕ

abbrev pub place_cmp : Place → Place → Ordering
place_cmp a b = ordering_then (slice_cmp nat_cmp a.slice b.slice) (ordering_then (nat_cmp a.point b.point) (ordering_then (nat_cmp a.address b.address) (nat_cmp a.port b.port)))

-- the slice yields the row at the place, made for the endpoint's target, at ports of the name
pub record GivesFrom (row_of : RowFor) (port_name : List ℕ) (slice : Slice) (place : Place) (row : EndpointRow) : Type 0 where
  pub with_addresses : has_addresses slice.family ≡ true
  pub point : Point
  pub at_point : slice_get slice.points place.point ≡ Some point
  pub ready : point.ready ≡ true
  pub ip : Ip
  pub at_address : slice_get point.addrs place.address ≡ Some ip
  pub entry : NamedPort
  pub at_port : slice_get slice.ports place.port ≡ Some entry
  pub tcp : entry.tcp ≡ true
  pub same_name : entry.name ≡ port_name
  pub made : row_of point.pod ip entry.port ≡ row

abbrev pub slice_key : List ℕ → List ℕ → ObjKey
slice_key ns name = record { kind = kind.EndpointSlice; ns = ns; name = name }

-- the place, in a slice of the Service, yields the row
pub record Gives (config : Config) (held : ObjectMap) (ns name port_name : List ℕ) (place : Place) (row : EndpointRow) : Type 0 where
  pub slice : Slice
  pub at_key : get held (slice_key ns place.slice) ≡ Some (object.EndpointSlice slice)
  pub of_service : service_of slice ≡ Some name
  pub from : GivesFrom (row_for config held) port_name slice place row

-- the row comes from a place, and no lesser place yields a row of the same address and port
pub record IsOfTheLeast (config : Config) (held : ObjectMap) (ns name port_name : List ℕ) (row : EndpointRow) : Type 0 where
  pub place : Place
  pub gives : Gives config held ns name port_name place row
  pub least : (other : Place) (found : EndpointRow) → Gives config held ns name port_name other found → pair_of found ≡ pair_of row → place_cmp place other ≢ Greater

abbrev pub RowsAreOfTheLeast : Type 0
RowsAreOfTheLeast = (config : Config) (held : ObjectMap) → AtKeys held → (ns name port_name : List ℕ) (number : ℕ) (row : EndpointRow)
    → name_of_port number (service_held held ns name) ≡ Some port_name → Contains (endpoints config held ns name number).rows row → IsOfTheLeast config held ns name port_name row

-- ---- when two are the same

abbrev pub SameRowDecides : Type 0
SameRowDecides = (r s : EndpointRow) → Decides (same_row r s) (r ≡ s)

abbrev pub SameProfileDecides : Type 0
SameProfileDecides = (v w : ProfileView) → Decides (same_profile v w) (v ≡ w)

abbrev pub SameAuthzDecides : Type 0
SameAuthzDecides = (a b : AuthzRow) → Decides (same_authz a b) (a ≡ b)

abbrev pub SameServerDecides : Type 0
SameServerDecides = (v w : ServerView) → Decides (same_server v w) (v ≡ w)

abbrev pub SameOutboundDecides : Type 0
SameOutboundDecides = (v w : OutboundView) → Decides (same_outbound v w) (v ≡ w)

-- ---- the owners of addresses

-- the Service is held, is not of the type ExternalName, and has the address as a cluster IP
pub record IsServiceWith (held : ObjectMap) (ip : Ip) (s : Service) : Type 0 where
  pub at_key : get held (service_key s.meta.ns s.meta.name) ≡ Some (object.Service s)
  pub inside : s.external ≡ false
  pub has : Contains s.addrs ip

-- the Pod is held and has not ended, and the address is its own, not the node's
pub record IsPodWith (held : ObjectMap) (ip : Ip) (pod : Pod) : Type 0 where
  pub at_key : get held (pod_key pod.meta.ns pod.meta.name) ≡ Some (object.Pod pod)
  pub apart : pod.host_network ≡ false
  pub running : has_ended pod ≡ false
  pub has : Contains pod.addrs ip

-- by namespace, and then by name
abbrev pub name_cmp : Meta → Meta → Ordering
name_cmp a b = ordering_then (slice_cmp nat_cmp a.ns b.ns) (slice_cmp nat_cmp a.name b.name)

-- it is one of these, and none of them precedes it
pub record IsLeastOf {X : Type 0} (meta : X → Meta) (Is : X → Type 0) (x : X) : Type 0 where
  pub is : Is x
  pub least : (other : X) → Is other → name_cmp (meta x) (meta other) ≢ Greater

-- the one found is the least of these; if none is found, there is none
pub record FindsLeast {X : Type 0} (meta : X → Meta) (Is : X → Type 0) (found : Option X) : Type 0 where
  pub some : (x : X) → found ≡ Some x → IsLeastOf meta Is x
  pub none : found ≡ None → (x : X) → Is x → ⊥

abbrev pub ServicesAreTheLeast : Type 0
ServicesAreTheLeast = (held : ObjectMap) → AtKeys held → (ip : Ip) → FindsLeast (λ (s : Service). s.meta) (IsServiceWith held ip) (service_at held ip)

abbrev pub PodsAreTheLeast : Type 0
PodsAreTheLeast = (held : ObjectMap) → AtKeys held → (ip : Ip) → FindsLeast (λ (p : Pod). p.meta) (IsPodWith held ip) (pod_at held ip)
