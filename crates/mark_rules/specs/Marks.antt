-- Marks, by which objects are found and which the rows of views read. A change can affect a row
-- only if it has a mark that the row reads.
use Rattle.std.specs.Prelude.{◌&&◌, ℕ, Bool, not, if◌then◌else◌, List, [], ◌∷◌, Option, Some, None, filter, flat_map, map}
use Rattle.std.specs.Cmp.Lexicographic.{slice_cmp}
use Rattle.std.specs.FinMap.{values}
use Rattle.std.specs.List.{list_any}
use Rattle.std.specs.Ordering.{eq_by_cmp, nat_cmp, ordering_then}
use Rattle.std.specs.Str.{bytes_eq}
use Rattle.std.specs.declared.cmp.Ordering.{Ordering}
use Rattle.mesh_base.specs.KeyOrder.{key_cmp}
use Rattle.net_cidr.specs.Address.{ip_cmp}
use Rattle.view_types.specs.Objects.{ObjectMap, key_of}
use Rattle.view_types.specs.declared.authn.AuthzPolicy.{AuthzPolicy}
use Rattle.view_types.specs.declared.authn.RefKind.{RefKind}
use Rattle.view_types.specs.declared.authn.RefKind.TheVariants as ref
use Rattle.view_types.specs.declared.mark.Mark.{Mark}
use Rattle.view_types.specs.declared.mark.Mark.TheVariants.{Obj, SlicesOf, ServersIn, ServerAuthzIn, PolicyOn, RouteOn, IpService, IpPod}
use Rattle.view_types.specs.declared.object.Object.{Object}
use Rattle.view_types.specs.declared.object.Object.TheVariants as object
use Rattle.view_types.specs.declared.pod.Pod.{Pod}
use Rattle.view_types.specs.declared.route.Parent.{Parent}
use Rattle.view_types.specs.declared.route.ParentKind.{ParentKind}
use Rattle.view_types.specs.declared.route.ParentKind.TheVariants as parent
use Rattle.view_types.specs.declared.route.Route.{Route}
use Rattle.view_types.specs.declared.service.Service.{Service}
use Rattle.view_rules.specs.Endpoints.{service_of}
use Rattle.view_rules.specs.InOrder.{in_order_by}
use Rattle.view_rules.specs.Policies.{ns_of}
use Rattle.view_rules.specs.Profiles.{has_ended}

-- ---- the order of marks

-- the index of a mark's variant in their order
abbrev pub mark_place : Mark → ℕ
mark_place (Obj key) = 0
mark_place (SlicesOf ns service) = 1
mark_place (ServersIn ns) = 2
mark_place (ServerAuthzIn ns) = 3
mark_place (PolicyOn ns kind name) = 4
mark_place (RouteOn ns kind name) = 5
mark_place (IpService ip) = 6
mark_place (IpPod ip) = 7

abbrev pub ref_place : RefKind → ℕ
ref_place ref.Server = 0
ref_place ref.LinkerdRoute = 1
ref_place ref.GatewayRoute = 2
ref_place ref.Namespace = 3
ref_place ref.ServiceAccount = 4
ref_place ref.MeshAuthn = 5
ref_place ref.NetAuthn = 6
ref_place ref.Other = 7

abbrev pub parent_place : ParentKind → ℕ
parent_place parent.Server = 0
parent_place parent.Service = 1

-- by namespace, the number of a kind, and name
abbrev pub named_cmp : List ℕ × ℕ × List ℕ → List ℕ × ℕ × List ℕ → Ordering
named_cmp a b = ordering_then (slice_cmp nat_cmp a.0 b.0) (ordering_then (nat_cmp a.1 b.1) (slice_cmp nat_cmp a.2 b.2))

-- marks of one variant by their fields, and others by their variants
abbrev pub mark_cmp : Mark → Mark → Ordering
mark_cmp (Obj key) (Obj other) = key_cmp key other
mark_cmp (SlicesOf ns service) (SlicesOf other_ns other) = ordering_then (slice_cmp nat_cmp ns other_ns) (slice_cmp nat_cmp service other)
mark_cmp (ServersIn ns) (ServersIn other) = slice_cmp nat_cmp ns other
mark_cmp (ServerAuthzIn ns) (ServerAuthzIn other) = slice_cmp nat_cmp ns other
mark_cmp (PolicyOn ns kind name) (PolicyOn other_ns other_kind other) = named_cmp (ns, ref_place kind, name) (other_ns, ref_place other_kind, other)
mark_cmp (RouteOn ns kind name) (RouteOn other_ns other_kind other) = named_cmp (ns, parent_place kind, name) (other_ns, parent_place other_kind, other)
mark_cmp (IpService ip) (IpService other) = ip_cmp ip other
mark_cmp (IpPod ip) (IpPod other) = ip_cmp ip other
mark_cmp mark other = nat_cmp (mark_place mark) (mark_place other)

abbrev pub same_mark : Mark → Mark → Bool
same_mark = eq_by_cmp mark_cmp

-- the list contains the mark
abbrev pub has_mark : List Mark → Mark → Bool
has_mark marks mark = list_any (same_mark mark) marks

-- the two lists share a mark
abbrev pub meets : List Mark → List Mark → Bool
meets asked changed = list_any (has_mark changed) asked

-- ---- the marks of an object

-- The Pod is found by its addresses: they are not the node's, and the Pod has not ended.
abbrev pub has_own_addresses : Pod → Bool
has_own_addresses pod = not pod.host_network && not (has_ended pod)

abbrev pub pod_marks : Pod → List Mark
pod_marks pod = if has_own_addresses pod then map IpPod pod.addrs else []

abbrev pub service_marks : Service → List Mark
service_marks service = if service.external then [] else map IpService service.addrs

-- the mark of a slice of the namespace, from its label with the Service's name
abbrev pub label_marks : List ℕ → Option (List ℕ) → List Mark
label_marks ns None = []
label_marks ns (Some service) = SlicesOf ns service ∷ []

-- a policy's target has no namespace, or the policy's own
abbrev pub targets_own : AuthzPolicy → Bool
targets_own policy = bytes_eq (ns_of policy.meta.ns policy.target) policy.meta.ns

abbrev pub policy_marks : AuthzPolicy → List Mark
policy_marks policy = if targets_own policy then PolicyOn policy.meta.ns policy.target.kind policy.target.name ∷ [] else []

abbrev pub parent_mark : List ℕ → Parent → Mark
parent_mark ns parent = RouteOn ns parent.kind parent.name

abbrev pub route_marks : Route → List Mark
route_marks route = map (parent_mark route.meta.ns) route.parents

-- the marks other than that of the key
abbrev pub other_marks : Object → List Mark
other_marks (object.Pod o) = pod_marks o
other_marks (object.Service o) = service_marks o
other_marks (object.EndpointSlice o) = label_marks o.meta.ns (service_of o)
other_marks (object.ServiceProfile o) = []
other_marks (object.Server o) = ServersIn o.meta.ns ∷ []
other_marks (object.ServerAuthorization o) = ServerAuthzIn o.meta.ns ∷ []
other_marks (object.AuthorizationPolicy o) = policy_marks o
other_marks (object.MeshTLSAuthentication o) = []
other_marks (object.NetworkAuthentication o) = []
other_marks (object.LinkerdRoute o) = route_marks o
other_marks (object.GatewayRoute o) = route_marks o

abbrev pub marks_of : Object → List Mark
marks_of o = Obj (key_of o) ∷ other_marks o

-- sorted and without duplicates
abbrev pub each_once : List Mark → List Mark
each_once marks = in_order_by mark_cmp (λ mark. mark) marks

-- the marks of all these objects, sorted and without duplicates
abbrev pub marks_of_all : List Object → List Mark
marks_of_all objects = each_once (flat_map marks_of objects)

-- ---- objects by their marks

-- the objects with one of these marks, in the order of their keys
abbrev pub objects_with : ObjectMap → List Mark → List Object
objects_with held marks = filter (λ o. meets marks (marks_of o)) (values held)
