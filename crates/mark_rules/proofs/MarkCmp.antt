-- The order by which the program compares marks is that of the definitions.
use Rattle.std.proofs.Common.{◌≡◌, refl, ap}
use Rattle.std.specs.Cmp.Lexicographic.{slice_cmp}
use Rattle.std.specs.Ordering.{nat_cmp, ordering_then}
use Rattle.std.specs.declared.cmp.Ordering.{Ordering}
use Rattle.mesh_base.specs.KeyOrder.{key_cmp, kind_place}
use Rattle.mesh_base.specs.contracts.key.KindOrd as kind_order
use Rattle.mesh_base.specs.contracts.key.ObjKeyOrd as key_order
use Rattle.mesh_base.specs.declared.key.Kind.{Kind}
use Rattle.mesh_base.specs.declared.key.Kind.TheVariants as kind
use Rattle.mesh_base.specs.declared.key.ObjKey.{ObjKey}
use Rattle.net_cidr.specs.Address.{ip_cmp}
use Rattle.net_cidr.specs.contracts.ip.IpOrd as ip_order
use Rattle.net_cidr.specs.declared.ip.Ip.{Ip}
use Rattle.net_cidr.specs.declared.ip.Ip.TheVariants.{V4, V6}
use Rattle.view_types.specs.contracts.authn.RefKindOrd as ref_order
use Rattle.view_types.specs.contracts.mark.MarkOrd as order
use Rattle.view_types.specs.contracts.route.ParentKindOrd as parent_order
use Rattle.view_types.specs.declared.authn.RefKind.{RefKind}
use Rattle.view_types.specs.declared.authn.RefKind.TheVariants as ref
use Rattle.view_types.specs.declared.mark.Mark.{Mark}
use Rattle.view_types.specs.declared.mark.Mark.TheVariants.{Obj, SlicesOf, ServersIn, ServerAuthzIn, PolicyOn, RouteOn, IpService, IpPod}
use Rattle.view_types.specs.declared.route.ParentKind.{ParentKind}
use Rattle.view_types.specs.declared.route.ParentKind.TheVariants as parent
use Rattle.mark_rules.specs.Marks.{mark_cmp, parent_place, ref_place}

kind_cmp_is : (a b : Kind) → kind_order.TheImpl.cmp-value.it a b ≡ nat_cmp (kind_place a) (kind_place b)
kind_cmp_is kind.Pod kind.Pod = refl
kind_cmp_is kind.Service kind.Service = refl
kind_cmp_is kind.EndpointSlice kind.EndpointSlice = refl
kind_cmp_is kind.ServiceProfile kind.ServiceProfile = refl
kind_cmp_is kind.Server kind.Server = refl
kind_cmp_is kind.ServerAuthorization kind.ServerAuthorization = refl
kind_cmp_is kind.AuthorizationPolicy kind.AuthorizationPolicy = refl
kind_cmp_is kind.MeshTLSAuthentication kind.MeshTLSAuthentication = refl
kind_cmp_is kind.NetworkAuthentication kind.NetworkAuthentication = refl
kind_cmp_is kind.LinkerdRoute kind.LinkerdRoute = refl
kind_cmp_is kind.GatewayRoute kind.GatewayRoute = refl
kind_cmp_is _ _ = refl

key_cmp_is : (a b : ObjKey) → key_order.TheImpl.cmp-value.it a b ≡ key_cmp a b
key_cmp_is a b = ap (λ (o : Ordering). ordering_then o (ordering_then (slice_cmp nat_cmp a.ns b.ns) (slice_cmp nat_cmp a.name b.name))) (kind_cmp_is a.kind b.kind)

ref_cmp_is : (a b : RefKind) → ref_order.TheImpl.cmp-value.it a b ≡ nat_cmp (ref_place a) (ref_place b)
ref_cmp_is ref.Server ref.Server = refl
ref_cmp_is ref.LinkerdRoute ref.LinkerdRoute = refl
ref_cmp_is ref.GatewayRoute ref.GatewayRoute = refl
ref_cmp_is ref.Namespace ref.Namespace = refl
ref_cmp_is ref.ServiceAccount ref.ServiceAccount = refl
ref_cmp_is ref.MeshAuthn ref.MeshAuthn = refl
ref_cmp_is ref.NetAuthn ref.NetAuthn = refl
ref_cmp_is ref.Other ref.Other = refl
ref_cmp_is _ _ = refl

parent_cmp_is : (a b : ParentKind) → parent_order.TheImpl.cmp-value.it a b ≡ nat_cmp (parent_place a) (parent_place b)
parent_cmp_is parent.Server parent.Server = refl
parent_cmp_is parent.Service parent.Service = refl
parent_cmp_is _ _ = refl

ip_cmp_is : (a b : Ip) → ip_order.TheImpl.cmp-value.it a b ≡ ip_cmp a b
ip_cmp_is (V4 n) (V4 m) = refl
ip_cmp_is (V6 n) (V6 m) = refl
ip_cmp_is _ _ = refl

pub mark_cmp_is : (a b : Mark) → order.TheImpl.cmp-value.it a b ≡ mark_cmp a b
mark_cmp_is (Obj key) (Obj other) = key_cmp_is key other
mark_cmp_is (SlicesOf ns service) (SlicesOf other_ns other) = refl
mark_cmp_is (ServersIn ns) (ServersIn other) = refl
mark_cmp_is (ServerAuthzIn ns) (ServerAuthzIn other) = refl
mark_cmp_is (PolicyOn ns k name) (PolicyOn other_ns other_k other) =
    ap (λ (o : Ordering). ordering_then (slice_cmp nat_cmp ns other_ns) (ordering_then o (slice_cmp nat_cmp name other))) (ref_cmp_is k other_k)
mark_cmp_is (RouteOn ns k name) (RouteOn other_ns other_k other) =
    ap (λ (o : Ordering). ordering_then (slice_cmp nat_cmp ns other_ns) (ordering_then o (slice_cmp nat_cmp name other))) (parent_cmp_is k other_k)
mark_cmp_is (IpService ip) (IpService other) = ip_cmp_is ip other
mark_cmp_is (IpPod ip) (IpPod other) = ip_cmp_is ip other
mark_cmp_is _ _ = refl
