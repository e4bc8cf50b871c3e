-- The order that keys are compared by in the program is that of the definitions.
use Rattle.std.proofs.Common.{◌≡◌, refl, ap, nat_cmp, is_eq}
use Rattle.std.specs.Cmp.Lexicographic.{slice_cmp}
use Rattle.std.specs.Ordering.{eq_by_cmp, ordering_then}
use Rattle.std.specs.declared.cmp.Ordering.{Ordering}
use Rattle.mesh_base.specs.KeyOrder.{key_cmp, kind_place}
use Rattle.mesh_base.specs.contracts.key.KindOrd as kind_order
use Rattle.mesh_base.specs.contracts.key.ObjKeyOrd as order
use Rattle.mesh_base.specs.declared.key.Kind.{Kind}
use Rattle.mesh_base.specs.declared.key.Kind.TheVariants.{Pod, Service, EndpointSlice, ServiceProfile, Server, ServerAuthorization, AuthorizationPolicy, MeshTLSAuthentication, NetworkAuthentication, LinkerdRoute, GatewayRoute}
use Rattle.mesh_base.specs.declared.key.ObjKey.{ObjKey}

-- The derived order of kinds goes by cases on both.
kind_cmp_is : (a b : Kind) → kind_order.TheImpl.cmp-value.it a b ≡ nat_cmp (kind_place a) (kind_place b)
kind_cmp_is Pod Pod = refl
kind_cmp_is Service Service = refl
kind_cmp_is EndpointSlice EndpointSlice = refl
kind_cmp_is ServiceProfile ServiceProfile = refl
kind_cmp_is Server Server = refl
kind_cmp_is ServerAuthorization ServerAuthorization = refl
kind_cmp_is AuthorizationPolicy AuthorizationPolicy = refl
kind_cmp_is MeshTLSAuthentication MeshTLSAuthentication = refl
kind_cmp_is NetworkAuthentication NetworkAuthentication = refl
kind_cmp_is LinkerdRoute LinkerdRoute = refl
kind_cmp_is GatewayRoute GatewayRoute = refl
kind_cmp_is _ _ = refl

pub key_cmp_is : (a b : ObjKey) → order.TheImpl.cmp-value.it a b ≡ key_cmp a b
key_cmp_is a b = ap (λ (o : Ordering). ordering_then o (ordering_then (slice_cmp nat_cmp a.ns b.ns) (slice_cmp nat_cmp a.name b.name))) (kind_cmp_is a.kind b.kind)

pub same_keys_is : (a b : ObjKey) → eq_by_cmp order.TheImpl.cmp-value.it a b ≡ eq_by_cmp key_cmp a b
same_keys_is a b = ap (λ (o : Ordering). is_eq o) (key_cmp_is a b)
