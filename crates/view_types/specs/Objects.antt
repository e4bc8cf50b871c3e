-- What objects of all kinds have in common.
use Rattle.std.specs.Prelude.{◌≡◌, List, Some, map}
use Rattle.std.specs.List.{All, IsDistinct}
use Rattle.std.specs.Ordering.{eq_by_cmp}
use Rattle.std.specs.FinMap.{FinMap, get}
use Rattle.mesh_base.specs.KeyOrder.{key_cmp}
use Rattle.mesh_base.specs.declared.key.Kind.{Kind}
use Rattle.mesh_base.specs.declared.key.Kind.TheVariants as kind
use Rattle.mesh_base.specs.declared.key.ObjKey.{ObjKey}
use Rattle.k8s_meta.specs.declared.meta.Meta.{Meta}
use Rattle.view_types.specs.declared.object.Object.{Object}
use Rattle.view_types.specs.declared.object.Object.TheVariants.{Pod, Service, EndpointSlice, ServiceProfile, Server, ServerAuthorization, AuthorizationPolicy, MeshTLSAuthentication, NetworkAuthentication, LinkerdRoute, GatewayRoute}

abbrev pub meta_of : Object → Meta
meta_of (Pod o) = o.meta
meta_of (Service o) = o.meta
meta_of (EndpointSlice o) = o.meta
meta_of (ServiceProfile o) = o.meta
meta_of (Server o) = o.meta
meta_of (ServerAuthorization o) = o.meta
meta_of (AuthorizationPolicy o) = o.meta
meta_of (MeshTLSAuthentication o) = o.meta
meta_of (NetworkAuthentication o) = o.meta
meta_of (LinkerdRoute o) = o.meta
meta_of (GatewayRoute o) = o.meta

abbrev pub kind_of : Object → Kind
kind_of (Pod o) = kind.Pod
kind_of (Service o) = kind.Service
kind_of (EndpointSlice o) = kind.EndpointSlice
kind_of (ServiceProfile o) = kind.ServiceProfile
kind_of (Server o) = kind.Server
kind_of (ServerAuthorization o) = kind.ServerAuthorization
kind_of (AuthorizationPolicy o) = kind.AuthorizationPolicy
kind_of (MeshTLSAuthentication o) = kind.MeshTLSAuthentication
kind_of (NetworkAuthentication o) = kind.NetworkAuthentication
kind_of (LinkerdRoute o) = kind.LinkerdRoute
kind_of (GatewayRoute o) = kind.GatewayRoute

-- the key of an object
abbrev pub key_of : Object → ObjKey
key_of o = let meta = meta_of o in record { kind = kind_of o; ns = meta.ns; name = meta.name }

-- objects by their keys
abbrev pub ObjectMap : Type 0
ObjectMap = FinMap key_cmp Object

-- each object is stored under its own key
abbrev pub AtKeys : ObjectMap → Type 0
AtKeys held = (k : ObjKey) (o : Object) → get held k ≡ Some o → key_of o ≡ k

-- a list of objects of one kind, with distinct keys
pub record IsListOf (kind : Kind) (items : List Object) : Type 0 where
  pub each : All (λ o. kind_of o ≡ kind) items
  pub apart : IsDistinct (eq_by_cmp key_cmp) (map key_of items)
