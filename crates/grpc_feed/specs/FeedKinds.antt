-- The kinds of objects in a feed with GRPCRoutes, and how their objects are read. A GRPCRoute is held as the HTTPRoute that it is lowered to.
use Rattle.std.specs.Prelude.{◌&&◌, ◌==◌, ◌-◌, codes, ℕ, Bool, true, false, List, Option, Some, None, Result, Ok, bytes_eq, drop, length, option_map, if◌then◌else◌}
use Rattle.std.specs.Ordering.{eq_by_cmp}
use Rattle.mesh_base.specs.KeyOrder.{key_cmp, kind_place}
use Rattle.mesh_base.specs.declared.key.Kind.{Kind}
use Rattle.mesh_base.specs.declared.key.Kind.TheVariants.{AuthorizationPolicy, GatewayRoute}
use Rattle.mesh_base.specs.declared.key.ObjKey.{ObjKey}
use Rattle.k8s_meta.specs.Scalars.{name_within, namespace}
use Rattle.k8s_meta.specs.Spots.{Spot, ◌·◌, ◌>>=◌}
use Rattle.k8s_meta.specs.Words.{default, object, part, required, string_in}
use Rattle.k8s_meta.specs.declared.fault.ReadFault.{ReadFault}
use Rattle.k8s_meta.specs.declared.key.Key.TheVariants as keys
use Rattle.policy_objects.specs.AuthorizationPolicies.{authz_policy_at}
use Rattle.view_types.specs.Objects.{key_of}
use Rattle.view_types.specs.declared.authn.AuthzPolicy.{AuthzPolicy}
use Rattle.view_types.specs.declared.authn.Ref.{Ref}
use Rattle.view_types.specs.declared.authn.RefKind.{RefKind}
use Rattle.view_types.specs.declared.authn.RefKind.TheVariants as refs
use Rattle.view_types.specs.declared.object.Object.TheVariants as objects
use Rattle.watch_events.specs.Keys.{key_at}
use Rattle.watch_events.specs.Kinds.{kind_named}
use Rattle.watch_events.specs.Objects.{object_at}
use Rattle.watch_events.specs.Tables.{Table}
use Rattle.grpc_routes.specs.GrpcRoutes.{grpc_route_at}
use Rattle.grpc_routes.specs.Lowered.{lowered, lowered_name}
use Rattle.grpc_feed.specs.declared.kinds.FeedKind.{FeedKind}
use Rattle.grpc_feed.specs.declared.kinds.FeedKind.TheVariants as kinds
use Rattle.grpc_feed.specs.declared.kinds.FeedObject.{FeedObject}

-- ---- names of lowered routes, which are reserved

abbrev pub is_lowered_name : List ℕ → Bool
is_lowered_name name = bytes_eq (codes ".grpc") (drop (length name - 5) name)

abbrev pub is_gateway_route : Kind → Bool
is_gateway_route kind = kind_place kind == kind_place GatewayRoute

-- the key of a lowered route
abbrev pub is_lowered : ObjKey → Bool
is_lowered key = is_gateway_route key.kind && is_lowered_name key.name

-- ---- kinds

-- the kind that objects of this kind are held as
abbrev pub held_as : FeedKind → Kind
held_as kinds.GrpcRoute = GatewayRoute
held_as (kinds.Held kind) = kind

unfoldable pub feed_kind_named : List ℕ → List ℕ → Option FeedKind
feed_kind_named kind group =
    if bytes_eq kind (codes "GRPCRoute") && bytes_eq group (codes "gateway.networking.k8s.io") then Some kinds.GrpcRoute else
    option_map kinds.Held (kind_named kind group)

-- ---- policies

abbrev pub has_text : List ℕ → Option (List ℕ) → Bool
has_text wanted (Some text) = bytes_eq text wanted
has_text wanted None = false

-- the target of the policy is written as a GRPCRoute
abbrev pub is_of_grpc : Spot → Bool
is_of_grpc policy =
    let target = policy · keys.Spec · keys.TargetRef in
    has_text (codes "GRPCRoute") (string_in (target · keys.Kind).value) && has_text (codes "gateway.networking.k8s.io") (string_in (target · keys.Group).value)

abbrev pub is_gateway_ref : RefKind → Bool
is_gateway_ref refs.GatewayRoute = true
is_gateway_ref _ = false

abbrev pub is_reserved_target : Ref → Bool
is_reserved_target target = is_gateway_ref target.kind && is_lowered_name target.name

abbrev pub lowered_target : Ref → Ref
lowered_target target = record { kind = refs.GatewayRoute; ns = target.ns; name = lowered_name target.name }

-- a policy as it is held: one for a GRPCRoute is for the lowered route
abbrev pub policy_of : Bool → AuthzPolicy → FeedObject
policy_of true policy = record { object = objects.AuthorizationPolicy (record policy { target = lowered_target policy.target }); reserved = false }
policy_of false policy = record { object = objects.AuthorizationPolicy policy; reserved = is_reserved_target policy.target }

unfoldable pub policy_at : Spot → Result FeedObject ReadFault
policy_at s = authz_policy_at s >>= λ policy. Ok (policy_of (is_of_grpc s) policy)

-- ---- objects

unfoldable pub route_at : Spot → Result FeedObject ReadFault
route_at s = grpc_route_at s >>= λ route. Ok (record { object = objects.GatewayRoute (lowered route); reserved = false })

-- an object of a kind that is held
unfoldable pub held_at : Kind → Spot → Result FeedObject ReadFault
held_at kind s = object_at kind s >>= λ made. Ok (record { object = made; reserved = is_lowered (key_of made) })

abbrev pub is_policy : Kind → Bool
is_policy kind = kind_place kind == kind_place AuthorizationPolicy

unfoldable pub feed_object_at : FeedKind → Spot → Result FeedObject ReadFault
feed_object_at kinds.GrpcRoute s = route_at s
feed_object_at (kinds.Held kind) s = if is_policy kind then policy_at s else held_at kind s

-- ---- keys

-- the key of the lowered route of a GRPCRoute that is removed
unfoldable pub grpc_key_at : Spot → Result ObjKey ReadFault
grpc_key_at o = do
  o ← object o
  m ← part (o · keys.Metadata)
  name ← required (name_within 248) (m · keys.Name)
  ns ← default (codes "default") namespace (m · keys.Namespace)
  Ok (record { kind = GatewayRoute; ns = ns; name = lowered_name name })

unfoldable pub feed_key_at : FeedKind → Spot → Result ObjKey ReadFault
feed_key_at kinds.GrpcRoute s = grpc_key_at s
feed_key_at (kinds.Held kind) s = key_at kind s

-- ---- the table

abbrev pub feed_kinds : Table FeedKind FeedObject ObjKey
feed_kinds = record { named = feed_kind_named; object = feed_object_at; removed = feed_key_at; key = λ made. key_of made.object; same = eq_by_cmp key_cmp }
