-- Objects by their marks: the keys of the objects with a mark, and the lists that rows are made
-- from.
use Rattle.std.specs.Prelude.{◌≡◌, ◌↔◌, true, false, ℕ, Bool, List, [], ◌∷◌, Option, Some, None, Contains, filter, filter_map, find, map, slice_get}
use Rattle.std.specs.FinMap.{get}
use Rattle.std.specs.List.Sorted.{IsStrictlySortedBy}
use Rattle.std.specs.Option.{option_and_then}
use Rattle.mesh_base.specs.KeyOrder.{key_cmp}
use Rattle.mesh_base.specs.declared.key.Kind.{Kind}
use Rattle.mesh_base.specs.declared.key.ObjKey.{ObjKey}
use Rattle.net_cidr.specs.declared.ip.Ip.{Ip}
use Rattle.view_types.specs.Objects.{AtKeys, ObjectMap, key_of}
use Rattle.view_types.specs.declared.authn.RefKind.{RefKind}
use Rattle.view_types.specs.declared.config.Config.{Config}
use Rattle.view_types.specs.declared.mark.Mark.{Mark}
use Rattle.view_types.specs.declared.mark.Mark.TheVariants.{IpPod, IpService, PolicyOn, RouteOn, ServersIn, SlicesOf}
use Rattle.view_types.specs.declared.object.Object.{Object}
use Rattle.view_types.specs.declared.pod.Pod.{Pod}
use Rattle.view_types.specs.declared.route.ParentKind.TheVariants as parent
use Rattle.view_types.specs.declared.server.ServerSpec.{ServerSpec}
use Rattle.view_rules.specs.Endpoints.{service_found, slices_among, slices_held}
use Rattle.view_rules.specs.InOrder.{in_order_by}
use Rattle.view_rules.specs.PodRows.{pod_found}
use Rattle.view_rules.specs.Policies.{applies_to_route, applies_to_server, authz_row as shown_row, authz_rows}
use Rattle.view_rules.specs.Profiles.{pod_at, service_at}
use Rattle.view_rules.specs.Routes.{as_route, attached_routes, has_parent, is_server_parent, is_service_parent, place_of, route_cmp}
use Rattle.view_rules.specs.Servers.{chosen_server, is_server_for, server_found}
use Rattle.mark_rules.specs.Changes.{Leads}
use Rattle.mark_rules.specs.Marks.{has_mark, objects_with, marks_of}
use Rattle.mark_rules.specs.Reads.{server_authz_marks}

-- the keys of the objects with the mark, ascending
abbrev pub keys_at : ObjectMap → Mark → List ObjKey
keys_at held mark = map key_of (objects_with held (mark ∷ []))

-- there is an object, and it has the mark
abbrev pub is_marked : Mark → Option Object → Bool
is_marked mark None = false
is_marked mark (Some o) = has_mark (marks_of o) mark

-- these keys ascend, and are exactly those of the objects with the mark
pub record AreKeysAt (held : ObjectMap) (mark : Mark) (keys : List ObjKey) : Type 0 where
  pub rise : IsStrictlySortedBy key_cmp keys
  pub each : (key : ObjKey) → Contains keys key ↔ (is_marked mark (get held key) ≡ true)

abbrev pub KeysByMark : Type 0
KeysByMark = (held : ObjectMap) → AtKeys held → (mark : Mark) → AreKeysAt held mark (keys_at held mark)

-- The objects with a mark are those at its keys.
abbrev pub FoundAtKeys : Type 0
FoundAtKeys = (held : ObjectMap) → AtKeys held → (mark : Mark) → filter_map (get held) (keys_at held mark) ≡ objects_with held (mark ∷ [])

-- The keys of a mark that is not of a change are the same after it.
abbrev pub KeysStay : Type 0
KeysStay = (mark : Mark) (changed : List Mark) (before after : ObjectMap) → Leads changed before after → has_mark changed mark ≡ false → keys_at after mark ≡ keys_at before mark

abbrev pub SlicesByMark : Type 0
SlicesByMark = (held : ObjectMap) (ns name : List ℕ) → slices_held held ns name ≡ slices_among ns name (objects_with held (SlicesOf ns name ∷ []))

abbrev pub ServersByMark : Type 0
ServersByMark = (held : ObjectMap) (ns : List ℕ) (pod : Pod) (number : ℕ)
    → chosen_server held ns pod number ≡ server_found (find (is_server_for ns pod number) (objects_with held (ServersIn ns ∷ [])))

abbrev pub ServerRoutesByMark : Type 0
ServerRoutesByMark = (held : ObjectMap) (ns name : List ℕ)
    → attached_routes held ns (is_server_parent name)
    ≡ in_order_by route_cmp place_of (filter (has_parent ns (is_server_parent name)) (filter_map as_route (objects_with held (RouteOn ns parent.Server name ∷ []))))

abbrev pub ServiceRoutesByMark : Type 0
ServiceRoutesByMark = (held : ObjectMap) (ns name : List ℕ) (port : ℕ)
    → attached_routes held ns (is_service_parent name port)
    ≡ in_order_by route_cmp place_of (filter (has_parent ns (is_service_parent name port)) (filter_map as_route (objects_with held (RouteOn ns parent.Service name ∷ []))))

abbrev pub AuthzByMarks : Type 0
AuthzByMarks = (config : Config) (held : ObjectMap) (server : ServerSpec)
    → authz_rows config held (applies_to_server held server)
    ≡ filter_map (shown_row config held) (filter (applies_to_server held server) (objects_with held (server_authz_marks server.meta.ns server.meta.name)))

abbrev pub route_key : Kind → List ℕ → List ℕ → ObjKey
route_key k ns name = record { kind = k; ns = ns; name = name }

-- the authorizations of a route of either group
abbrev pub RouteAuthzByMark : Kind → RefKind → Type 0
RouteAuthzByMark k target = (config : Config) (held : ObjectMap) (ns name : List ℕ)
    → authz_rows config held (applies_to_route held (route_key k ns name))
    ≡ filter_map (shown_row config held) (filter (applies_to_route held (route_key k ns name)) (objects_with held (PolicyOn ns target name ∷ [])))

-- the object at the first key of the mark, if there is one
abbrev pub first_at : ObjectMap → Mark → Option Object
first_at held mark = option_and_then (get held) (slice_get (keys_at held mark) 0)

abbrev pub ServicesByMark : Type 0
ServicesByMark = (held : ObjectMap) → AtKeys held → (ip : Ip) → service_at held ip ≡ service_found (first_at held (IpService ip))

abbrev pub PodsByMark : Type 0
PodsByMark = (held : ObjectMap) → AtKeys held → (ip : Ip) → pod_at held ip ≡ pod_found (first_at held (IpPod ip))
