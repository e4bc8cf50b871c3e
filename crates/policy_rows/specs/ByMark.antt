-- Objects under the keys of a mark.
use Rattle.std.specs.Prelude.{◌≡◌, ℕ, Bool, List, [], ◌∷◌, Option, Some, None, filter, filter_map}
use Rattle.std.specs.FinMap.{get, values}
use Rattle.mesh_base.specs.declared.key.Kind.{Kind}
use Rattle.mesh_base.specs.declared.key.Kind.TheVariants as kind
use Rattle.mesh_base.specs.declared.key.ObjKey.{ObjKey}
use Rattle.view_types.specs.Objects.{ObjectMap}
use Rattle.view_types.specs.declared.authn.RefKind.{RefKind}
use Rattle.view_types.specs.declared.authn.RefKind.TheVariants as ref
use Rattle.view_types.specs.declared.mark.Mark.{Mark}
use Rattle.view_types.specs.declared.object.Object.{Object}
use Rattle.view_types.specs.declared.route.Parent.{Parent}
use Rattle.view_rules.specs.InOrder.{in_order_by}
use Rattle.view_rules.specs.Routes.{as_route, attached_routes, has_parent, place_of, route_cmp}
use Rattle.mark_rules.specs.Marks.{objects_with}
use Rattle.object_store.specs.Held.{Held}
use Rattle.object_store.specs.KeyLists.{FindsKeys}

-- the objects under these keys are those with the mark, in order
abbrev pub HoldMarked : ObjectMap → Mark → List ObjKey → Type 0
HoldMarked held mark keys = filter_map (get held) keys ≡ objects_with held (mark ∷ [])

-- the same holds for any keys that the store finds for the mark
abbrev pub FindsObjects : Held → Type 0
FindsObjects held = (mark : Mark) (keys : List ObjKey) → FindsKeys held mark keys → HoldMarked held.objects mark keys

-- all objects held that pass are among these objects, in the same order
abbrev pub AreAmong : ObjectMap → (Object → Bool) → List Object → Type 0
AreAmong held passes objects = filter passes (values held) ≡ filter passes objects

-- the kind of target of an AuthorizationPolicy that names routes of the kind
abbrev pub route_target : Kind → Option RefKind
route_target kind.LinkerdRoute = Some ref.LinkerdRoute
route_target kind.GatewayRoute = Some ref.GatewayRoute
route_target _ = None

-- the routes of the namespace that are attached are under these keys; there may be other keys
abbrev pub HoldRoutes : ObjectMap → List ℕ → (Parent → Bool) → List ObjKey → Type 0
HoldRoutes held ns is_parent keys =
    attached_routes held ns is_parent ≡ in_order_by route_cmp place_of (filter (has_parent ns is_parent) (filter_map as_route (filter_map (get held) keys)))
