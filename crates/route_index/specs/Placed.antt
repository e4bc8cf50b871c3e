-- The kept routes of a Server by their places, and the routes with a name among the objects held.
use Rattle.std.specs.Prelude.{◌≡◌, ◌&&◌, ℕ, Bool, true, false, List, [], ◌∷◌, filter, filter_map, map}
use Rattle.std.specs.FinMap.{FinMap, get}
use Rattle.std.specs.Str.{bytes_eq}
use Rattle.mesh_base.specs.Keyed.{IsKeyed, keyed_map}
use Rattle.mesh_base.specs.declared.key.Kind.{Kind}
use Rattle.mesh_base.specs.declared.key.Kind.TheVariants as kind
use Rattle.mesh_base.specs.declared.key.ObjKey.{ObjKey}
use Rattle.view_types.specs.Objects.{ObjectMap}
use Rattle.view_types.specs.declared.mark.Mark.{Mark}
use Rattle.view_types.specs.declared.mark.Mark.TheVariants.{Obj}
use Rattle.view_types.specs.declared.object.Object.{Object}
use Rattle.view_types.specs.declared.server_view.RouteRow.{RouteRow}
use Rattle.view_rules.specs.InOrder.{in_order_by}
use Rattle.view_rules.specs.Routes.{RoutePlace, as_route, has_parent, is_server_parent, place_of, route_cmp, route_group}
use Rattle.mark_rules.specs.Rows.{bare_route, server_routes}
use Rattle.mark_rules.specs.declared.keys.RouteKey.{RouteKey}
use Rattle.object_store.specs.Held.{key_with}

-- ---- places

abbrev pub row_place : RouteRow → RoutePlace
row_place row = record { created = row.created; name = row.name; group = route_group row.kind }

-- the places are strictly ascending
abbrev pub Rise : List RouteRow → Type 0
Rise rows = IsKeyed route_cmp row_place (λ row. row) rows

abbrev pub by_place : List RouteRow → FinMap route_cmp RouteRow
by_place rows = keyed_map route_cmp row_place (λ row. row) rows

-- ---- the routes with a name

-- the routes among the objects that are attached to the Server
abbrev pub rows_among : RouteKey → List Object → List RouteRow
rows_among key objects = map bare_route (in_order_by route_cmp place_of (filter (has_parent key.ns (is_server_parent key.server)) (filter_map as_route objects)))

-- the keys of the routes with the name, of both groups
abbrev pub keys_named : List ℕ → List ℕ → List ObjKey
keys_named ns name = key_with kind.LinkerdRoute ns name ∷ key_with kind.GatewayRoute ns name ∷ []

abbrev pub rows_named : ObjectMap → RouteKey → List ℕ → List RouteRow
rows_named held key name = rows_among key (filter_map (get held) (keys_named key.ns name))

-- ---- the marks of a change

abbrev pub is_route : Kind → Bool
is_route kind.LinkerdRoute = true
is_route kind.GatewayRoute = true
is_route _ = false

abbrev pub is_route_in : List ℕ → ObjKey → Bool
is_route_in ns key = is_route key.kind && bytes_eq key.ns ns

-- the mark is the key of a route of the namespace
abbrev pub names_route : List ℕ → Mark → Bool
names_route ns (Obj key) = is_route_in ns key
names_route ns _ = false

-- the mark is the key of a route of the namespace with the name
abbrev pub names : List ℕ → List ℕ → Mark → Bool
names ns name (Obj key) = is_route_in ns key && bytes_eq key.name name
names ns name _ = false

-- ---- routes that are updated for the objects held

module _ (held : ObjectMap) (key : RouteKey) where
  -- the route at the place is the one there among the routes of the Server
  abbrev pub IsUp : List RouteRow → RoutePlace → Type 0
  IsUp rows place = get (by_place rows) place ≡ get (by_place (server_routes held key)) place

  -- a place is up to date if its name passes, or if it was up to date before
  pub record BringsUp (passes : List ℕ → Bool) (old new : List RouteRow) : Type 0 where
    pub rise : Rise old → Rise new
    pub up : Rise old → (place : RoutePlace) → (passes place.name ≡ false → IsUp old place) → IsUp new place
