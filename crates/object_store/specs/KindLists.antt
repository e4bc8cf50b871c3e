-- Objects in a list for each kind, in the order of the kinds.
use Rattle.std.specs.Prelude.{◌≡◌, ℕ, suc, List, [], ◌∷◌, flat_map}
use Rattle.std.specs.List.{AllByRecursion}
use Rattle.mesh_base.specs.KeyOrder.{key_cmp, kind_place}
use Rattle.mesh_base.specs.Keyed.{IsKeyed, keyed_map}
use Rattle.view_types.specs.declared.object.Object.{Object}
use Rattle.view_types.specs.Objects.{key_of, kind_of, ObjectMap}

-- the objects are of the kind at this place, and are in the order of their keys
abbrev pub AreOfPlace : ℕ → List Object → Type 0
AreOfPlace place os = IsKeyed key_cmp key_of (λ o. o) os × AllByRecursion (λ o. kind_place (kind_of o) ≡ place) os

-- a list seen as its objects
abbrev pub each : List Object → List Object
each os = os

module _ {X : Type 0} (items : X → List Object) where
  -- the lists are those of all kinds from this place on
  abbrev pub AreFrom : ℕ → List X → Type 0
  AreFrom place [] = place ≡ 11
  AreFrom place (list ∷ lists) = AreOfPlace place (items list) × AreFrom (suc place) lists

  -- the map of the objects in the lists
  abbrev pub map_of : List X → ObjectMap
  map_of lists = keyed_map key_cmp key_of (λ o. o) (flat_map items lists)
