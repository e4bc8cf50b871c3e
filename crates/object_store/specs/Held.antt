-- The value of a store in contracts.
use Rattle.std.specs.Prelude.{ℕ, Bool, List, refl}
use Rattle.std.specs.Coded.{Coded, code_by, coded×, coded_ℕ, coded_bool}
use Rattle.std.specs.FinMap.{code}
use Rattle.mesh_base.specs.KeyOrder.{coded_key}
use Rattle.mesh_base.specs.declared.key.Kind.{Kind}
use Rattle.mesh_base.specs.declared.key.ObjKey.{ObjKey}
use Rattle.view_types.specs.contracts.object.Object as object
use Rattle.view_types.specs.Objects.{ObjectMap}

-- the objects by their keys, their limit, and whether the store has run out of memory
pub record Held : Type 0 where
  pub objects : ObjectMap
  pub limit : ℕ
  pub spent : Bool

-- encoded as the map, the limit and the flag
abbrev pub held_code : Coded Held
held_code = code_by (ObjectMap × (ℕ × Bool)) (coded× (code coded_key object.the_row.coded) (coded× coded_ℕ coded_bool))
    (λ h. (h.objects, (h.limit, h.spent))) (λ p. record { objects = p.0; limit = p.1.0; spent = p.1.1 }) (λ _. refl)

-- the key of this kind, namespace and name
abbrev pub key_with : Kind → List ℕ → List ℕ → ObjKey
key_with kind ns name = record { kind = kind; ns = ns; name = name }
