-- The Servers that may select a Pod with some labels: those that require none, and those whose
-- first required label has the value of one.
use Rattle.std.specs.Prelude.{◌≡◌, ◌||◌, ℕ, Bool, List, Option}
use Rattle.std.specs.FinMap.{get}
use Rattle.std.specs.List.{list_any}
use Rattle.key_lists.specs.Keys.{has_key}
use Rattle.mesh_base.specs.declared.key.ObjKey.{ObjKey}
use Rattle.object_store.specs.ServerKeys.{requires_value}
use Rattle.view_types.specs.Objects.{ObjectMap}
use Rattle.view_types.specs.declared.object.Object.{Object}

-- a key and a value
abbrev pub Label : Type 0
Label = List ℕ × List ℕ

-- the object is a Server of the namespace that requires no label, or the value of one of these; a
-- value equal to the name of the namespace is treated as none
abbrev pub may_select : List ℕ → List Label → Option Object → Bool
may_select ns labels found = requires_value (ns, ns) found || list_any (λ label. requires_value (ns, label.1) found) labels

-- a key is in one of the lists exactly if such a Server is held under it
abbrev pub HaveServers : ObjectMap → List ℕ → List Label → List (List ObjKey) → Type 0
HaveServers held ns labels lists = (k : ObjKey) → list_any (has_key k) lists ≡ may_select ns labels (get held k)
