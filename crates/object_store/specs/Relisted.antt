-- A list that replaces all objects of a kind.
use Rattle.std.specs.Prelude.{◌≡◌, ◌==◌, nat_lt, not, if◌then◌else◌, ℕ, Bool, List, [], ◌∷◌, ◌++◌, map, Option}
use Rattle.std.specs.List.{filter, find}
use Rattle.std.specs.Ordering.{eq_by_cmp}
use Rattle.std.specs.FinMap.{get, insert, retain_keys, values, len}
use Rattle.mesh_base.specs.KeyOrder.{key_cmp, kind_place}
use Rattle.mesh_base.specs.declared.key.Kind.{Kind}
use Rattle.mesh_base.specs.declared.key.ObjKey.{ObjKey}
use Rattle.view_types.specs.declared.object.Object.{Object}
use Rattle.view_types.specs.Objects.{AtKeys, key_of, ObjectMap, IsListOf}
use Rattle.view_types.specs.declared.mark.Mark.{Mark}
use Rattle.mark_rules.specs.Changes.{Covers, Leads}
use Rattle.mark_rules.specs.Marks.{marks_of_all}
use Rattle.object_store.specs.declared.change.Change.{Change}

abbrev pub is_of : Kind → ObjKey → Bool
is_of kind k = kind_place k.kind == kind_place kind

-- the objects of the kind, in the order of their keys
abbrev pub of_kind : Kind → ObjectMap → List Object
of_kind kind m = filter (λ o. is_of kind (key_of o)) (values m)

-- the item with the key
abbrev pub item_at : ObjKey → List Object → Option Object
item_at k items = find (λ o. eq_by_cmp key_cmp k (key_of o)) items

-- the map with each item set at its key
abbrev pub put_all : List Object → ObjectMap → ObjectMap
put_all [] m = m
put_all (o ∷ os) m = insert (put_all os m) (key_of o) o

-- the objects of other kinds, and the items
abbrev pub relisted : ObjectMap → Kind → List Object → ObjectMap
relisted m kind items = put_all items (retain_keys m (λ k. not (is_of kind k)))

-- the objects after the list would exceed the limit
abbrev pub exceeds : ObjectMap → ℕ → Kind → List Object → Bool
exceeds m limit kind items = nat_lt limit (len (relisted m kind items))

-- the items replace all objects of their kind
pub record Relists (old new : ObjectMap) (kind : Kind) (items : List Object) (change : Change) : Type 0 where
  pub objects : new ≡ relisted old kind items
  pub before : change.old ≡ of_kind kind old
  pub keys : change.new ≡ map key_of (of_kind kind new)
  pub marks : change.marks ≡ marks_of_all (of_kind kind new ++ change.old)
  pub leads : AtKeys old → Leads change.marks old new

-- by key: the item with the key if the key is of the kind, and else the old value
abbrev pub RelistedByKey : Type 0
RelistedByKey = (m : ObjectMap) (kind : Kind) (items : List Object) → IsListOf kind items → (k : ObjKey)
    → get (relisted m kind items) k ≡ (if is_of kind k then item_at k items else get m k)

-- a list leads to the new map by a change with all marks of the kind's objects, new and old
abbrev pub RelistLeads : Type 0
RelistLeads = (changed : List Mark) (held : ObjectMap) → AtKeys held → (kind : Kind) (items : List Object) → IsListOf kind items
    → Covers changed (of_kind kind (relisted held kind items) ++ of_kind kind held) → Leads changed held (relisted held kind items)
