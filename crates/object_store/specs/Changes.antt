-- The effects of the calls of a store on its objects, and when a call is refused.
use Rattle.std.specs.Prelude.{◌≡◌, ◌&&◌, ◌==◌, not, if◌then◌else◌, ℕ, Bool, true, Some, None, [], ◌∷◌}
use Rattle.std.specs.Ordering.{eq_by_cmp}
use Rattle.std.specs.Option.{option_to_list}
use Rattle.std.specs.FinMap.{get, insert, remove, contains_key, len}
use Rattle.mesh_base.specs.KeyOrder.{key_cmp}
use Rattle.mesh_base.specs.declared.key.ObjKey.{ObjKey}
use Rattle.view_types.specs.declared.object.Object.{Object}
use Rattle.view_types.specs.Objects.{AtKeys, key_of, ObjectMap}
use Rattle.mark_rules.specs.Changes.{Leads}
use Rattle.mark_rules.specs.Marks.{marks_of_all}
use Rattle.object_store.specs.declared.change.Change.{Change}
use Rattle.object_store.specs.declared.change.StoreFault.{StoreFault}
use Rattle.object_store.specs.declared.change.StoreFault.TheVariants.{Memory, Full}
use Rattle.object_store.specs.Held.{Held}

-- the key is new, and the number of objects is at the limit
abbrev pub lacks_room : ObjectMap → ℕ → ObjKey → Bool
lacks_room m limit k = not (contains_key m k) && (len m == limit)

-- the object is set at its key
pub record Puts (old new : ObjectMap) (o : Object) (change : Change) : Type 0 where
  pub objects : new ≡ insert old (key_of o) o
  pub before : change.old ≡ option_to_list (get old (key_of o))
  pub keys : change.new ≡ key_of o ∷ []
  pub marks : change.marks ≡ marks_of_all (o ∷ change.old)
  pub leads : AtKeys old → Leads change.marks old new

-- the object at the key, if there is one, is removed
pub record Takes (old new : ObjectMap) (k : ObjKey) (change : Change) : Type 0 where
  pub objects : new ≡ remove old k
  pub before : change.old ≡ option_to_list (get old k)
  pub keys : change.new ≡ []
  pub marks : change.marks ≡ marks_of_all change.old
  pub leads : AtKeys old → Leads change.marks old new

-- an error of the objects alone: `Full` if there is no room, with the number held and no change
abbrev pub IsFull : ObjectMap → ObjectMap → Bool → StoreFault → Type 0
IsFull old new no_room Memory = Unit {0}
IsFull old new no_room (Full held) = (no_room ≡ true) × (held ≡ len old) × (new ≡ old)

-- an error of the store: `Memory` spends it, and `Full` leaves it unchanged
abbrev pub Refuses : Held → Held → Bool → StoreFault → Type 0
Refuses old new no_room Memory = new.spent ≡ true
Refuses old new no_room (Full held) = (no_room ≡ true) × (held ≡ len old.objects) × (new ≡ old)

-- by key: the object at its own key, and the old value at every other key
abbrev pub PutByKey : Type 0
PutByKey = (m : ObjectMap) (o : Object) (k : ObjKey) → get (insert m (key_of o) o) k ≡ (if eq_by_cmp key_cmp k (key_of o) then Some o else get m k)

-- by key: nothing at the key, and the old value at every other key
abbrev pub TakenByKey : Type 0
TakenByKey = (m : ObjectMap) (taken k : ObjKey) → get (remove m taken) k ≡ (if eq_by_cmp key_cmp k taken then None else get m k)
