-- A limit on the number of objects is kept, and is met by new keys alone.
use Rattle.std.proofs.Common.{◌≡◌, ◌≢◌, ℕ, ◌+◌, ◌-◌, ◌≤◌, Bool, true, false, not, ◌&&◌, cond, eqb, Some, None, refl, eq-eqb, arith}
use Rattle.std.proofs.lemmas.Bool.Decides.{nat_tests}
use Rattle.std.specs.FinMap.{get, insert, remove, contains_key, len, len-insert, len-remove, len-empty, empty}
use Rattle.mesh_base.specs.KeyOrder.{key_cmp}
use Rattle.mesh_base.specs.declared.key.ObjKey.{ObjKey}
use Rattle.mesh_base.proofs.KeyOrder.{keys_total}
use Rattle.view_types.specs.Objects.{ObjectMap}
use Rattle.view_types.specs.declared.object.Object.{Object}
use Rattle.object_store.specs.Changes.{lacks_room}

counted : (there : Bool) (n limit : ℕ) → n ≤ limit → (not there && eqb n limit) ≡ false → cond there n (n + 1) ≤ limit
counted true n limit le room = le
counted false n limit le room = grind (arith, nat_tests)

left : (there : Bool) (n limit : ℕ) → n ≢ limit → (not there && eqb n limit) ≡ false
left true n limit differ = refl
left false n limit differ = grind (arith, nat_tests)

fewer : (there : Bool) (n limit : ℕ) → n ≤ limit → cond there (n - 1) n ≤ limit
fewer true n limit le = omega arith
fewer false n limit le = le

module _ (m : ObjectMap) (limit : ℕ) (k : ObjKey) where
  -- a key that is held needs no room
  pub room_held : (o : Object) → get m k ≡ Some o → lacks_room m limit k ≡ false
  room_held o found = rw found refl

  pub room_left : len m ≢ limit → lacks_room m limit k ≡ false
  room_left differ = left (contains_key m k) (len m) limit differ

  pub none_left : get m k ≡ None → len m ≡ limit → lacks_room m limit k ≡ true
  none_left none is = rw none (eq-eqb (len m) limit is)

  -- an object put where there is room
  pub room_after : (o : Object) → len m ≤ limit → lacks_room m limit k ≡ false → len (insert m k o) ≤ limit
  room_after o le room = rw (len-insert keys_total m k o) (counted (contains_key m k) (len m) limit le room)

  -- and an object taken out
  pub room_without : len m ≤ limit → len (remove m k) ≤ limit
  room_without le = rw (len-remove keys_total m k) (fewer (contains_key m k) (len m) limit le)

pub room_of_none : (limit : ℕ) → len (empty {X = Object} {R = key_cmp}) ≤ limit
room_of_none limit = rw (len-empty key_cmp Object) (omega arith)
