-- Values under ids, in the order of the ids.
use Rattle.std.specs.Prelude.{◌≡◌, ℕ, Bool, true, false, nat_le, List, [], ◌∷◌, Option, Some, None, option_map}
use Rattle.std.specs.BTreeMap as tree
use Rattle.std.specs.BTreeMap.{BTreeMap, is_at}
use Rattle.std.specs.List.{AllByRecursion, AllByRecursion-prop}
use Rattle.std.specs.Map.{set_value}
use Rattle.std.specs.Ordering.{nat_cmp}
use Rattle.feed_history.specs.Ids.{at_id}
use mathlib.Core.Bool.{Bool-set}

abbrev pub id_of : {S : Type 0} → ℕ × S → ℕ
id_of entry = entry.0

-- the value under an id
abbrev pub value_at : {S : Type 0} → ℕ → List (ℕ × S) → Option S
value_at id entries = option_map (λ entry. entry.1) (at_id id_of id entries)

-- an entry, with this value in the place of its own
abbrev pub put_in_place : {S : Type 0} → S → ℕ × S → List (ℕ × S)
put_in_place value entry = (entry.0, value) ∷ []

-- the least id
abbrev pub first_id : {S : Type 0} → List (ℕ × S) → Option ℕ
first_id [] = None
first_id (entry ∷ entries) = Some entry.0

-- The value under the id, if it has one, is replaced by this one.
abbrev pub PutsOne : {S : Type 0} → ℕ → S → BTreeMap ℕ S → BTreeMap ℕ S → Option S → Type 0
PutsOne id value old new None = new.entries ≡ old.entries
PutsOne id value old new (Some there) = new.entries ≡ set_value (is_at (nat_cmp id)) old.entries value

abbrev pub PutsAt : {S : Type 0} → ℕ → S → BTreeMap ℕ S → BTreeMap ℕ S → Type 0
PutsAt id value old new = PutsOne id value old new (tree.get nat_cmp old id)

-- ---- greatest accepted ids

abbrev pub is_up_to : Option ℕ → ℕ → Bool
is_up_to None id = false
is_up_to (Some last) id = nat_le id last

-- no id is above the greatest accepted one
abbrev pub AreUpTo : {S : Type 0} → Option ℕ → List (ℕ × S) → Type 0
AreUpTo last entries = AllByRecursion (λ entry. is_up_to last (id_of entry) ≡ true) entries

pub AreUpTo-prop : {S : Type 0} (last : Option ℕ) (entries : List (ℕ × S)) → IsProp (AreUpTo last entries)
AreUpTo-prop last entries = AllByRecursion-prop _ (λ entry. Bool-set _ _) entries
