-- Keys in lists and at marks.
use Rattle.std.specs.Prelude.{◌≡◌, ◌<◌, length, nat_lt, Bool, false, List, [], Option, Some, None}
use Rattle.std.specs.List.{list_any}
use Rattle.std.specs.BTreeMap as tree
use Rattle.std.specs.BTreeMap.{BTreeMap}
use Rattle.std.specs.Option.{ForSome}
use Rattle.std.specs.Ordering.{eq_by_cmp}
use Rattle.std.specs.declared.cmp.Ordering.{Ordering}
use Rattle.mesh_base.specs.KeyOrder.{key_cmp, kind_place}
use Rattle.mesh_base.specs.Keyed.{IsKeyed}
use Rattle.mesh_base.specs.declared.key.Kind.{Kind}
use Rattle.mesh_base.specs.declared.key.ObjKey.{ObjKey}

abbrev pub is_key : ObjKey → ObjKey → Bool
is_key k key = eq_by_cmp key_cmp k key

-- the list has the key
abbrev pub has_key : ObjKey → List ObjKey → Bool
has_key k keys = list_any (eq_by_cmp key_cmp k) keys

-- the key's kind comes after the kind
abbrev pub is_after : Kind → ObjKey → Bool
is_after kind k = nat_lt (kind_place kind) (kind_place k.kind)

-- the keys are in strictly ascending order
abbrev pub Rises : List ObjKey → Type 0
Rises keys = IsKeyed key_cmp (λ k. k) (λ k. k) keys

-- a stored list has at least one key
abbrev pub HasKeys : Option (List ObjKey) → Type 0
HasKeys kept = ForSome kept (λ keys. 0 < length keys)

abbrev pub listed : Option (List ObjKey) → List ObjKey
listed None = []
listed (Some keys) = keys

module _ {M : Type 0} (cmp : M → M → Ordering) where
  -- the keys at the mark
  abbrev pub keys_at : BTreeMap M (List ObjKey) → M → List ObjKey
  keys_at by m = listed (tree.get cmp by m)

  -- the key is at the mark
  abbrev pub key_at : BTreeMap M (List ObjKey) → M → ObjKey → Bool
  key_at by m k = has_key k (keys_at by m)

  -- each stored list has at least one key
  abbrev pub AllHaveKeys : BTreeMap M (List ObjKey) → Type 0
  AllHaveKeys by = (m : M) → HasKeys (tree.get cmp by m)

  -- each stored list but that of this mark has at least one key
  abbrev pub OthersHaveKeys : M → BTreeMap M (List ObjKey) → Type 0
  OthersHaveKeys mark by = (m : M) → eq_by_cmp cmp mark m ≡ false → HasKeys (tree.get cmp by m)

-- lists at marks of two parts, by the first part and then the second
abbrev pub Nested : Type 0 → Type 0 → Type 0
Nested A B = BTreeMap A (BTreeMap B (List ObjKey))

-- the keys at the second part in the map of the first, or none without a map
abbrev pub keys_within : {B : Type 0} → (B → B → Ordering) → Option (BTreeMap B (List ObjKey)) → B → List ObjKey
keys_within cmp None b = []
keys_within cmp (Some by) b = keys_at cmp by b

-- a stored part has at least one list, and each of its lists has a key
abbrev pub HasLists : {B : Type 0} → (B → B → Ordering) → Option (BTreeMap B (List ObjKey)) → Type 0
HasLists cmp kept = ForSome kept (λ by. (0 < tree.btree_map_len by) × AllHaveKeys cmp by)

module _ {A B : Type 0} (cmp_a : A → A → Ordering) (cmp_b : B → B → Ordering) where
  -- the keys at the two parts of a mark
  abbrev pub nested_keys : Nested A B → A → B → List ObjKey
  nested_keys by a b = keys_within cmp_b (tree.get cmp_a by a) b

  -- the key is at the two parts of a mark
  abbrev pub nested_at : Nested A B → A → B → ObjKey → Bool
  nested_at by a b k = has_key k (nested_keys by a b)

  -- each stored part has lists with keys
  abbrev pub AllHaveLists : Nested A B → Type 0
  AllHaveLists by = (a : A) → HasLists cmp_b (tree.get cmp_a by a)

  -- each stored part but this one has lists with keys
  abbrev pub OthersHaveLists : A → Nested A B → Type 0
  OthersHaveLists part by = (a : A) → eq_by_cmp cmp_a part a ≡ false → HasLists cmp_b (tree.get cmp_a by a)

  -- the keys at two parts of a mark in the map of its kind, or none without a map
  abbrev pub keys_among : Option (Nested A B) → A → B → List ObjKey
  keys_among None a b = []
  keys_among (Some by) a b = nested_keys by a b

module _ {K A B : Type 0} (cmp_k : K → K → Ordering) (cmp_a : A → A → Ordering) (cmp_b : B → B → Ordering) where
  -- the keys at the kind and the two parts of a mark
  abbrev pub keys_by_kind : BTreeMap K (Nested A B) → K → A → B → List ObjKey
  keys_by_kind by kind a b = keys_among cmp_a cmp_b (tree.get cmp_k by kind) a b

  -- the key is at the kind and the two parts of a mark
  abbrev pub key_by_kind : BTreeMap K (Nested A B) → K → A → B → ObjKey → Bool
  key_by_kind by kind a b k = has_key k (keys_by_kind by kind a b)

  -- each part stored for each kind has lists with keys
  abbrev pub AllKindsHaveLists : BTreeMap K (Nested A B) → Type 0
  AllKindsHaveLists by = (kind : K) → ForSome (tree.get cmp_k by kind) (AllHaveLists cmp_a cmp_b)
