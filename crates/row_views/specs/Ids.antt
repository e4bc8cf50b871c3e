-- Ids with their values, and the ids of each key.
use Rattle.std.specs.Prelude.{◌≡◌, ◌&&◌, ◌||◌, not, ℕ, nat_eq, nat_lt, Bool, true, false, List, [], Option, Some, None, if◌then◌else◌, slice_index_or}
use Rattle.std.specs.BTreeMap as tree
use Rattle.std.specs.BTreeMap.{BTreeMap}
use Rattle.std.specs.BTreeSet.{BTreeSet, btree_set_len, contains}
use Rattle.std.specs.Ordering.{eq_by_cmp, nat_cmp}
use Rattle.std.specs.declared.cmp.Ordering.{Ordering}
use Rattle.mark_graph.specs.RowMarks.{has_rows}
use Rattle.mark_graph.specs.declared.rows_by_mark.RowsByMark.{RowsByMark}
use Rattle.row_table.specs.IndexRows.{OneMore, has_key}
use Rattle.row_views.specs.declared.numbered_ids.NumberedIds.{NumberedIds}

-- ---- the values of ids

-- the id has this value, and each other id has its old value
abbrev pub SetsAt : {X : Type 0} → ℕ → X → (ℕ → X) → (ℕ → X) → Type 0
SetsAt id value old new = (n : ℕ) → new n ≡ (if nat_eq n id then value else old n)

-- each id has its old value
abbrev pub Keeps : {X : Type 0} → (ℕ → X) → (ℕ → X) → Type 0
Keeps old new = (id : ℕ) → new id ≡ old id

-- the key that an id is open with
abbrev pub key_at : {Key : Type 0} → BTreeMap ℕ Key → ℕ → Option Key
key_at by_id id = tree.get nat_cmp by_id id

-- ---- the ids of rows by number

abbrev pub empty_ids : BTreeSet ℕ
empty_ids = record { keys = [] }

-- the ids at a number, which has none past the last set
abbrev pub ids_of : NumberedIds → ℕ → BTreeSet ℕ
ids_of by_number number = slice_index_or by_number.sets.items number empty_ids

-- the id is at the number
abbrev pub id_in : NumberedIds → ℕ → ℕ → Bool
id_in by_number number id = contains nat_cmp (ids_of by_number number) id

-- there are ids at the number
abbrev pub has_ids_in : NumberedIds → ℕ → Bool
has_ids_in by_number number = nat_lt 0 (btree_set_len (ids_of by_number number))

-- it is this number, if there is one
abbrev pub is_number : Option ℕ → ℕ → Bool
is_number None number = false
is_number (Some n) number = eq_by_cmp nat_cmp n number

-- the id is added at the numbers of the set, and nothing else changes
abbrev pub AddsId : (ℕ → Bool) → ℕ → NumberedIds → NumberedIds → Type 0
AddsId set id old new = (n r : ℕ) → id_in new n r ≡ ((set n && nat_eq r id) || id_in old n r)

-- the id is removed from the numbers of the set, and nothing else changes
abbrev pub RemovesId : (ℕ → Bool) → ℕ → NumberedIds → NumberedIds → Type 0
RemovesId set id old new = (n r : ℕ) → id_in new n r ≡ (not (set n && nat_eq r id) && id_in old n r)

-- the number of a key, if there is one
abbrev pub number_of : {Key : Type 0} → (Key → Option ℕ) → Option Key → Option ℕ
number_of number_at None = None
number_of number_at (Some key) = number_at key

-- the id is at the number, if there is one
abbrev pub id_at : NumberedIds → Option ℕ → ℕ → Bool
id_at by_number None id = false
id_at by_number (Some number) id = id_in by_number number id

-- there are ids at the number, if there is one
abbrev pub has_ids_at : NumberedIds → Option ℕ → Bool
has_ids_at by_number None = false
has_ids_at by_number (Some number) = has_ids_in by_number number

-- ids are open with the key
abbrev pub is_open : {Key : Type 0} → (Key → Option ℕ) → NumberedIds → Key → Bool
is_open number_at by_number key = has_ids_at by_number (number_at key)

-- ---- the ids of keys

module _ {Key : Type 0} (cmp : Key → Key → Ordering) where
  -- it is this key
  abbrev pub is_key : Key → Option Key → Bool
  is_key key None = false
  is_key key (Some k) = eq_by_cmp cmp key k

  -- it is one of these keys
  abbrev pub is_one_of : List Key → Option Key → Bool
  is_one_of keys None = false
  is_one_of keys (Some key) = has_key cmp keys key

  -- the key has ids
  abbrev pub has_ids : RowsByMark Key → Key → Bool
  has_ids by_key key = has_rows cmp by_key key

  -- The ids at the number of a key are those that are open with it. An id is only at the number of
  -- its key.
  pub record AreTied (number_at : Key → Option ℕ) (by_number : NumberedIds) (by_id : BTreeMap ℕ Key) : Type 0 where
    pub ids : (key : Key) (id : ℕ) → id_at by_number (number_at key) id ≡ is_key key (key_at by_id id)
    pub alone : (number id : ℕ) → id_in by_number number id ≡ true → number_of number_at (key_at by_id id) ≡ Some number

  -- the key has one more user, unless it has ids, and each other key has as many as before
  abbrev pub OneMoreUnless : Bool → Key → (Key → ℕ) → (Key → ℕ) → Type 0
  OneMoreUnless true key old new = (k : Key) → new k ≡ old k
  OneMoreUnless false key old new = OneMore cmp key old new
