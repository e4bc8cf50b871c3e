-- The rows of an index by their keys, and when they are current for the objects held.
use Rattle.std.specs.Prelude.{◌≡◌, ◌<◌, ◌+◌, ◌-◌, if◌then◌else◌, ℕ, Bool, true, false, List, [], Option, Some, None, is_some, nat_lt}
use Rattle.std.specs.List.{IsDistinct, list_any}
use Rattle.std.specs.Ordering.{eq_by_cmp}
use Rattle.std.specs.declared.cmp.Ordering.{Ordering}
use Rattle.view_types.specs.Objects.{ObjectMap}
use Rattle.view_types.specs.declared.mark.Mark.{Mark}
use Rattle.mark_rules.specs.Changes.{Leads}
use Rattle.mark_rules.specs.Marks.{has_mark, meets}

-- The filter of a sort of rows: the row of each key over the objects held, and its marks.
pub record Filter (Key Row : Type 0) : Type 0 where
  pub row_of : ObjectMap → Key → Row
  pub reads : ObjectMap → Key → List Mark

-- two lists have the same marks
abbrev pub HaveSame : List Mark → List Mark → Type 0
HaveSame marks others = (mark : Mark) → has_mark marks mark ≡ has_mark others mark

module _ {Key Row : Type 0} (filter : Filter Key Row) (held : ObjectMap) where
  -- the row of the key over the objects held, and the marks that it reads
  pub record IsRow (key : Key) (row : Row) (marks : List Mark) : Type 0 where
    pub is_filter : row ≡ filter.row_of held key
    pub are_read : HaveSame marks (filter.reads held key)

  -- a key with users has its row and its marks, and one without has neither
  pub record IsCurrent (key : Key) (users : ℕ) (row : Option Row) (marks : List Mark) : Type 0 where
    pub unused : users ≡ 0 → (row ≡ None) × (marks ≡ [])
    pub used : 0 < users → (row ≡ Some (filter.row_of held key)) × HaveSame marks (filter.reads held key)

-- The kept value of a row that reads no mark of a change stays valid after it.
abbrev pub KeptStays : {Key Row Kept : Type 0} → Filter Key Row → (ObjectMap → Key → Kept → Type 0) → Type 0
KeptStays {Key} {Row} {Kept} filter keeps = (key : Key) (kept : Kept) (changed : List Mark) (before after : ObjectMap) → Leads changed before after
    → meets (filter.reads before key) changed ≡ false → keeps before key kept → keeps after key kept

-- The kept value of a row has the row of its key and the marks that the row reads.
abbrev pub KeptShows : {Key Row Kept : Type 0} → Filter Key Row → (ObjectMap → Key → Kept → Type 0) → (Kept → Row) → (Kept → List Mark) → Type 0
KeptShows {Key} {Row} {Kept} filter keeps row_in marks_in = (held : ObjectMap) (key : Key) (kept : Kept) → keeps held key kept → IsRow filter held key (row_in kept) (marks_in kept)

-- ---- numbers

-- a key has a number exactly if it has users, and no two keys have the same number
pub record AreNumbered {Key : Type 0} (users : Key → ℕ) (number_at : Key → Option ℕ) : Type 0 where
  pub used : (key : Key) → is_some (number_at key) ≡ nat_lt 0 (users key)
  pub apart : (key other : Key) (n : ℕ) → number_at key ≡ Some n → number_at other ≡ Some n → key ≡ other

-- each key that has a number keeps it
abbrev pub KeepNumbers : {Key : Type 0} → (Key → Option ℕ) → (Key → Option ℕ) → Type 0
KeepNumbers {Key} old new = (key : Key) (n : ℕ) → old key ≡ Some n → new key ≡ Some n

-- ---- users

module _ {Key : Type 0} (cmp : Key → Key → Ordering) where
  -- the list contains the key
  abbrev pub has_key : List Key → Key → Bool
  has_key keys key = list_any (eq_by_cmp cmp key) keys

  -- the key has one user more, and every other key is unchanged
  abbrev pub OneMore : Key → (Key → ℕ) → (Key → ℕ) → Type 0
  OneMore key old new = (k : Key) → new k ≡ old k + (if eq_by_cmp cmp k key then 1 else 0)

  -- the key has one user fewer, if it had any, and every other key is unchanged
  abbrev pub OneLess : Key → (Key → ℕ) → (Key → ℕ) → Type 0
  OneLess key old new = (k : Key) → new k ≡ old k - (if eq_by_cmp cmp k key then 1 else 0)

  -- the list has the keys whose marks share one with the change, each once
  pub record AreMet (changed : List Mark) (marks_at : Key → List Mark) (keys : List Key) : Type 0 where
    pub each : (k : Key) → has_key keys k ≡ meets (marks_at k) changed
    pub once : IsDistinct (eq_by_cmp cmp) keys

  -- only some of these keys may differ, and every other key has its old row
  pub record DifferAmong {Row : Type 0} (keys differing : List Key) (old new : Key → Option Row) : Type 0 where
    pub among : (k : Key) → has_key differing k ≡ true → has_key keys k ≡ true
    pub others : (k : Key) → has_key differing k ≡ false → new k ≡ old k
