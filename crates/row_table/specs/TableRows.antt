-- The parts of a table: the number of each key, the row of each number, and its watched marks.
use Rattle.std.specs.Prelude.{◌≡◌, ◌<◌, ℕ, Bool, true, false, List, [], Option, Some, None, option_map}
use Rattle.std.specs.List.{filter_map}
use Rattle.std.specs.declared.cmp.Ordering.{Ordering}
use Rattle.slab.specs.Slab.{Slab, get}
use Rattle.view_types.specs.Objects.{ObjectMap}
use Rattle.view_types.specs.declared.mark.Mark.{Mark}
use Rattle.mark_graph.specs.RowMarks.{has_row}
use Rattle.mark_rules.specs.Changes.{Leads}
use Rattle.row_table.specs.AtMarks.{Watches}
use Rattle.row_table.specs.KeyNumbers.{number_at, used_at}
use Rattle.row_table.specs.declared.key_numbers.KeyNumbers.{KeyNumbers}
use Rattle.row_table.specs.declared.key_numbers.UsedKey.{UsedKey}
use Rattle.row_table.specs.declared.table_rows.KeptRow.{KeptRow}
use Rattle.row_table.specs.declared.watched_marks.WatchedMarks.{WatchedMarks}

-- the number of a row, if there is one, is among these
abbrev pub is_among : List ℕ → Option ℕ → Bool
is_among numbers None = false
is_among numbers (Some n) = has_row n numbers

module _ {Key Kept : Type 0} where
  abbrev pub key_in : Option (KeptRow Key Kept) → Option Key
  key_in row = option_map (λ r. r.key) row

  abbrev pub kept_in : Option (KeptRow Key Kept) → Option Kept
  kept_in row = option_map (λ r. r.kept) row

  -- the row in the kept value, if there is one
  abbrev pub shown_in : {Row : Type 0} → (Kept → Row) → Option (KeptRow Key Kept) → Option Row
  shown_in row_in row = option_map (λ r. row_in r.kept) row

  -- the marks of a kept row, or none if no row is kept
  abbrev pub marks_of : (Kept → List Mark) → Option (KeptRow Key Kept) → List Mark
  marks_of marks_in None = []
  marks_of marks_in (Some r) = marks_in r.kept

  -- the row at a number, if there is one
  abbrev pub kept_at : Slab (KeptRow Key Kept) → ℕ → Option (KeptRow Key Kept)
  kept_at rows n = get rows n

  -- the row of a number, if both are there
  abbrev pub row_of : Slab (KeptRow Key Kept) → Option ℕ → Option (KeptRow Key Kept)
  row_of rows None = None
  row_of rows (Some n) = kept_at rows n

  -- each number watches the marks of its row
  abbrev pub WatchTheirs : (Kept → List Mark) → Slab (KeptRow Key Kept) → WatchedMarks → Type 0
  WatchTheirs marks_in rows watched = (n : ℕ) → Watches watched n (marks_of marks_in (kept_at rows n))

  -- the keys of the rows with these numbers
  abbrev pub keys_of : Slab (KeptRow Key Kept) → List ℕ → List Key
  keys_of rows numbers = filter_map (λ n. key_in (kept_at rows n)) numbers

module _ {Key : Type 0} (cmp : Key → Key → Ordering) where
  -- the row of the key's number
  abbrev pub row_at : {Kept : Type 0} → KeyNumbers Key → Slab (KeptRow Key Kept) → Key → Option (KeptRow Key Kept)
  row_at used rows key = row_of rows (number_at cmp used key)

  -- Each key with users has its own number. The row of a key is at its number, which watches the
  -- marks of the row.
  pub record AreTied {Kept : Type 0} (marks_in : Kept → List Mark) (used : KeyNumbers Key) (rows : Slab (KeptRow Key Kept)) (watched : WatchedMarks) : Type 0 where
    pub rows_of : (key : Key) (n : ℕ) → number_at cmp used key ≡ Some n → key_in (kept_at rows n) ≡ Some key
    pub numbers : (n : ℕ) (key : Key) → key_in (kept_at rows n) ≡ Some key → number_at cmp used key ≡ Some n
    pub watch : WatchTheirs marks_in rows watched

module _ {Key Kept : Type 0} (keeps : ObjectMap → Key → Kept → Type 0) where
  -- a key with users has its own row, which is valid for the objects held
  abbrev pub StandsAt : ObjectMap → Key → Option UsedKey → Option (KeptRow Key Kept) → Type 0
  StandsAt held key None row = row ≡ None
  StandsAt held key (Some u) None = ⊥
  StandsAt held key (Some u) (Some r) = (0 < u.users) × (r.key ≡ key) × keeps held key r.kept

  abbrev pub AllStand : (Key → Key → Ordering) → ObjectMap → KeyNumbers Key → Slab (KeptRow Key Kept) → Type 0
  AllStand cmp held used rows = (key : Key) → StandsAt held key (used_at cmp used key) (row_at cmp used rows key)

  module _ (tells : Kept → Kept → Type 0) (changed : List Mark) (after : ObjectMap) where
    -- the kept value of the key is updated for the change
    abbrev pub KeptFollows : Key → Kept → Kept → Type 0
    KeptFollows key old new = (held : ObjectMap) → keeps held key old → Leads changed held after → keeps after key new × tells old new

    -- the row has the same key, and its kept value is updated for the change
    pub record RowFollows (key : Key) (old new : KeptRow Key Kept) : Type 0 where
      pub same_key : new.key ≡ old.key
      pub kept : KeptFollows key old.kept new.kept

    -- the row of the key, if there is one, is updated for the change, or it is unchanged
    abbrev pub RowAfter : Bool → Key → Option (KeptRow Key Kept) → Option (KeptRow Key Kept) → Type 0
    RowAfter false key old new = new ≡ old
    RowAfter true key None None = Unit {0}
    RowAfter true key None (Some new) = ⊥
    RowAfter true key (Some old) None = ⊥
    RowAfter true key (Some old) (Some new) = RowFollows key old new

    -- the rows of these keys are updated for the change, and all others are unchanged
    abbrev pub Follow : (Key → Bool) → (Key → Option (KeptRow Key Kept)) → (Key → Option (KeptRow Key Kept)) → Type 0
    Follow some old new = (key : Key) → RowAfter (some key) key (old key) (new key)
