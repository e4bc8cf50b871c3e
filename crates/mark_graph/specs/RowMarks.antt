-- The rows at each mark.
use Rattle.std.specs.Prelude.{◌≡◌, ◌<◌, ◌&&◌, ◌||◌, if◌then◌else◌, not, ℕ, Bool, false, nat_eq, List, Option, Some, None, is_some}
use Rattle.std.specs.List.{list_any}
use Rattle.std.specs.Option.{ForSome}
use Rattle.std.specs.BTreeSet as sorted
use Rattle.std.specs.BTreeSet.{BTreeSet}
use Rattle.std.specs.HashMap as map
use Rattle.std.specs.Ordering.{eq_by_cmp, nat_cmp}
use Rattle.std.specs.declared.cmp.Ordering.{Ordering}
use Rattle.mark_graph.specs.declared.rows_by_mark.RowsByMark.{RowsByMark}

-- a list of rows contains the row
abbrev pub has_row : ℕ → List ℕ → Bool
has_row row rows = list_any (nat_eq row) rows

abbrev pub some_row : ℕ → Option (BTreeSet ℕ) → Bool
some_row row None = false
some_row row (Some rows) = sorted.contains nat_cmp rows row

-- the set of a mark, if there is one, is not empty
abbrev pub HasRow : Option (BTreeSet ℕ) → Type 0
HasRow kept = ForSome kept (λ rows. 0 < sorted.btree_set_len rows)

module _ {M : Type 0} (cmp : M → M → Ordering) where
  -- a list of marks contains the mark
  abbrev pub has_mark : List M → M → Bool
  has_mark marks mark = list_any (eq_by_cmp cmp mark) marks

  -- the mark is in one set and not in the other
  abbrev pub is_only_in : BTreeSet M → BTreeSet M → M → Bool
  is_only_in marks others mark = sorted.contains cmp marks mark && not (sorted.contains cmp others mark)

  -- the set of the mark, if it has one
  abbrev pub set_at : RowsByMark M → M → Option (BTreeSet ℕ)
  set_at by_mark mark = map.get (eq_by_cmp cmp) by_mark.by_hash mark

  -- the row is in the set of the mark
  abbrev pub row_at : RowsByMark M → M → ℕ → Bool
  row_at by_mark mark row = some_row row (set_at by_mark mark)

  -- the mark has rows
  abbrev pub has_rows : RowsByMark M → M → Bool
  has_rows by_mark mark = is_some (set_at by_mark mark)

  -- the row is added at the marks of the set, and nothing else changes
  abbrev pub AddsRow : (M → Bool) → ℕ → RowsByMark M → RowsByMark M → Type 0
  AddsRow set row old new = (m : M) (r : ℕ) → row_at new m r ≡ ((set m && nat_eq r row) || row_at old m r)

  -- the row is removed from the marks of the set, and nothing else changes
  abbrev pub RemovesRow : (M → Bool) → ℕ → RowsByMark M → RowsByMark M → Type 0
  RemovesRow set row old new = (m : M) (r : ℕ) → row_at new m r ≡ (not (set m && nat_eq r row) && row_at old m r)

  -- the row is at the marks of the set alone, and nothing else changes
  abbrev pub MovesRow : (M → Bool) → ℕ → RowsByMark M → RowsByMark M → Type 0
  MovesRow set row old new = (m : M) (r : ℕ) → row_at new m r ≡ (if nat_eq r row then set m else row_at old m r)

  -- no mark has an empty set
  abbrev pub AllHaveRows : RowsByMark M → Type 0
  AllHaveRows by_mark = (m : M) → HasRow (set_at by_mark m)

  -- no mark but this one has an empty set
  abbrev pub OthersHaveRows : M → RowsByMark M → Type 0
  OthersHaveRows mark by_mark = (m : M) → eq_by_cmp cmp mark m ≡ false → HasRow (set_at by_mark m)
