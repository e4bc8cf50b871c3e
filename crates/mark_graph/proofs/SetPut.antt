-- What becomes of the rows at marks, as a set is put at a mark.
use Rattle.std.proofs.Common.{◌≡◌, ◌<◌, ℕ, Bool, true, false, cond, ◌&&◌, ◌||◌, not, nat_eq, Option, Some, None, refl, sym, ap, subst, ◌∙◌}
use Rattle.std.proofs.lemmas.Cmp.{nat_cmp_total}
use Rattle.std.specs.BTreeSet.{BTreeSet, btree_set_len}
use Rattle.std.specs.Cmp.{Equal-is, IsTotalOrder, eq_by_cmp_equiv, tied_itself, unsigned_tied}
use Rattle.std.specs.HashMap.{get_by}
use Rattle.std.specs.Option.{is_some}
use Rattle.std.specs.Ordering.{eq_by_cmp, is_eq, nat_cmp}
use Rattle.std.specs.declared.cmp.Ordering.{Ordering}
use Rattle.mark_graph.specs.Puts.{PutsAt}
use Rattle.mark_graph.specs.RowMarks.{AddsRow, AllHaveRows, HasRow, OthersHaveRows, RemovesRow, row_at, set_at, some_row}
use Rattle.mark_graph.specs.declared.rows_by_mark.RowsByMark.{RowsByMark}

len_in : Option (BTreeSet ℕ) → ℕ
len_in None = 0
len_in (Some rows) = btree_set_len rows

-- a set with rows
pub some_has : (rows : BTreeSet ℕ) → 0 < btree_set_len rows → HasRow (Some rows)
unfolding len_in
some_has rows some s is = subst (λ (o : Option (BTreeSet ℕ)). 0 < len_in o) is some

pub none_has : HasRow None
none_has s is = absurd (cc is)

-- a mark without a set has no rows
pub no_rows : (set : Option (BTreeSet ℕ)) → is_some set ≡ false → (r : ℕ) → some_row r set ≡ false
no_rows None none r = refl
no_rows (Some rows) none r = absurd (cc none)

pub was_not : (b c : Bool) → not b ≡ c → b ≡ not c
was_not true c e = ap not e
was_not false c e = ap not e

-- the same row
same_row : (row r : ℕ) → eq_by_cmp nat_cmp row r ≡ nat_eq r row
same_row row r = (eq_by_cmp_equiv nat_cmp_total).symm row r ∙ unsigned_tied r row

gone : (taken here : Bool) → here ≡ false → here ≡ (not taken && here)
gone true here none = none
gone false here none = refl

module _ {M : Type 0} (cmp : M → M → Ordering) (total : IsTotalOrder cmp) (mark : M) where
  flipped : (m : M) → eq_by_cmp cmp mark m ≡ eq_by_cmp cmp m mark
  flipped m = (eq_by_cmp_equiv total).symm mark m

  -- equal marks have the same set
  alike : (by : RowsByMark M) (m : M) → eq_by_cmp cmp m mark ≡ true → set_at cmp by m ≡ set_at cmp by mark
  alike by m e = ap (λ (test : M → Bool). get_by test by.by_hash) (λ i k. is_eq (total.congr m mark k ((Equal-is (cmp m mark)).0 e) i))

  -- a row is removed from a mark without rows
  pub none_taken : (by : RowsByMark M) (row : ℕ) → ((r : ℕ) → row_at cmp by mark r ≡ false) → RemovesRow cmp (eq_by_cmp cmp mark) row by by
  none_taken by row none m r = split (eq_by_cmp cmp m mark) refl
    where
      split : (b : Bool) → eq_by_cmp cmp m mark ≡ b → row_at cmp by m r ≡ (not (eq_by_cmp cmp mark m && nat_eq r row) && row_at cmp by m r)
      split true e = gone (eq_by_cmp cmp mark m && nat_eq r row) (row_at cmp by m r) (ap (some_row r) (alike by m e) ∙ none r)
      split false e = sym (ap (λ b. not (b && nat_eq r row) && row_at cmp by m r) (flipped m ∙ e))

  module _ (old new : RowsByMark M) (set : Option (BTreeSet ℕ)) (put : PutsAt cmp mark set (set_at cmp old) (set_at cmp new)) where
    pub put_here : set_at cmp new mark ≡ set
    put_here = put mark ∙ ap (λ (b : Bool). cond b set (set_at cmp old mark)) (ap is_eq (tied_itself total mark))

    -- the rows of the mark are those of the set
    moved : (m : M) (r : ℕ) → row_at cmp new m r ≡ cond (eq_by_cmp cmp m mark) (some_row r set) (row_at cmp old m r)
    moved m r = ap (some_row r) (put m) ∙ by_cases (eq_by_cmp cmp m mark)
      where
        by_cases : (b : Bool) → some_row r (cond b set (set_at cmp old m)) ≡ cond b (some_row r set) (row_at cmp old m r)
        by_cases true = refl
        by_cases false = refl

    -- the set has one row more
    pub puts_row : (row : ℕ) → ((r : ℕ) → some_row r set ≡ (eq_by_cmp nat_cmp row r || row_at cmp old mark r)) → AddsRow cmp (eq_by_cmp cmp mark) row old new
    puts_row row more m r = moved m r ∙ split (eq_by_cmp cmp m mark) refl
      where
        split : (b : Bool) → eq_by_cmp cmp m mark ≡ b → cond b (some_row r set) (row_at cmp old m r) ≡ ((eq_by_cmp cmp mark m && nat_eq r row) || row_at cmp old m r)
        split true e =
            more r ∙ (λ i. same_row row r i || some_row r (sym (alike old m e) i))
            ∙ sym (ap (λ b. (b && nat_eq r row) || row_at cmp old m r) (flipped m ∙ e))
        split false e = sym (ap (λ b. (b && nat_eq r row) || row_at cmp old m r) (flipped m ∙ e))

    -- the set has one row less
    pub takes_row : (row : ℕ) → ((r : ℕ) → some_row r set ≡ (not (eq_by_cmp nat_cmp row r) && row_at cmp old mark r)) → RemovesRow cmp (eq_by_cmp cmp mark) row old new
    takes_row row less m r = moved m r ∙ split (eq_by_cmp cmp m mark) refl
      where
        split : (b : Bool) → eq_by_cmp cmp m mark ≡ b → cond b (some_row r set) (row_at cmp old m r) ≡ (not (eq_by_cmp cmp mark m && nat_eq r row) && row_at cmp old m r)
        split true e =
            less r ∙ (λ i. not (same_row row r i) && some_row r (sym (alike old m e) i))
            ∙ sym (ap (λ b. not (b && nat_eq r row) && row_at cmp old m r) (flipped m ∙ e))
        split false e = sym (ap (λ b. not (b && nat_eq r row) && row_at cmp old m r) (flipped m ∙ e))

    -- the set has the rows that the mark had
    pub same_rows : ((r : ℕ) → some_row r set ≡ row_at cmp old mark r) → (m : M) (r : ℕ) → row_at cmp new m r ≡ row_at cmp old m r
    same_rows same m r = moved m r ∙ split (eq_by_cmp cmp m mark) refl
      where
        split : (b : Bool) → eq_by_cmp cmp m mark ≡ b → cond b (some_row r set) (row_at cmp old m r) ≡ row_at cmp old m r
        split true e = same r ∙ sym (ap (some_row r) (alike old m e))
        split false e = refl

    -- every set has rows, if this one does
    pub all_have : HasRow set → OthersHaveRows cmp mark old → AllHaveRows cmp new
    all_have some others m = subst HasRow (sym (put m)) (split (eq_by_cmp cmp m mark) refl)
      where
        split : (b : Bool) → eq_by_cmp cmp m mark ≡ b → HasRow (cond b set (set_at cmp old m))
        split true e = some
        split false e = others m (flipped m ∙ e)

    -- the sets of the other marks stay
    pub others_have : AllHaveRows cmp old → OthersHaveRows cmp mark new
    others_have each m apart = subst HasRow (sym (put m ∙ ap (λ (b : Bool). cond b set (set_at cmp old m)) (sym (flipped m) ∙ apart))) (each m)
