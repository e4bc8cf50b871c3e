-- Items of lists that strictly rise.
use Rattle.std.proofs.Common.{◌≡◌, ℕ, zero, suc, ◌<◌, ◌≤◌, Bool, true, false, cond, not, ◌&&◌, ◌||◌, List, [], ◌∷◌, length, get_or, Result, Ok, Err, IfOk, IfErr, Ordering, inl, inr, refl, sym, ap, subst, ◌∙◌, add-one, arith}
use Rattle.std.specs.Cmp.{Equal-is, IsTotalOrder, alike_right, eq_by_cmp_equiv, tied_back, tied_itself}
use Rattle.std.specs.List.{AllByRecursion, dedup, dedup_from, filter, insert, list_any, remove}
use Rattle.std.specs.List.Sorted.{IsNonDecreasingBy, IsStrictlySortedBy}
use Rattle.std.specs.Result.{is_ok}
use Rattle.std.specs.Ordering.{eq_by_cmp, is_eq, is_lt, ordering_index, ordering_reverse}
use Rattle.std.proofs.lemmas.Bool.{cases_lt}
use Rattle.std.proofs.lemmas.List.Folds.{list_any_at, list_any_none}
use Rattle.std.proofs.lemmas.List.Kept.{IsStrictlySortedBy-filter}
use Rattle.std.proofs.lemmas.List.Sorted.{IsPermutation-insert, list_any-IsPermutation, searchable_from_sorted}
use Rattle.std.proofs.lemmas.Map.Views.{any-filter_same}
use Rattle.std.specs.declared.cmp.Ordering.TheVariants.{Less, Equal, Greater}
use Rattle.mesh_base.specs.Places.{IsHit, IsGap}

same_or : (a b c : Bool) → b ≡ a → (a || c) ≡ (a || (b || c))
same_or true b c e = refl
same_or false b c e = ap (λ d. d || c) (sym e)

pub none_sorted : {K : Type 0} (R : K → K → Ordering) → IsStrictlySortedBy R []
unfolding IsStrictlySortedBy
none_sorted R = tt

module _ {K : Type 0} {R : K → K → Ordering} (o : IsTotalOrder R) where
  abbrev has : K → List K → Bool
  has q keys = list_any (eq_by_cmp R q) keys

  abbrev Below : K → List K → Type 0
  Below k keys = AllByRecursion (λ q. R k q ≡ Less) keys

  abbrev other : K → K → Bool
  other key k = not (eq_by_cmp R key k)

  equal : (x y : K) → eq_by_cmp R x y ≡ true → R x y ≡ Equal
  equal x y e = (Equal-is (R x y)).0 e

  -- ---- a search

  next_above : (keys : List K) → IsStrictlySortedBy R keys → (k : ℕ) (d : K) → suc k < length keys → is_lt (R (get_or keys (suc k) d) (get_or keys k d)) ≡ false
  unfolding IsStrictlySortedBy
  next_above [] s k d lt = absurd (omega arith)
  next_above (x ∷ []) s k d lt = absurd (omega arith)
  next_above (x ∷ y ∷ ys) s zero d lt = ap is_lt (o.antisymm y x ∙ ap ordering_reverse s.0.0)
  next_above (x ∷ y ∷ ys) s (suc k) d lt = next_above (y ∷ ys) s.1 k d (omega arith)

  pub searchable : (keys : List K) → IsStrictlySortedBy R keys → (key : K) → IsNonDecreasingBy (λ y. ordering_index (R y key)) keys
  searchable keys s key = searchable_from_sorted o (λ k. k) keys key (λ k d low lt. rw add-one (next_above keys s k d (omega arith)))

  -- ---- an item put into its gap

  below_insert : (k y : K) (ks : List K) (i : ℕ) → i ≤ length ks → Below k ks → R k y ≡ Less → Below k (insert ks i y)
  below_insert k y [] zero le below lt = (lt, tt)
  below_insert k y [] (suc i) le below lt = absurd (omega arith)
  below_insert k y (x ∷ xs) zero le below lt = (lt, below)
  below_insert k y (x ∷ xs) (suc i) le below lt = (below.0, below_insert k y xs i (omega arith) below.1 lt)

  below_all : (y : K) (ks : List K) → ((j : ℕ) (d : K) → j < length ks → R (get_or ks j d) y ≡ Greater) → Below y ks
  below_all y [] above = tt
  below_all y (x ∷ xs) above = (o.antisymm y x ∙ ap ordering_reverse (above 0 x (omega arith)), below_all y xs (λ j d lt. above (suc j) d (omega arith)))

  insert_sorted : (ks : List K) (i : ℕ) (y : K) → i ≤ length ks → ((j : ℕ) (d : K) → j < i → R (get_or ks j d) y ≡ Less) → ((j : ℕ) (d : K) → i ≤ j → j < length ks → R (get_or ks j d) y ≡ Greater)
      → IsStrictlySortedBy R ks → IsStrictlySortedBy R (insert ks i y)
  unfolding IsStrictlySortedBy
  insert_sorted [] zero y le before after s = (tt, tt)
  insert_sorted [] (suc i) y le before after s = absurd (omega arith)
  insert_sorted (x ∷ xs) zero y le before after s = (below_all y (x ∷ xs) (λ j d lt. after j d (omega arith) lt), s)
  insert_sorted (x ∷ xs) (suc i) y le before after s =
      (below_insert x y xs i (omega arith) s.0 (before 0 x (omega arith)), insert_sorted xs i y (omega arith) (λ j d lt. before (suc j) d (omega arith)) (λ j d ge lt. after (suc j) d (omega arith) (omega arith)) s.1)

  -- ---- an item taken out

  all_others : (y : K) (ks : List K) → Below y ks → filter (other y) ks ≡ ks
  all_others y [] below = refl
  all_others y (x ∷ xs) below = rw below.0 (ap (λ rest. x ∷ rest) (all_others y xs below.1))

  below_tied : (k y : K) (ks : List K) → R k y ≡ Equal → Below k ks → Below y ks
  below_tied k y [] tied below = tt
  below_tied k y (x ∷ xs) tied below = (sym (o.congr k y x tied) ∙ below.0, below_tied k y xs tied below.1)

  below_at : (k : K) (ks : List K) (i : ℕ) (d : K) → i < length ks → Below k ks → R k (get_or ks i d) ≡ Less
  below_at k [] i d lt below = absurd (omega arith)
  below_at k (x ∷ xs) zero d lt below = below.0
  below_at k (x ∷ xs) (suc i) d lt below = below_at k xs i d (omega arith) below.1

  remove_is : (ks : List K) (i : ℕ) (y : K) → i < length ks → ((d : K) → R (get_or ks i d) y ≡ Equal) → IsStrictlySortedBy R ks → remove ks i ≡ filter (other y) ks
  unfolding IsStrictlySortedBy
  remove_is [] i y lt hit s = absurd (omega arith)
  remove_is (x ∷ xs) zero y lt hit s = rw (tied_back o x y (hit x)) (sym (all_others y xs (below_tied x y xs (hit x) s.0)))
  remove_is (x ∷ xs) (suc i) y lt hit s =
      let less : R x y ≡ Less = sym (alike_right o (get_or xs i x) y x (hit x)) ∙ below_at x xs i x (omega arith) s.0 in
      rw (o.antisymm y x ∙ ap ordering_reverse less) (ap (λ rest. x ∷ rest) (remove_is xs i y (omega arith) hit s.1))

  -- ---- by what a search found

  module _ (keys : List K) (s : IsStrictlySortedBy R keys) (key : K) (i : ℕ) where
    pub put_sorted : IsGap (λ k. R k key) keys i → IsStrictlySortedBy R (insert keys i key)
    put_sorted gap = insert_sorted keys i key gap.within (λ j d lt. gap.parts.0 j d (omega arith) lt) gap.parts.1 s

    pub put_has : (q : K) → has q (insert keys i key) ≡ (eq_by_cmp R key q || has q keys)
    put_has q = sym (list_any-IsPermutation (eq_by_cmp R q) (key ∷ keys) (insert keys i key) (IsPermutation-insert keys i key)) ∙ ap (λ b. b || has q keys) ((eq_by_cmp_equiv o).symm q key)

    -- an item that is there already
    pub had_has : IsHit (λ k. R k key) keys i → (q : K) → has q keys ≡ (eq_by_cmp R key q || has q keys)
    had_has hit q = by (eq_by_cmp R key q) refl
      where
        by : (b : Bool) → eq_by_cmp R key q ≡ b → has q keys ≡ (b || has q keys)
        by true e = list_any_at (eq_by_cmp R q) keys i key hit.within ((eq_by_cmp_equiv o).symm q (get_or keys i key) ∙ ap is_eq (o.congr (get_or keys i key) key q (hit.level key)) ∙ e)
        by false e = refl

    pub take_sorted : IsHit (λ k. R k key) keys i → IsStrictlySortedBy R (remove keys i)
    take_sorted hit = subst (IsStrictlySortedBy R) (sym (remove_is keys i key hit.within hit.level s)) (IsStrictlySortedBy-filter R (other key) keys s)

    pub take_has : IsHit (λ k. R k key) keys i → (q : K) → has q (remove keys i) ≡ (not (eq_by_cmp R key q) && has q keys)
    take_has hit q =
        ap (has q) (remove_is keys i key hit.within hit.level s)
        ∙ any-filter_same (eq_by_cmp R q) (other key) (other key q) (λ j same. ap (λ r. not (is_eq r)) (sym (alike_right o q j key (equal q j same)))) keys

    apart : IsGap (λ k. R k key) keys i → (q : K) → R key q ≡ Equal → (j : ℕ) (d : K) → j < length keys → eq_by_cmp R q (get_or keys j d) ≡ false
    apart gap q tied j d lt =
        let g = get_or keys j d in
        ap is_eq (sym (o.congr key q g tied) ∙ o.antisymm key g) ∙ elim (cases_lt j i) [
          | inl below ↦ ap (λ r. is_eq (ordering_reverse r)) (gap.parts.0 j d (omega arith) below)
          | inr above ↦ ap (λ r. is_eq (ordering_reverse r)) (gap.parts.1 j d above lt)
        ]

    -- an item that is not there
    pub lacks_has : IsGap (λ k. R k key) keys i → (q : K) → has q keys ≡ (not (eq_by_cmp R key q) && has q keys)
    lacks_has gap q = by (eq_by_cmp R key q) refl
      where
        by : (b : Bool) → eq_by_cmp R key q ≡ b → has q keys ≡ (not b && has q keys)
        by true e = list_any_none (eq_by_cmp R q) keys (apart gap q (equal key q e))
        by false e = refl

    hit_there : IsHit (λ k. R k key) keys i → has key keys ≡ true
    hit_there hit = list_any_at (eq_by_cmp R key) keys i key hit.within (ap is_eq (tied_back o (get_or keys i key) key (hit.level key)))

    gap_there : IsGap (λ k. R k key) keys i → has key keys ≡ false
    gap_there gap = list_any_none (eq_by_cmp R key) keys (apart gap key (tied_itself o key))

  -- whether an item is there
  pub found : (keys : List K) → IsStrictlySortedBy R keys → (key : K) (r : Result ℕ ℕ) → IfOk r (IsHit (λ k. R k key) keys) → IfErr r (IsGap (λ k. R k key) keys) → is_ok r ≡ has key keys
  found keys s key (Ok i) hit gap = sym (hit_there keys s key i hit)
  found keys s key (Err i) hit gap = sym (gap_there keys s key i gap)

  -- ---- each item once

  module _ (E : K → K → Bool) (ties : (x y : K) → E x y ≡ eq_by_cmp R x y) (q : K) where
    once_step : (k x : K) (xs : List K) (b : Bool) → E x k ≡ b → has q (dedup_from E k xs) ≡ (eq_by_cmp R q k || has q xs) → has q (dedup_from E x xs) ≡ (eq_by_cmp R q x || has q xs)
        → has q (cond b (dedup_from E k xs) (k ∷ dedup_from E x xs)) ≡ (eq_by_cmp R q k || (eq_by_cmp R q x || has q xs))
    once_step k x xs true e here next = here ∙ same_or (eq_by_cmp R q k) (eq_by_cmp R q x) (has q xs) (ap is_eq (alike_right o x k q (equal x k (sym (ties x k) ∙ e))))
    once_step k x xs false e here next = ap (λ b. eq_by_cmp R q k || b) next

    once_from : (k : K) (xs : List K) → has q (dedup_from E k xs) ≡ (eq_by_cmp R q k || has q xs)
    once_from k [] = refl
    once_from k (x ∷ xs) = once_step k x xs (E x k) refl (once_from k xs) (once_from x xs)

    pub once_has : (xs : List K) → has q (dedup E xs) ≡ has q xs
    once_has [] = refl
    once_has (x ∷ xs) = once_from x xs
