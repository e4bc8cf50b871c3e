-- What a binary search finds among pairs in the order of their keys.
use Rattle.std.proofs.Common.{◌≡◌, ℕ, zero, suc, ◌<◌, ◌≤◌, List, [], ◌∷◌, length, get_or, Result, Ok, Err, Ordering, None, Some, IfNone, IfSome, Bor, true, false, is_some, set, slice_get, refl, sym, ap, ◌∙◌, add-one, arith}
use Rattle.std.specs.Cmp.{IsTotalOrder, alike_right, tied_back}
use mathlib.Core.Bool.{true≢false}
use Rattle.std.specs.List.{AllByRecursion, IsAmong, remove}
use Rattle.std.specs.Option.{option_copied, option_map, unwrap_or}
use Rattle.std.specs.declared.option.Option.{Option}
use Rattle.std.specs.List.Sorted.{IsBinarySearchResult, IsSearchInRange, IsNonDecreasingBy, IsStrictlySortedBy}
use Rattle.std.specs.Ordering.{is_lt, ordering_index, ordering_reverse}
use Rattle.std.specs.declared.cmp.Ordering.TheVariants.{Less, Equal, Greater}
use Rattle.std.proofs.lemmas.List.Sorted.{searchable_from_sorted}
use Rattle.std_collections.proofs.Entries.{among_at}
use Rattle.std_collections.proofs.Pairwise.{Pairwise-remove, from_sorted, to_sorted}
use Rattle.std_collections.specs.Map.{keys_of, values_of}
use Rattle.std_collections.specs.Layout.Columns.{set_value_at}
use Rattle.std_collections.specs.Layout.BTreeMap.{one_further, seek}

module _ {K : Type 0} {R : K → K → Ordering} (o : IsTotalOrder R) where
  above : (k x : K) → R x k ≡ Less → R k x ≡ Greater
  above k x less = o.antisymm k x ∙ ap ordering_reverse less

module _ {K X : Type 0} {R : K → K → Ordering} (o : IsTotalOrder R) where
  next_above : (es : List (K × X)) → IsStrictlySortedBy R (keys_of es) → (i : ℕ) (d : K × X) → suc i < length es → is_lt (R (get_or es (suc i) d).0 (get_or es i d).0) ≡ false
  unfolding IsStrictlySortedBy
  next_above [] s i d lt = absurd (omega arith)
  next_above (x ∷ []) s i d lt = absurd (omega arith)
  next_above (x ∷ y ∷ es) s zero d lt = ap is_lt (o.antisymm y.0 x.0 ∙ ap ordering_reverse s.0.0)
  next_above (x ∷ y ∷ es) s (suc i) d lt = next_above (y ∷ es) s.1 i d (omega arith)

  searchable : (es : List (K × X)) → IsStrictlySortedBy R (keys_of es) → (key : K) → IsNonDecreasingBy (λ p. ordering_index (R p.0 key)) es
  searchable es s key = searchable_from_sorted o (λ p. p.0) es key (λ i d low lt. rw add-one (next_above es s i d (omega arith)))

  below_at : (k : K) (es : List (K × X)) (i : ℕ) (d : K × X) → i < length es → AllByRecursion (λ q. R k q ≡ Less) (keys_of es) → R k (get_or es i d).0 ≡ Less
  below_at k [] i d lt below = absurd (omega arith)
  below_at k (e ∷ es) zero d lt below = below.0
  below_at k (e ∷ es) (suc i) d lt below = below_at k es i d (omega arith) below.1

  seek_hit : (key : K) (es : List (K × X)) (i : ℕ) → IsStrictlySortedBy R (keys_of es) → i < length es → ((d : K × X) → R (get_or es i d).0 key ≡ Equal) → Ok i ≡ seek (R key) es
  unfolding IsStrictlySortedBy
  seek_hit key [] i s lt hit = absurd (omega arith)
  seek_hit key (e ∷ es) zero s lt hit = rw (tied_back o e.0 key (hit e)) refl
  seek_hit key (e ∷ es) (suc i) s lt hit =
      let less : R e.0 key ≡ Less = sym (alike_right o (get_or es i e).0 key e.0 (hit e)) ∙ below_at e.0 es i e (omega arith) s.0 in
      rw (above o key e.0 less) (ap one_further (seek_hit key es i s.1 (omega arith) hit))

  seek_gap : (key : K) (es : List (K × X)) (i : ℕ) → i ≤ length es → ((j : ℕ) (d : K × X) → j < i → R (get_or es j d).0 key ≡ Less) → ((j : ℕ) (d : K × X) → i ≤ j → j < length es → R (get_or es j d).0 key ≡ Greater) → Err i ≡ seek (R key) es
  seek_gap key [] zero le before after = refl
  seek_gap key [] (suc i) le before after = absurd (omega arith)
  seek_gap key (e ∷ es) zero le before after = rw (o.antisymm key e.0 ∙ ap ordering_reverse (after 0 e (omega arith) (omega arith))) refl
  seek_gap key (e ∷ es) (suc i) le before after =
      rw (above o key e.0 (before 0 e (omega arith)))
      (ap one_further (seek_gap key es i (omega arith) (λ j d lt. before (suc j) d (omega arith)) (λ j d ge lt. after (suc j) d (omega arith) (omega arith))))

  pub found : (key : K) (es : List (K × X)) → IsStrictlySortedBy R (keys_of es) → (r : Result ℕ ℕ) → IsSearchInRange r (length es) → IsBinarySearchResult (λ p. R p.0 key) es r → r ≡ seek (R key) es
  found key es s (Ok i) within level = seek_hit key es i s within level
  found key es s (Err i) within parted =
      let parts = parted (searchable es s key) in
      seek_gap key es i within (λ j d lt. parts.0 j d (omega arith) lt) parts.1

-- ---- edits at an index

pub none_sorted : {K : Type 0} (R : K → K → Ordering) → IsStrictlySortedBy R []
unfolding IsStrictlySortedBy
none_sorted R = tt

pub sorted_remove : {K X : Type 0} (R : K → K → Ordering) (es : List (K × X)) (i : ℕ) → IsStrictlySortedBy R (keys_of es) → IsStrictlySortedBy R (keys_of (remove es i))
sorted_remove R es i s = to_sorted R _ (Pairwise-remove (λ x y. R x y ≡ Less) es i (from_sorted R _ s))

module _ {K X : Type 0} where
  pub set_value_is : (es : List (K × X)) (i : ℕ) (p : K × X) (w : X) → Some p ≡ slice_get es i → set es i (p.0, w) ≡ set_value_at es i w
  set_value_is [] i p w h = refl
  set_value_is (e ∷ es) zero p w h = ap (λ o. ((unwrap_or o p).0, w) ∷ es) h
  set_value_is (e ∷ es) (suc i) p w h = ap (λ rest. e ∷ rest) (set_value_is es i p w h)

  pub value_is : (es : List (K × X)) (i : ℕ) (p : K × X) → Some p ≡ slice_get es i → Some p.1 ≡ slice_get (values_of es) i
  value_is [] i p h = absurd (true≢false (ap is_some h))
  value_is (e ∷ es) zero p h = ap (option_map (λ p. p.1)) h
  value_is (e ∷ es) (suc i) p h = value_is es i p h

  pub value_is_none : (es : List (K × X)) (i : ℕ) → None ≡ slice_get es i → None ≡ slice_get (values_of es) i
  value_is_none [] i h = refl
  value_is_none (e ∷ es) zero h = absurd (true≢false (sym (ap is_some h)))
  value_is_none (e ∷ es) (suc i) h = value_is_none es i h

  pub set_no_value : (es : List (K × X)) (i : ℕ) (w : X) → None ≡ slice_get es i → es ≡ set_value_at es i w
  set_no_value [] i w h = refl
  set_no_value (e ∷ es) zero w h = absurd (true≢false (sym (ap is_some h)))
  set_no_value (e ∷ es) (suc i) w h = ap (λ rest. e ∷ rest) (set_no_value es i w h)

-- what is read at an index is among the items
pub read_among : {X : Type 0} (xs : List X) (i : ℕ) (o : Option (Bor X)) → option_copied o ≡ slice_get xs i → IfSome o (λ x. IsAmong xs x.now)
read_among xs i None h = tt
read_among xs i (Some x) h = among_at xs i x.now (sym h)

pub not_none : {X : Type 0} (P : Type 0) (o : Option X) → is_some o ≡ true → IfNone o P
not_none P None h = absurd (true≢false (sym h))
not_none P (Some x) h = tt
