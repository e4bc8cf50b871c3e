-- Keys in a list that rises, parted where a kind ends.
use Rattle.std.proofs.Common.{◌≡◌, ℕ, suc, zero, ◌≤◌, Bool, true, false, not, ◌&&◌, leb, ltb, drop, take, List, [], ◌∷◌, Ordering, inl, inr, refl, sym, ap, subst, ◌∙◌, lt-ltb, arith}
use Rattle.std.specs.List.{AllByRecursion, filter}
use Rattle.std.specs.List.Sorted.{IsNonDecreasingBy, IsPartitionedBy, IsPartitionPoint}
use Rattle.std.specs.Ordering.{eq_by_cmp, is_eq, is_lt, nat_cmp, ordering_then}
use Rattle.std.proofs.lemmas.Bool.{cases_lt}
use Rattle.std.proofs.lemmas.Bool.Decides.{nat_tests}
use Rattle.std.proofs.lemmas.List.Elements.{All-from_all_within, recursion_from_All}
use Rattle.std.proofs.lemmas.List.Sorted.{IsNonDecreasingBy-from_all_adjacent, IsPartitionedBy-leb}
use Rattle.std.proofs.lemmas.Map.Views.{any-filter_same}
use Rattle.std.specs.declared.cmp.Ordering.TheVariants.{Less, Equal, Greater}
use Rattle.mesh_base.specs.KeyOrder.{key_cmp, kind_place}
use Rattle.mesh_base.specs.declared.key.Kind.{Kind}
use Rattle.mesh_base.specs.declared.key.ObjKey.{ObjKey}
use Rattle.mesh_base.proofs.Keyed.{filtered_sorted, in_order}
use Rattle.mesh_base.proofs.KeyOrder.{keys_exact, keys_total}
use Rattle.key_lists.specs.Keys.{has_key, is_after, Rises}

-- ---- a list cut where a test ends

module _ {X : Type 0} where
  all_pass : (p : X → Bool) (xs : List X) → AllByRecursion (λ x. p x ≡ true) xs → filter p xs ≡ xs
  all_pass p [] all = refl
  all_pass p (x ∷ xs) all = rw all.0 (ap (λ rest. x ∷ rest) (all_pass p xs all.1))

  none_pass : (p : X → Bool) (xs : List X) → AllByRecursion (λ x. p x ≡ false) xs → filter p xs ≡ []
  none_pass p [] all = refl
  none_pass p (x ∷ xs) all = rw all.0 (none_pass p xs all.1)

  others : (p : X → Bool) (xs : List X) → AllByRecursion (λ x. p x ≡ false) xs → AllByRecursion (λ x. not (p x) ≡ true) xs
  others p [] all = tt
  others p (x ∷ xs) all = (ap not all.0, others p xs all.1)

  -- from an end of a cut
  tail_parted : (p : X → Bool) (x : X) (xs : List X) (i : ℕ) → IsPartitionPoint (λ y. p y ≡ true) (λ y. p y ≡ false) (x ∷ xs) (suc i) → IsPartitionPoint (λ y. p y ≡ true) (λ y. p y ≡ false) xs i
  tail_parted p x xs i parted = (λ k d ge lt. parted.0 (suc k) d (omega arith) (omega arith), λ k d ge lt. parted.1 (suc k) d (omega arith) (omega arith))

  pub front : (p : X → Bool) (xs : List X) (i : ℕ) → IsPartitionPoint (λ x. p x ≡ true) (λ x. p x ≡ false) xs i → take i xs ≡ filter p xs
  front p xs zero parted = sym (none_pass p xs (recursion_from_All (λ x. p x ≡ false) xs (All-from_all_within (λ x. p x ≡ false) xs parted.1)))
  front p [] (suc i) parted = refl
  front p (x ∷ xs) (suc i) parted = rw (parted.0 0 x (omega arith) (omega arith)) (ap (λ rest. x ∷ rest) (front p xs i (tail_parted p x xs i parted)))

  pub back : (p : X → Bool) (xs : List X) (i : ℕ) → IsPartitionPoint (λ x. p x ≡ true) (λ x. p x ≡ false) xs i → drop i xs ≡ filter (λ x. not (p x)) xs
  back p xs zero parted = sym (all_pass (λ x. not (p x)) xs (others p xs (recursion_from_All (λ x. p x ≡ false) xs (All-from_all_within (λ x. p x ≡ false) xs parted.1))))
  back p [] (suc i) parted = refl
  back p (x ∷ xs) (suc i) parted = rw (parted.0 0 x (omega arith) (omega arith)) (back p xs i (tail_parted p x xs i parted))

pub not_not : (b : Bool) → not (not b) ≡ b
not_not true = refl
not_not false = refl

equal : (r : Ordering) → is_eq r ≡ true → r ≡ Equal
equal Less e = cc
equal Equal e = refl
equal Greater e = cc

-- kinds do not fall along the keys
pub kinds_rise : (a b : ℕ) (r : Ordering) → is_lt (ordering_then (nat_cmp b a) r) ≡ false → a ≤ b
kinds_rise a b r le = elim (cases_lt b a) [
  | inl lt ↦ let less : ltb b a ≡ true = lt-ltb b a lt in let no = rw less at le in cc
  | inr ge ↦ ge
]

module _ (keys : List ObjKey) (h : Rises keys) (kind : Kind) where
  kinds_in_order : IsNonDecreasingBy (λ k. kind_place k.kind) keys
  kinds_in_order = IsNonDecreasingBy-from_all_adjacent (λ k. kind_place k.kind) keys (λ k d lt. kinds_rise _ _ _ (in_order keys_total keys_exact (λ k. k) (λ k. k) keys h k d (omega arith) lt))

  not_after : (k : ObjKey) → leb (kind_place k.kind) (kind_place kind) ≡ not (is_after kind k)
  not_after k = grind (arith, nat_tests)

  pub parted : IsPartitionedBy (λ k. not (is_after kind k)) keys
  parted = subst (λ (p : ObjKey → Bool). IsPartitionedBy p keys) (λ i k. not_after k i) (IsPartitionedBy-leb (λ k. kind_place k.kind) keys (kind_place kind) kinds_in_order)

  pub back_after : (i : ℕ) → IsPartitionPoint (λ k. not (is_after kind k) ≡ true) (λ k. not (is_after kind k) ≡ false) keys i → drop i keys ≡ filter (is_after kind) keys
  back_after i at = back (λ k. not (is_after kind k)) keys i at ∙ (λ j. filter (λ k. not_not (is_after kind k) j) keys)

-- the keys that pass a test
module _ (p : ObjKey → Bool) (keys : List ObjKey) where
  pub filtered_rises : Rises keys → Rises (filter p keys)
  filtered_rises h = filtered_sorted keys_total keys_exact (λ k. k) (λ k. k) p keys h

  pub filtered_has : (k : ObjKey) → has_key k (filter p keys) ≡ (p k && has_key k keys)
  filtered_has k = any-filter_same (eq_by_cmp key_cmp k) p (p k) (λ j same. ap p (sym (keys_exact k j (equal _ same)))) keys
