-- Where a key belongs, by the answers of an item and the next one, in a list whose answers rise.
use Rattle.std.proofs.Common.{◌≡◌, ℕ, ◌+◌, ◌<◌, ◌≤◌, List, length, option_map, slice_get, Some, None, Ordering, inl, inr, sym, ap, ◌∙◌, arith}
use Rattle.std.specs.List.{HoldsAt}
use Rattle.std.specs.List.Sorted.{IsNonDecreasingBy}
use Rattle.std.specs.Ordering.{ordering_index}
use Rattle.std.specs.declared.cmp.Ordering.TheVariants.{Less, Greater}
use Rattle.std.proofs.lemmas.Option.{none-some, same_Some, slice_get_cases, slice_get-get_or}
use Rattle.chunked_list.proofs.Search.{all_above, all_below}
use Rattle.mesh_base.specs.Places.{IsGap}

module _ {X : Type 0} (rank : X → Ordering) (xs : List X) where
  shown : (i : ℕ) (r : Ordering) → option_map rank (slice_get xs i) ≡ Some r → (i < length xs) × HoldsAt (λ x. rank x ≡ r) xs i
  shown i r is = elim (slice_get_cases xs i).1 [
    | inl (x, lt, some, at) ↦ (lt, λ d. same_Some _ _ (sym (ap (option_map rank) (slice_get-get_or xs i d lt)) ∙ is))
    | inr (le, none) ↦ absurd (none-some r (sym (ap (option_map rank) none) ∙ is))
  ]

  past : (i : ℕ) → option_map rank (slice_get xs i) ≡ None → length xs ≤ i
  past i is = elim (slice_get_cases xs i).1 [
    | inl (x, lt, some, at) ↦ absurd (none-some (rank x) (sym is ∙ ap (option_map rank) some))
    | inr (le, none) ↦ le
  ]

  module _ (rises : IsNonDecreasingBy (λ x. ordering_index (rank x)) xs) where
    pub before_all : option_map rank (slice_get xs 0) ≡ Some Greater → IsGap rank xs 0
    before_all is = record { within = omega arith; parts = (λ k d low below. absurd (omega (arith, below)), all_above rank xs rises 0 (shown 0 Greater is).1) }

    module _ (i next : ℕ) (near : next ≤ i + 1) (less : option_map rank (slice_get xs i) ≡ Some Less) where
      pub between : option_map rank (slice_get xs next) ≡ Some Greater → IsGap rank xs next
      between is =
          let low = shown i Less less in
          let high = shown next Greater is in
          record { within = omega (arith, high.0); parts = (all_below rank xs rises i next low.0 (omega (arith, near)) low.1, all_above rank xs rises next high.1) }

      pub after_all : option_map rank (slice_get xs next) ≡ None → IsGap rank xs next
      after_all is =
          let low = shown i Less less in
          let end = past next is in
          record { within = omega (arith, near, low.0); parts = (all_below rank xs rises i next low.0 (omega (arith, near)) low.1, λ k d from below. absurd (omega (arith, end, from, below))) }
