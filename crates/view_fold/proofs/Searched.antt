-- Whether a search among keys in order, of which some may tie, meets one.
use Rattle.std.proofs.Common.{◌≡◌, ℕ, true, false, List, Result, Ok, Err, get_or, length, inl, inr, sym, ap, ◌∙◌, arith}
use Rattle.std.specs.Cmp.{IsTotalOrder, tied_back}
use Rattle.std.specs.List.{list_any}
use Rattle.std.specs.List.Sorted.{IsBinarySearchResult, IsSearchInRange}
use Rattle.std.specs.Ordering.{eq_by_cmp, is_eq, ordering_reverse}
use Rattle.std.specs.Result.{is_ok}
use Rattle.std.specs.declared.cmp.Ordering.{Ordering}
use Rattle.std.specs.declared.cmp.Ordering.TheVariants.{Less, Greater}
use Rattle.std.proofs.lemmas.Bool.{cases_lt}
use Rattle.std.proofs.lemmas.List.Folds.{list_any_at, list_any_none}
use Rattle.std.proofs.lemmas.List.Sorted.{searchable_from_sorted}
use Rattle.mesh_base.proofs.Places.{searched}
use Rattle.mesh_base.specs.Places.{IsGap, IsHit}
use Rattle.view_fold.specs.Sorted.{AreSorted}

module _ {K : Type 0} {R : K → K → Ordering} (o : IsTotalOrder R) (k : K) (keys : List K) where
  hit_is : (i : ℕ) → IsHit (λ x. R x k) keys i → list_any (eq_by_cmp R k) keys ≡ true
  hit_is i hit = list_any_at (eq_by_cmp R k) keys i k hit.within (ap is_eq (tied_back o _ k (hit.level k)))

  apart : (x : K) → R x k ≡ Less → eq_by_cmp R k x ≡ false
  apart x lt = ap is_eq (o.antisymm k x ∙ ap ordering_reverse lt)

  apart_above : (x : K) → R x k ≡ Greater → eq_by_cmp R k x ≡ false
  apart_above x gt = ap is_eq (o.antisymm k x ∙ ap ordering_reverse gt)

  gap_is : (i : ℕ) → IsGap (λ x. R x k) keys i → list_any (eq_by_cmp R k) keys ≡ false
  gap_is i gap = list_any_none (eq_by_cmp R k) keys (λ j d lt. elim (cases_lt j i) [
    | inl p ↦ apart (get_or keys j d) (gap.parts.0 j d (omega arith) p)
    | inr p ↦ apart_above (get_or keys j d) (gap.parts.1 j d p lt)
  ])

  pub by_result : (r : Result ℕ ℕ) → AreSorted R keys → IsSearchInRange r (length keys) → IsBinarySearchResult (λ x. R x k) keys r → is_ok r ≡ list_any (eq_by_cmp R k) keys
  by_result (Ok i) sorted within level = sym (hit_is i (searched (λ x. R x k) keys (searchable_from_sorted o (λ x. x) keys k sorted) (Ok i) within level).hit)
  by_result (Err i) sorted within parted = sym (gap_is i (searched (λ x. R x k) keys (searchable_from_sorted o (λ x. x) keys k sorted) (Err i) within parted).gap)
