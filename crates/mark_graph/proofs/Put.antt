-- The rows of marks that are in no set.
use Rattle.std.proofs.Common.{◌≡◌, Bool, true, false, ◌&&◌, not, List, refl, sym, ap, ◌∙◌}
use Rattle.std.specs.Cmp.{IsTotalOrder, eq_by_cmp_equiv}
use Rattle.std.specs.List.{list_any}
use Rattle.std.proofs.lemmas.Map.Steps.{list_any_congr}
use Rattle.std.specs.Ordering.{eq_by_cmp}
use Rattle.std.specs.declared.cmp.Ordering.{Ordering}

module _ {M : Type 0} (cmp : M → M → Ordering) (total : IsTotalOrder cmp) where
  -- a row at a mark that is in no set
  pub in_no_set : (keys : List M) (mark m : M) (here : Bool) → list_any (eq_by_cmp cmp mark) keys ≡ false → (eq_by_cmp cmp mark m && here) ≡ ((eq_by_cmp cmp m mark && not (list_any (eq_by_cmp cmp m) keys)) && here)
  in_no_set keys mark m here lacks = split (eq_by_cmp cmp m mark) refl
    where
      split : (b : Bool) → eq_by_cmp cmp m mark ≡ b → (eq_by_cmp cmp mark m && here) ≡ ((eq_by_cmp cmp m mark && not (list_any (eq_by_cmp cmp m) keys)) && here)
      split true e =
          ap (λ b. b && here) ((eq_by_cmp_equiv total).symm mark m ∙ e)
          ∙ sym (λ i. (e i && not ((list_any_congr (eq_by_cmp_equiv total) m mark keys e ∙ lacks) i)) && here)
      split false e = ap (λ b. b && here) ((eq_by_cmp_equiv total).symm mark m ∙ e) ∙ sym (ap (λ b. (b && not (list_any (eq_by_cmp cmp m) keys)) && here) e)
