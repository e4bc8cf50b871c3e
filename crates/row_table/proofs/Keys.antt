-- Keys that are equal by their order are the same, and lists of keys.
use Rattle.std.proofs.Common.{◌≡◌, ◌⊎◌, inl, inr, Bool, true, false, ◌||◌, List, [], ◌∷◌, ◌++◌, refl, sym, subst, ◌∙◌}
use Rattle.std.specs.Cmp.{Equal-is, IsTotalOrder, tied_itself}
use Rattle.std.specs.FinMap.{IsAntisymmetric}
use Rattle.std.specs.List.{AllByRecursion, IsDistinct}
use Rattle.std.specs.Ordering.{eq_by_cmp}
use Rattle.std.specs.declared.cmp.Ordering.{Ordering}
use Rattle.std.proofs.lemmas.Bool.{false≢true, or_parts}
use Rattle.std.proofs.lemmas.List.Folds.{list_any-append}
use Rattle.row_table.specs.IndexRows.{has_key}

module _ {Key : Type 0} (cmp : Key → Key → Ordering) (total : IsTotalOrder cmp) (exact : IsAntisymmetric cmp) where
  pub is_same : (a b : Key) → eq_by_cmp cmp a b ≡ true → a ≡ b
  is_same a b e = exact a b ((Equal-is (cmp a b)).0 e)

  pub is_itself : (a : Key) → eq_by_cmp cmp a a ≡ true
  is_itself a = (Equal-is (cmp a a)).1 (tied_itself total a)

  pub is_same_back : (a b : Key) → a ≡ b → eq_by_cmp cmp a b ≡ true
  is_same_back a b e = subst (λ (k : Key). eq_by_cmp cmp a k ≡ true) e (is_itself a)

  -- the test tells equality
  pub tells : (a b : Key) → ((eq_by_cmp cmp a b ≡ true) × (a ≡ b)) ⊎ ((eq_by_cmp cmp a b ≡ false) × (a ≡ b → ⊥))
  tells a b = by (eq_by_cmp cmp a b) refl
    where
      by : (t : Bool) → eq_by_cmp cmp a b ≡ t → ((eq_by_cmp cmp a b ≡ true) × (a ≡ b)) ⊎ ((eq_by_cmp cmp a b ≡ false) × (a ≡ b → ⊥))
      by true e = inl (e, is_same a b e)
      by false e = inr (e, λ same. false≢true (sym e ∙ is_same_back a b same))

  pub is_other : (a b : Key) → (a ≡ b → ⊥) → eq_by_cmp cmp a b ≡ false
  is_other a b ne = elim (tells a b) [ inl same ↦ absurd (ne same.1) | inr apart ↦ apart.0 ]

  -- whichever is compared to the other
  pub flipped : (a b : Key) → eq_by_cmp cmp a b ≡ eq_by_cmp cmp b a
  flipped a b = elim (tells b a) [
    | inl same ↦ is_same_back a b (sym same.1) ∙ sym same.0
    | inr apart ↦ is_other a b (λ e. apart.1 (sym e)) ∙ sym apart.0
  ]

  pub turned : (a b : Key) → eq_by_cmp cmp a b ≡ false → eq_by_cmp cmp b a ≡ false
  turned a b e = is_other b a (λ same. false≢true (sym e ∙ is_same_back a b (sym same)))

  -- ---- distinct keys, and one more that isn't among them

  all_more : (x : Key) (keys : List Key) (key : Key) → AllByRecursion (λ k. eq_by_cmp cmp x k ≡ false) keys → eq_by_cmp cmp x key ≡ false → AllByRecursion (λ k. eq_by_cmp cmp x k ≡ false) (keys ++ key ∷ [])
  all_more x [] key all e = (e, tt)
  all_more x (k ∷ keys) key all e = (all.0, all_more x keys key all.1 e)

  pub distinct_more : (keys : List Key) (key : Key) → IsDistinct (eq_by_cmp cmp) keys → has_key cmp keys key ≡ false → IsDistinct (eq_by_cmp cmp) (keys ++ key ∷ [])
  unfolding IsDistinct
  distinct_more [] key once e = (tt, tt)
  distinct_more (k ∷ keys) key once e = (all_more k keys key once.0 (turned key k (or_parts _ _ e).0), distinct_more keys key once.1 (or_parts _ _ e).1)

  pub distinct_none : IsDistinct (eq_by_cmp cmp) []
  unfolding IsDistinct
  distinct_none = tt

pub has_more : {Key : Type 0} (cmp : Key → Key → Ordering) (keys added : List Key) (key : Key) → has_key cmp (keys ++ added) key ≡ (has_key cmp keys key || has_key cmp added key)
has_more cmp keys added key = list_any-append (eq_by_cmp cmp key) keys added
