-- Items kept once for each key: in order, each the first of its key, and none of the keys lost.
use Rattle.std.proofs.Common.{◌≡◌, ℕ, ◌<◌, true, false, cond, List, [], ◌∷◌, map, get_or, length, Some, inl, inr, refl, sym, ap, subst, ◌∙◌}
use lib.Dec.{T}
use Rattle.std.specs.List.{AllByRecursion}
use Rattle.std.specs.List as list
use Rattle.std.specs.List.Sorted.{IsStrictlySortedBy}
use Rattle.std.specs.FinMap as fin
use Rattle.std.specs.FinMap.{FinMap, IsAntisymmetric, entries, entries_sorted, entries-insert, find, from_entries, get-entries, get-from_entries, len-entries, len-empty, put, is_sorted}
use Rattle.std.specs.FinMap.Entries.{below_all, by_order}
use Rattle.std.specs.Ordering.{eq_by_cmp, is_eq}
use Rattle.std.specs.Cmp.{IsTotalOrder, tied_itself}
use Rattle.std.specs.declared.cmp.Ordering.{Ordering}
use Rattle.std.specs.declared.cmp.Ordering.TheVariants.{Less, Equal, Greater}
use Rattle.mesh_base.specs.Keyed.{keyed, IsKeyed}
use Rattle.mesh_base.proofs.Keyed.{find_hit}
use Rattle.std.proofs.lemmas.List.{get_or_default, nil_from_length}
use Rattle.view_rules.specs.InOrder.{in_order_by}
use Rattle.view_rules.proofs.Among.{Among, among_map, contained, from_map}
use Rattle.view_rules.proofs.Entries.{equal, first, less, second}

module _ {X K : Type 0} {R : K → K → Ordering} (o : IsTotalOrder R) (same : IsAntisymmetric R) (key : X → K) where
  -- each entry stands at its item's own key
  Fits : List (K × X) → Type 0
  Fits es = es ≡ keyed R key (λ x. x) (map (λ (e : K × X). e.1) es)

  put_fits : (x : X) (es : List (K × X)) → Fits es → Fits (put R (key x) x es)
  unfolding Fits
  put_fits x [] h = refl
  put_fits x (e ∷ es) h =
      let at : e.0 ≡ key e.1 = cc h in
      elim (R (key x) e.0) as (λ r. R (key x) e.0 ≡ r → Fits (by_order r ((key x, x) ∷ e ∷ es) ((e.0, x) ∷ es) (e ∷ put R (key x) x es))) [
        | Less ↦ λ t. ap (λ es. (key x, x) ∷ es) h
        | Equal ↦ λ t. cc (h, same (key x) e.0 t)
        | Greater ↦ λ t. cc (h, put_fits x es (cc h))
      ] refl

  entries_fit : (xs : List X) → Fits (entries (from_entries {R = R} (keyed R key (λ x. x) xs)))
  unfolding Fits
  entries_fit [] = subst Fits (sym (nil_from_length (entries {R = R} fin.empty) (sym (len-entries fin.empty) ∙ len-empty R X))) refl
  entries_fit (x ∷ xs) = subst Fits (sym (entries-insert o (from_entries (keyed R key (λ x. x) xs)) (key x) x)) (put_fits x _ (entries_fit xs))

  below : (x : X) (xs : List X) → T (below_all R (key x) (keyed R key (λ x. x) xs)) → AllByRecursion (λ k. R (key x) k ≡ Less) (map key xs)
  below x [] h = tt
  below x (y ∷ ys) h = (less _ (first _ _ h), below x ys (second _ _ h))

  pub keys_rise : (xs : List X) → IsKeyed R key (λ x. x) xs → IsStrictlySortedBy R (map key xs)
  unfolding IsStrictlySortedBy
  keys_rise [] h = tt
  keys_rise (x ∷ xs) h = (below x xs (first _ _ h), keys_rise xs (second _ _ h))

  -- the first item at a key, by the list alone
  found_items : (xs : List X) (k : K) → find R k (keyed R key (λ x. x) xs) ≡ list.find (λ x. eq_by_cmp R k (key x)) xs
  found_items [] k = refl
  found_items (x ∷ xs) k = ap (cond (eq_by_cmp R k (key x)) (Some x)) (found_items xs k)

  -- an item's key is found in a list that holds it
  is_found : (xs : List X) (x : X) → Among x xs → (y : X) × (list.find (λ z. eq_by_cmp R (key x) (key z)) xs ≡ Some y)
  is_found [] x h = absurd h
  is_found (z ∷ zs) x h = elim h [
    | inl e ↦ (z, rw (ap (λ y. is_eq (R (key x) (key y))) e ∙ ap is_eq (tied_itself o (key x))) refl)
    | inr r ↦ let rest = is_found zs x r in
        elim (eq_by_cmp R (key x) (key z)) as (λ b. (y : X) × (cond b (Some z) (list.find (λ z. eq_by_cmp R (key x) (key z)) zs) ≡ Some y)) [ true ↦ (z, refl) | false ↦ rest ]
  ]

  -- and what is found is an item of the key
  found_is : (xs : List X) (k : K) (y : X) → list.find (λ z. eq_by_cmp R k (key z)) xs ≡ Some y → Among y xs × (k ≡ key y)
  found_is [] k y e = absurd (cc e)
  found_is (z ∷ zs) k y e =
      elim (eq_by_cmp R k (key z)) as (λ b. eq_by_cmp R k (key z) ≡ b → cond b (Some z) (list.find (λ z. eq_by_cmp R k (key z)) zs) ≡ Some y → Among y (z ∷ zs) × (k ≡ key y)) [
        | true ↦ λ t e. let is : z ≡ y = cc e in (inl is, same k (key z) (equal _ t) ∙ ap key is)
        | false ↦ λ t e. let rest = found_is zs k y e in (inr rest.0, rest.1)
      ] refl e

  module _ (xs : List X) where
    m : FinMap R X
    m = from_entries (keyed R key (λ x. x) xs)

    once : List X
    once = fin.values m

    kept_keyed : IsKeyed R key (λ x. x) once
    unfolding once m Fits
    kept_keyed = subst (λ es. T (is_sorted R es)) (entries_fit xs) (entries_sorted m)

    found_alike : (k : K) → list.find (λ z. eq_by_cmp R k (key z)) once ≡ list.find (λ z. eq_by_cmp R k (key z)) xs
    unfolding once m Fits
    found_alike k = sym (found_items once k) ∙ ap (find R k) (sym (entries_fit xs)) ∙ sym (get-entries m k) ∙ get-from_entries o (keyed R key (λ x. x) xs) k ∙ found_items xs k

    -- each item that is kept is the first of its key
    at_first : (k : ℕ) (d : X) → k < length once → list.find (λ z. eq_by_cmp R (key (get_or once k d)) (key z)) xs ≡ Some (get_or once k d)
    at_first k d lt =
        let e = λ (d' : X). ap (λ x. R (key x) (key (get_or once k d))) (get_or_default once k d' d lt) ∙ tied_itself o (key (get_or once k d)) in
        sym (found_alike (key (get_or once k d))) ∙ sym (found_items once (key (get_or once k d))) ∙ find_hit o same key (λ x. x) once kept_keyed k (key (get_or once k d)) d lt e

    key_kept : (x : X) → Among x xs → Among (key x) (map key once)
    key_kept x h =
        let found = is_found xs x h in
        let kept = found_is once (key x) found.0 (found_alike (key x) ∙ found.1) in
        subst (λ k. Among k (map key once)) (sym kept.1) (among_map key once found.0 kept.0)

    -- and each key that is kept is that of an item
    key_from : (k : K) → Among k (map key once) → Among k (map key xs)
    key_from k h =
        let at = from_map key once k h in
        let kept = is_found once at.0 at.1 in
        let found = found_is xs (key at.0) kept.0 (sym (found_alike (key at.0)) ∙ kept.1) in
        subst (λ k. Among k (map key xs)) (sym found.1 ∙ at.2) (among_map key xs kept.0 found.0)

    -- ---- the same, of the definition

    pub order_rises : IsStrictlySortedBy R (map key (in_order_by R key xs))
    unfolding once m
    order_rises = keys_rise once kept_keyed

    pub order_is_first : (k : ℕ) (d : X) → k < length (in_order_by R key xs) → list.find (λ z. eq_by_cmp R (key (get_or (in_order_by R key xs) k d)) (key z)) xs ≡ Some (get_or (in_order_by R key xs) k d)
    unfolding once m
    order_is_first = at_first

    pub order_keeps : (x : X) → Among x xs → Among (key x) (map key (in_order_by R key xs))
    unfolding once m
    order_keeps = key_kept

    pub order_has_key : (k : K) → Among k (map key (in_order_by R key xs)) → Among k (map key xs)
    unfolding once m
    order_has_key = key_from

    pub order_has : (x : X) → Among x (in_order_by R key xs) → Among x xs
    order_has x h =
        let at = contained (in_order_by R key xs) x h in
        subst (λ x. Among x xs) at.2 (found_is xs _ _ (order_is_first at.0 x at.1)).0
