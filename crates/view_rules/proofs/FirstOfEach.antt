-- A stable sort by key, of which the first item at each key is kept, gives the map of the items by their keys.
use Rattle.std.proofs.Common.{◌≡◌, Bool, true, false, cond, not, ◌&&◌, List, [], ◌∷◌, Some, None, Option, refl, sym, ap, subst, ◌∙◌}
use lib.Dec.{T}
use Rattle.std.specs.List.{dedup, dedup_from, filter, AllByRecursion}
use Rattle.std.specs.List.Sorted.{IsSorted, IsStable, IsStrictlySortedBy, ties}
use Rattle.std.specs.FinMap as fin
use Rattle.std.specs.FinMap.{IsAntisymmetric, find, from_entries, get-from_entries, get-from_sorted, same_map}
use Rattle.std.specs.FinMap.Entries.{below_all}
use Rattle.std.specs.Ordering.{eq_by_cmp, is_eq, is_lt, ordering_reverse}
use Rattle.std.specs.Cmp.{IsTotalOrder}
use Rattle.std.specs.declared.cmp.Ordering.{Ordering}
use Rattle.std.specs.declared.cmp.Ordering.TheVariants.{Less, Equal, Greater}
use Rattle.std.proofs.lemmas.Cmp.{on_total}
use Rattle.std.proofs.lemmas.List.Kept.{IsStrictlySortedBy-dedup}
use Rattle.mesh_base.specs.Keyed.{keyed, IsKeyed, keyed_map}
use Rattle.mesh_base.proofs.Keyed.{items_are_values}

equal : (r : Ordering) → is_eq r ≡ true → r ≡ Equal
equal Less e = cc
equal Equal e = refl
equal Greater e = cc

both : (a b : Bool) → T a → T b → T (a && b)
both true b p q = q
both false b p q = p

neither_less : (r s : Ordering) → s ≡ ordering_reverse r → not (is_lt r) && not (is_lt s) ≡ is_eq r
neither_less Less s e = refl
neither_less Equal s e = ap (λ o. not (is_lt o)) e
neither_less Greater s e = ap (λ o. not (is_lt o)) e

abbrev first_of : {X : Type 0} → List X → Option X
first_of [] = None
first_of (x ∷ xs) = Some x

first_of-cond : {X : Type 0} (b : Bool) (x : X) (xs : List X) → cond b (Some x) (first_of xs) ≡ first_of (cond b (x ∷ xs) xs)
first_of-cond true x xs = refl
first_of-cond false x xs = refl

shadowed : {X : Type 0} (b : Bool) (x y : X) (rest : Option X) → cond b (Some x) rest ≡ cond b (Some x) (cond b (Some y) rest)
shadowed true x y rest = refl
shadowed false x y rest = refl

module _ {X K : Type 0} {R : K → K → Ordering} (o : IsTotalOrder R) (same : IsAntisymmetric R) (key : X → K) where
  abbrev by_key : X → X → Ordering
  by_key a b = R (key a) (key b)

  abbrev same_key : X → X → Bool
  same_key a b = is_eq (by_key a b)

  tied : (a b : X) → ties (λ x y. is_lt (by_key x y)) a b ≡ same_key a b
  tied a b = neither_less (by_key a b) (by_key b a) (o.antisymm (key b) (key a))

  -- the first item at a key
  found_first : (x : X) (xs : List X) → find R (key x) (keyed R key (λ z. z) xs) ≡ first_of (filter (ties (λ a b. is_lt (by_key a b)) x) xs)
  found_first x [] = refl
  found_first x (y ∷ ys) =
      let rest = filter (ties (λ a b. is_lt (by_key a b)) x) ys in
      ap (cond (same_key x y) (Some y)) (found_first x ys) ∙ first_of-cond (same_key x y) y rest ∙ ap (λ b. first_of (cond b (y ∷ rest) rest)) (sym (tied x y))

  -- to leave out those with the key of the last one kept hides nothing
  found_from : (k : X) (xs : List X) (q : K) → find R q (keyed R key (λ z. z) (dedup_from same_key k xs)) ≡ find R q (keyed R key (λ z. z) (k ∷ xs))
  found_from k [] q = refl
  found_from k (x ∷ xs) q =
      elim (same_key x k) as (λ b. same_key x k ≡ b → find R q (keyed R key (λ z. z) (cond b (dedup_from same_key k xs) (k ∷ dedup_from same_key x xs))) ≡ find R q (keyed R key (λ z. z) (k ∷ x ∷ xs))) [
        | true ↦ λ e.
            let rest = find R q (keyed R key (λ z. z) xs) in
            found_from k xs q ∙ shadowed (eq_by_cmp R q (key k)) k x rest
            ∙ ap (λ c. cond (eq_by_cmp R q (key k)) (Some k) (cond (eq_by_cmp R q c) (Some x) rest)) (sym (same (key x) (key k) (equal _ e)))
        | false ↦ λ e. ap (cond (eq_by_cmp R q (key k)) (Some k)) (found_from x xs q)
      ] refl

  found_once : (xs : List X) (q : K) → find R q (keyed R key (λ z. z) (dedup same_key xs)) ≡ find R q (keyed R key (λ z. z) xs)
  found_once [] q = refl
  found_once (x ∷ xs) q = found_from x xs q

  below : (x : X) (xs : List X) → AllByRecursion (λ y. by_key x y ≡ Less) xs → T (below_all R (key x) (keyed R key (λ z. z) xs))
  below x [] h = tt
  below x (y ∷ ys) h = both _ _ (subst (λ r. T (is_lt r)) (sym h.0) tt) (below x ys h.1)

  strictly_keyed : (xs : List X) → IsStrictlySortedBy by_key xs → IsKeyed R key (λ z. z) xs
  unfolding IsStrictlySortedBy
  strictly_keyed [] h = tt
  strictly_keyed (x ∷ xs) h = both _ _ (below x xs h.0) (strictly_keyed xs h.1)

  once_keyed : (xs : List X) → IsSorted by_key xs → IsKeyed R key (λ z. z) (dedup same_key xs)
  once_keyed xs sorted = strictly_keyed _ (IsStrictlySortedBy-dedup (on_total key o) (λ x y. refl) xs sorted)

  -- what is found at a key has that key
  found_key : (q : K) (xs : List X) (x : X) → find R q (keyed R key (λ z. z) xs) ≡ Some x → q ≡ key x
  found_key q [] x e = absurd (cc e)
  found_key q (z ∷ zs) x e =
      elim (eq_by_cmp R q (key z)) as (λ b. eq_by_cmp R q (key z) ≡ b → cond b (Some z) (find R q (keyed R key (λ z. z) zs)) ≡ Some x → q ≡ key x) [
        | true ↦ λ t e. let is : z ≡ x = cc e in same q (key z) (equal _ t) ∙ ap key is
        | false ↦ λ t e. found_key q zs x e
      ] refl e

  module _ (xs ys : List X) (stable : IsStable by_key xs ys) where
    found_of : (x : X) (q : K) → q ≡ key x → find R q (keyed R key (λ z. z) ys) ≡ find R q (keyed R key (λ z. z) xs)
    found_of x q e =
        subst (λ k. find R k (keyed R key (λ z. z) ys) ≡ find R k (keyed R key (λ z. z) xs)) (sym e)
        (found_first x ys ∙ ap first_of (stable x) ∙ sym (found_first x xs))

    -- sorted or not, the same is found
    found_sorted : (q : K) → find R q (keyed R key (λ z. z) ys) ≡ find R q (keyed R key (λ z. z) xs)
    found_sorted q =
        let after = find R q (keyed R key (λ z. z) ys) in
        let before = find R q (keyed R key (λ z. z) xs) in
        elim after as (λ found. after ≡ found → after ≡ before) [
          | Some x ↦ λ e. found_of x q (found_key q ys x e)
          | None ↦ λ e. elim before as (λ found. before ≡ found → after ≡ before) [ Some x ↦ λ t. found_of x q (found_key q xs x t) | None ↦ λ t. e ∙ sym t ] refl
        ] refl

  pub first_of_each : (xs ys : List X) → IsSorted by_key ys → IsStable by_key xs ys → dedup same_key ys ≡ fin.values (from_entries {R = R} (keyed R key (λ z. z) xs))
  first_of_each xs ys sorted stable =
      let keys = once_keyed ys sorted in
      sym (items_are_values R key (dedup same_key ys) keys)
      ∙ ap fin.values (same_map o same (keyed_map R key (λ z. z) (dedup same_key ys)) (from_entries (keyed R key (λ z. z) xs))
      (λ q. get-from_sorted R _ q keys ∙ found_once ys q ∙ found_sorted xs ys stable q ∙ sym (get-from_entries o (keyed R key (λ z. z) xs) q)))
