-- Items in lists that rise.
use Rattle.std.proofs.Common.{◌≡◌, ℕ, Bool, true, false, cond, not, ◌&&◌, ◌||◌, List, [], ◌∷◌, Some, None, Option, Ordering, refl, sym, ap, ◌∙◌}
use Rattle.std.specs.Cmp.{IsTotalOrder}
use Rattle.std.specs.FinMap as fin
use Rattle.std.specs.FinMap.{IsAntisymmetric, find, get-from_sorted, get-insert, get-remove}
use Rattle.std.specs.List.{insert, list_any, remove}
use Rattle.std.specs.Option.{is_some}
use Rattle.std.specs.Ordering.{eq_by_cmp, is_eq}
use Rattle.std.specs.declared.cmp.Ordering.TheVariants.{Less, Equal, Greater}
use Rattle.mesh_base.specs.Keyed.{IsKeyed, keyed, keyed_map}
use Rattle.mesh_base.specs.Places.{IsHit, IsGap}
use Rattle.mesh_base.proofs.Keyed.{get_gap, get_hit, inserted, inserted_sorted, removed, removed_sorted}

put_some : {K : Type 0} (b : Bool) (key : K) (o : Option K) → is_some (cond b (Some key) o) ≡ (b || is_some o)
put_some true key o = refl
put_some false key o = refl

take_some : {K : Type 0} (b : Bool) (o : Option K) → is_some (cond b None o) ≡ (not b && is_some o)
take_some true o = refl
take_some false o = refl

equal : (r : Ordering) → is_eq r ≡ true → r ≡ Equal
equal Less e = cc
equal Equal e = refl
equal Greater e = cc

module _ {K : Type 0} {cmp : K → K → Ordering} (total : IsTotalOrder cmp) (exact : IsAntisymmetric cmp) where
  abbrev has : K → List K → Bool
  has k keys = list_any (eq_by_cmp cmp k) keys

  abbrev Rises : List K → Type 0
  Rises keys = IsKeyed cmp (λ k. k) (λ k. k) keys

  abbrev as_map : List K → fin.FinMap cmp K
  as_map keys = keyed_map cmp (λ k. k) (λ k. k) keys

  found_is : (k : K) (keys : List K) → has k keys ≡ is_some (find cmp k (keyed cmp (λ k. k) (λ k. k) keys))
  found_is k [] = refl
  found_is k (x ∷ xs) = elim (eq_by_cmp cmp k x) as (λ b. (b || has k xs) ≡ is_some (cond b (Some x) (find cmp k (keyed cmp (λ k. k) (λ k. k) xs)))) [
    | true ↦ refl
    | false ↦ found_is k xs
  ]

  -- the keys of a list are those of its map
  pub has_is : (k : K) (keys : List K) → Rises keys → has k keys ≡ is_some (fin.get (as_map keys) k)
  has_is k keys h = found_is k keys ∙ ap is_some (sym (get-from_sorted cmp _ k h))

  module _ (keys : List K) (h : Rises keys) (key : K) (i : ℕ) where
    pub put_rises : IsGap (λ k. cmp k key) keys i → Rises (insert keys i key)
    put_rises gap = inserted_sorted total exact (λ k. k) (λ k. k) keys h key i gap.within gap.parts

    pub put_has : IsGap (λ k. cmp k key) keys i → (k : K) → has k (insert keys i key) ≡ (eq_by_cmp cmp k key || has k keys)
    put_has gap k =
        has_is k (insert keys i key) (put_rises gap)
        ∙ ap (λ m. is_some (fin.get m k)) (inserted total exact (λ k. k) (λ k. k) keys h key i gap.within gap.parts)
        ∙ ap is_some (get-insert total (as_map keys) key key k)
        ∙ put_some (eq_by_cmp cmp k key) key (fin.get (as_map keys) k)
        ∙ ap (λ b. eq_by_cmp cmp k key || b) (sym (has_is k keys h))

    pub take_rises : IsHit (λ k. cmp k key) keys i → Rises (remove keys i)
    take_rises hit = removed_sorted total exact (λ k. k) (λ k. k) keys h key i hit.within hit.level

    pub take_has : IsHit (λ k. cmp k key) keys i → (k : K) → has k (remove keys i) ≡ (not (eq_by_cmp cmp k key) && has k keys)
    take_has hit k =
        has_is k (remove keys i) (take_rises hit)
        ∙ ap (λ m. is_some (fin.get m k)) (removed total exact (λ k. k) (λ k. k) keys h key i hit.within hit.level)
        ∙ ap is_some (get-remove total (as_map keys) key k)
        ∙ take_some (eq_by_cmp cmp k key) (fin.get (as_map keys) k)
        ∙ ap (λ b. not (eq_by_cmp cmp k key) && b) (sym (has_is k keys h))

    had_tied : (k : K) → has key keys ≡ true → (b : Bool) → eq_by_cmp cmp k key ≡ b → has k keys ≡ (b || has k keys)
    had_tied k there false e = refl
    had_tied k there true e = ap (λ q. has q keys) (exact k key (equal _ e)) ∙ there

    pub there_has : IsHit (λ k. cmp k key) keys i → has key keys ≡ true
    there_has hit = has_is key keys h ∙ ap is_some (get_hit total exact (λ k. k) (λ k. k) keys h key i key hit)

    -- a key that is there already
    pub had_has : IsHit (λ k. cmp k key) keys i → (k : K) → has k keys ≡ (eq_by_cmp cmp k key || has k keys)
    had_has hit k = had_tied k (there_has hit) (eq_by_cmp cmp k key) refl

    gap_tied : (k : K) → has key keys ≡ false → (b : Bool) → eq_by_cmp cmp k key ≡ b → has k keys ≡ (not b && has k keys)
    gap_tied k none false e = refl
    gap_tied k none true e = ap (λ q. has q keys) (exact k key (equal _ e)) ∙ none

    pub lacks : IsGap (λ k. cmp k key) keys i → has key keys ≡ false
    lacks gap = has_is key keys h ∙ ap is_some (get_gap total exact (λ k. k) (λ k. k) keys h key i gap)

    -- a key that is not there
    pub lacks_has : IsGap (λ k. cmp k key) keys i → (k : K) → has k keys ≡ (not (eq_by_cmp cmp k key) && has k keys)
    lacks_has gap k = gap_tied k (lacks gap) (eq_by_cmp cmp k key) refl
