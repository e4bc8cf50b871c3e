-- Ids in lists that rise.
use Rattle.std.proofs.Common.{◌≡◌, ◌<◌, ℕ, Bool, true, false, not, ◌&&◌, ◌||◌, nat_eq, List, [], ◌∷◌, get_or, length, refl, sym, ap, ◌∙◌}
use Rattle.std.proofs.lemmas.Cmp.{nat_cmp_total, on_total}
use Rattle.std.proofs.lemmas.List.{get_or_default}
use Rattle.std.specs.Cmp.{IsTotalOrder, nat_cmp_is, unsigned_tied}
use Rattle.std.specs.FinMap.{IsAntisymmetric, nat_cmp-IsAntisymmetric}
use Rattle.std.specs.List.{insert, list_any, remove}
use Rattle.std.specs.Ordering.{eq_by_cmp}
use Rattle.std.specs.declared.cmp.Ordering.TheVariants.{Equal}
use Rattle.mesh_base.specs.Places.{IsHit, IsGap}
use Rattle.mesh_base.specs.declared.sub_id.SubId.{SubId}
use Rattle.key_lists.proofs.SortedLists as sorted
use Rattle.subscriptions.specs.DueIds.{Rises, id_cmp, is_among}

pub ids_total : IsTotalOrder id_cmp
ids_total = on_total (λ (id : SubId). id.0) nat_cmp_total

pub ids_exact : IsAntisymmetric id_cmp
ids_exact a b h = ap (λ (n : ℕ). record { 0 = n }) (nat_cmp-IsAntisymmetric a.0 b.0 h)

abbrev of_id : ℕ → SubId
of_id n = record { 0 = n }

same_any : {A : Type 0} (f g : A → Bool) → ((a : A) → f a ≡ g a) → (xs : List A) → list_any f xs ≡ list_any g xs
same_any f g same [] = refl
same_any f g same (x ∷ xs) = (λ i. same x i || same_any f g same xs i)

-- an id is among the ids as an item of a list that rises
among_is : (n : ℕ) (ids : List SubId) → is_among n ids ≡ list_any (eq_by_cmp id_cmp (of_id n)) ids
among_is n ids = same_any (λ (other : SubId). nat_eq n other.0) (eq_by_cmp id_cmp (of_id n)) (λ other. sym (unsigned_tied n other.0)) ids

module _ (ids : List SubId) (h : Rises ids) (id : SubId) (i : ℕ) where
  pub put_has : IsGap (λ k. id_cmp k id) ids i → (n : ℕ) → is_among n (insert ids i id) ≡ (nat_eq n id.0 || is_among n ids)
  put_has gap n = among_is n (insert ids i id) ∙ sorted.put_has ids_total ids_exact ids h id i gap (of_id n) ∙ ap (λ b. b || list_any (eq_by_cmp id_cmp (of_id n)) ids) (unsigned_tied n id.0) ∙ ap (λ b. nat_eq n id.0 || b) (sym (among_is n ids))

  pub take_has : IsHit (λ k. id_cmp k id) ids i → (n : ℕ) → is_among n (remove ids i) ≡ (not (nat_eq n id.0) && is_among n ids)
  take_has hit n = among_is n (remove ids i) ∙ sorted.take_has ids_total ids_exact ids h id i hit (of_id n) ∙ ap (λ b. not b && list_any (eq_by_cmp id_cmp (of_id n)) ids) (unsigned_tied n id.0) ∙ ap (λ b. not (nat_eq n id.0) && b) (sym (among_is n ids))

  pub had_has : IsHit (λ k. id_cmp k id) ids i → (n : ℕ) → is_among n ids ≡ (nat_eq n id.0 || is_among n ids)
  had_has hit n = among_is n ids ∙ sorted.had_has ids_total ids_exact ids h id i hit (of_id n) ∙ ap (λ b. b || list_any (eq_by_cmp id_cmp (of_id n)) ids) (unsigned_tied n id.0) ∙ ap (λ b. nat_eq n id.0 || b) (sym (among_is n ids))

  pub lacks_has : IsGap (λ k. id_cmp k id) ids i → (n : ℕ) → is_among n ids ≡ (not (nat_eq n id.0) && is_among n ids)
  lacks_has gap n = among_is n ids ∙ sorted.lacks_has ids_total ids_exact ids h id i gap (of_id n) ∙ ap (λ b. not b && list_any (eq_by_cmp id_cmp (of_id n)) ids) (unsigned_tied n id.0) ∙ ap (λ b. not (nat_eq n id.0) && b) (sym (among_is n ids))

  pub hit_is : IsHit (λ k. id_cmp k id) ids i → is_among id.0 ids ≡ true
  hit_is hit = among_is id.0 ids ∙ sorted.there_has ids_total ids_exact ids h id i hit

  pub gap_is : IsGap (λ k. id_cmp k id) ids i → is_among id.0 ids ≡ false
  gap_is gap = among_is id.0 ids ∙ sorted.lacks ids_total ids_exact ids h id i gap

-- without one of its ids a list rises still
pub fewer_rise : (ids : List SubId) → Rises ids → (i : ℕ) → i < length ids → Rises (remove ids i)
fewer_rise ids h i lt =
    let id = get_or ids i (of_id 0) in
    sorted.take_rises ids_total ids_exact ids h id i (record {
      within = lt;
      level = λ d. sym (nat_cmp_is (get_or ids i d).0 id.0 Equal (ap (λ (one : SubId). one.0) (get_or_default ids i d (of_id 0) lt)));
    })
