-- The place of an id in a list that rises, as the ids beside it tell.
use Rattle.std.proofs.Common.{◌≡◌, ◌<◌, ◌≤◌, ◌-◌, ℕ, List, Ordering, get_or, length, refl, subst, arith}
use Rattle.std.specs.List.{AllWithin, HoldsAt}
use Rattle.std.specs.List.Sorted.{IsNonDecreasingBy}
use Rattle.std.specs.Ordering.{ordering_index}
use Rattle.std.specs.declared.cmp.Ordering.TheVariants.{Less, Equal, Greater}
use Rattle.mesh_base.proofs.Keyed.{searchable}
use Rattle.mesh_base.specs.declared.sub_id.SubId.{SubId}
use Rattle.subscriptions.specs.DueIds.{Rises, id_cmp}
use Rattle.subscriptions.proofs.DueIds.{ids_exact, ids_total}

lowest : (r : Ordering) → ordering_index r ≤ 0 → r ≡ Less
lowest Less le = refl
lowest Equal le = absurd (omega (arith, le))
lowest Greater le = absurd (omega (arith, le))

highest : (r : Ordering) → 2 ≤ ordering_index r → r ≡ Greater
highest Less le = absurd (omega (arith, le))
highest Equal le = absurd (omega (arith, le))
highest Greater le = refl

module _ (ids : List SubId) (h : Rises ids) (id : SubId) (i : ℕ) where
  rank_rises : IsNonDecreasingBy (λ other. ordering_index (id_cmp other id)) ids
  rank_rises = searchable ids_total ids_exact (λ id. id) (λ id. id) ids h id

  -- the ids before an index are below an id where the last of them is
  pub all_below : 0 < i → i - 1 < length ids → HoldsAt (λ other. id_cmp other id ≡ Less) ids (i - 1) → AllWithin (λ other. id_cmp other id ≡ Less) ids 0 i
  all_below some lt at k d low high =
      let le : k ≤ i - 1 = omega (arith, some, high) in
      lowest (id_cmp (get_or ids k d) id) (subst (λ (r : Ordering). ordering_index (id_cmp (get_or ids k d) id) ≤ ordering_index r) (at d) (rank_rises k (i - 1) d le lt))

  -- the ids from an index on are above an id where the first of them is
  pub all_above : HoldsAt (λ other. id_cmp other id ≡ Greater) ids i → AllWithin (λ other. id_cmp other id ≡ Greater) ids i (length ids)
  all_above at k d low high = highest (id_cmp (get_or ids k d) id) (subst (λ (r : Ordering). ordering_index r ≤ ordering_index (id_cmp (get_or ids k d) id)) (at d) (rank_rises i k d low high))
