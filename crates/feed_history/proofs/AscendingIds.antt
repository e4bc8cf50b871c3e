-- The ids of the entries of a list ascend, up to the greatest accepted id.
--
-- For subscriptions, and for a command that accepts ascending ids for entries of another type.
use Rattle.std.proofs.Common.{◌≡◌, ℕ, ◌<◌, ◌≤◌, Bool, true, false, cond, eqb, List, [], ◌∷◌, ◌++◌, Option, Some, None, refl, sym, ap, subst, arith}
use Rattle.std.specs.Prelude.{nat_lt, if◌then◌else◌}
use Rattle.std.specs.List.{AllByRecursion}
use Rattle.std.proofs.lemmas.Bool.{ltb-true}
use Rattle.feed_history.specs.declared.refusal.HubFault.{HubFault}
use Rattle.feed_history.specs.declared.refusal.HubFault.TheVariants.{IdOrder}
use Rattle.feed_history.specs.Ids.{AscendBy, at_id, in_place, room_refusal, subscribe_refusal}
use Rattle.feed_history.proofs.EntriesById.{KeepsIds, all_in_place, ascend_in_place, found_with, none_found, others_below}
use Rattle.feed_history.proofs.Lists.{all_joined, all_weaker}

-- the id is above the greatest accepted one
abbrev pub IsAbove : Option ℕ → ℕ → Type 0
IsAbove None id = Unit {0}
IsAbove (Some last) id = last < id

-- an id that is accepted is above the greatest one accepted before it
pub accepted_is_above : (limit : ℕ) (last : Option ℕ) (live id : ℕ) → subscribe_refusal limit last live id ≡ None → IsAbove last id
accepted_is_above limit None live id is = tt
accepted_is_above limit (Some last) live id is = cases (nat_lt last id) refl is
  where
    cases : (b : Bool) → nat_lt last id ≡ b → (if b then room_refusal limit live else Some (IdOrder last)) ≡ None → last < id
    cases true lt is = ltb-true last id lt
    cases false lt is = absurd cc

-- an id above a new one is above the greatest one accepted before it
pub still_above : (last : Option ℕ) (new id : ℕ) → IsAbove last new → new < id → IsAbove last id
still_above None new id above lt = tt
still_above (Some last) new id above lt = omega (arith, above, lt)

module _ {S : Type 0} (id_of : S → ℕ) where
  -- the ids are at most the greatest accepted one
  abbrev AreWithin : Option ℕ → List S → Type 0
  AreWithin None subs = subs ≡ []
  AreWithin (Some last) subs = AllByRecursion (λ (sub : S). id_of sub ≤ last) subs

  pub record AreOrdered (last : Option ℕ) (subs : List S) : Type 0 where
    pub ascend : AscendBy id_of subs
    pub within : AreWithin last subs

  pub none_ordered : AreOrdered None []
  none_ordered = record { ascend = tt; within = refl }

  module _ (last : Option ℕ) (subs : List S) (ordered : AreOrdered last subs) where
    -- an id above the greatest accepted one is above those of all entries
    pub below : (id : ℕ) → IsAbove last id → AllByRecursion (λ (sub : S). id_of sub < id) subs
    below id above = by_last last ordered.within above
      where
        by_last : (last : Option ℕ) → AreWithin last subs → IsAbove last id → AllByRecursion (λ (sub : S). id_of sub < id) subs
        by_last None none above = subst (AllByRecursion (λ (sub : S). id_of sub < id)) (sym none) tt
        by_last (Some last) within above = all_weaker (λ (sub : S). id_of sub ≤ last) (λ (sub : S). id_of sub < id) (λ sub le. omega (arith, le, above)) subs within

    -- so no entry has it yet
    pub none_above : (id : ℕ) → IsAbove last id → at_id id_of id subs ≡ None
    none_above id above = none_found id_of id subs (others_below id_of id subs (below id above))

    -- what is found once an entry with such an id was added
    pub found_new : (id : ℕ) (new : S) → IsAbove last (id_of new) → at_id id_of id (subs ++ new ∷ []) ≡ cond (eqb (id_of new) id) (Some new) (at_id id_of id subs)
    found_new id new above = found_with id_of id subs new (below (id_of new) above)

    pub ordered_more : (new : S) → IsAbove last (id_of new) → AreOrdered (Some (id_of new)) (subs ++ new ∷ [])
    ordered_more new above = let lower = below (id_of new) above in record {
      ascend = ascend_more subs ordered.ascend lower;
      within = all_joined (λ (sub : S). id_of sub ≤ id_of new) subs (new ∷ [])
          (all_weaker (λ (sub : S). id_of sub < id_of new) (λ (sub : S). id_of sub ≤ id_of new) (λ sub lt. omega (arith, lt)) subs lower) (omega arith, tt);
    }
      where
        ascend_more : (subs : List S) → AscendBy id_of subs → AllByRecursion (λ (earlier : S). id_of earlier < id_of new) subs → AscendBy id_of (subs ++ new ∷ [])
        ascend_more [] ascend lower = (tt, tt)
        ascend_more (first ∷ subs) ascend lower = (all_joined (λ (later : S). id_of first < id_of later) subs (new ∷ []) ascend.0 (lower.0, tt), ascend_more subs ascend.1 lower.1)

    pub ordered_in_place : (id : ℕ) (f : S → List S) → KeepsIds id_of f → AreOrdered last (in_place id_of id f subs)
    ordered_in_place id f keeps = record { ascend = ascend_in_place id_of id f keeps subs ordered.ascend; within = by_last last ordered.within }
      where
        by_last : (last : Option ℕ) → AreWithin last subs → AreWithin last (in_place id_of id f subs)
        by_last None none = ap (in_place id_of id f) none
        by_last (Some last) within = all_in_place id_of id f keeps (λ n. n ≤ last) subs within
