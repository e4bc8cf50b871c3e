-- No id is above the greatest accepted one.
use Rattle.std.proofs.Common.{◌≡◌, ◌<◌, ℕ, true, List, [], ◌∷◌, ◌++◌, Option, Some, None, Ok, refl, nat_le, arith}
use Rattle.std.specs.List.{AllByRecursion}
use Rattle.std.proofs.lemmas.Bool.Decides.{nat_tests}
use Rattle.feed_history.specs.Ids.{ended, in_place, subscribe_refusal}
use Rattle.feed_history.specs.declared.refusal.HubFault.{HubFault}
use Rattle.feed_history.proofs.AscendingIds.{IsAbove, accepted_is_above}
use Rattle.feed_history.proofs.EntriesById.{KeepsIds, all_in_place, ended_keeps}
use Rattle.feed_history.proofs.Lists.{all_joined, all_weaker}
use Rattle.view_relay.specs.Accepted.{new_id, unless_refused}
use Rattle.view_relay.specs.ById.{AreUpTo, id_of, is_up_to, put_in_place}

accepted : (refusal : Option HubFault) → unless_refused refusal ≡ Ok tt → refusal ≡ None
accepted None is = refl
accepted (Some fault) is = absurd (cc is)

below : (last : Option ℕ) (id n : ℕ) → IsAbove last id → is_up_to last n ≡ true → n < id
below None id n above is = absurd (cc is)
below (Some last) id n above is = grind (arith, nat_tests)

up_to_itself : (id n : ℕ) → n < id → nat_le n id ≡ true
up_to_itself id n lt = grind (arith, nat_tests)

equal_up_to : (id : ℕ) → nat_le id id ≡ true
equal_up_to id = grind (arith, nat_tests)

module _ {S : Type 0} where
  abbrev AreBelow : ℕ → List (ℕ × S) → Type 0
  AreBelow id entries = AllByRecursion (λ entry. id_of entry < id) entries

  -- an id that is accepted is above all others
  pub accepted_above : (limit live id : ℕ) (last : Option ℕ) (entries : List (ℕ × S)) → new_id limit last live id ≡ Ok tt → AreUpTo last entries → AreBelow id entries
  accepted_above limit live id last entries is up_to =
      let above = accepted_is_above limit last live id (accepted (subscribe_refusal limit last live id) is) in
      all_weaker (λ entry. is_up_to last (id_of entry) ≡ true) (λ entry. id_of entry < id) (λ entry. below last id (id_of entry) above) entries up_to

  pub added_up_to : (id : ℕ) (value : S) (entries : List (ℕ × S)) → AreBelow id entries → AreUpTo (Some id) (entries ++ (id, value) ∷ [])
  added_up_to id value entries lower =
      all_joined (λ entry. is_up_to (Some id) (id_of entry) ≡ true) entries ((id, value) ∷ [])
      (all_weaker (λ entry. id_of entry < id) (λ entry. is_up_to (Some id) (id_of entry) ≡ true) (λ entry. up_to_itself id (id_of entry)) entries lower) (equal_up_to id, tt)

  put_keeps : (value : S) → KeepsIds id_of (put_in_place value)
  put_keeps value entry = (refl, refl)

  pub put_up_to : (last : Option ℕ) (id : ℕ) (value : S) (entries : List (ℕ × S)) → AreUpTo last entries → AreUpTo last (in_place id_of id (put_in_place value) entries)
  put_up_to last id value entries up_to = all_in_place id_of id (put_in_place value) (put_keeps value) (λ n. is_up_to last n ≡ true) entries up_to

  pub ended_up_to : (last : Option ℕ) (id : ℕ) (entries : List (ℕ × S)) → AreUpTo last entries → AreUpTo last (in_place id_of id ended entries)
  ended_up_to last id entries up_to = all_in_place id_of id ended (ended_keeps id_of) (λ n. is_up_to last n ≡ true) entries up_to
