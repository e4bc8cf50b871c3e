-- Other than two items are no pair.
use Rattle.std.proofs.Common.{◌≡◌, ◌<◌, ℕ, List, [], ◌∷◌, length, Result, Err, refl, subst, arith}
use Rattle.serde_json.specs.View.{items_view}
use Rattle.serde_json.specs.declared.value.Value.{Value}
use Rattle.k8s_meta.specs.Spots.{Fails, IsFault}
use Rattle.k8s_meta.specs.declared.fault.ReadFault.{ReadFault}
use Rattle.k8s_meta.specs.declared.fault.ReadFault.TheVariants as faults
use Rattle.k8s_meta.proofs.Loop.{fails_through}
use Rattle.watch_events.specs.Simulations.{pair_from}

abbrev number_fault : ReadFault → Result ℕ ReadFault
number_fault fault = Err fault

same_fault : (fault w : ReadFault) → number_fault fault ≡ number_fault w → fault ≡ w
same_fault fault w e = cc

module _ (at : List ℕ) where
  abbrev Wrong : List Value → Type 0
  Wrong items = pair_from at (items_view items) ≡ Err (faults.WrongType at)

  few_are_wrong : (items : List Value) → length items < 2 → Wrong items
  few_are_wrong [] lt = refl
  few_are_wrong (a ∷ []) lt = refl
  few_are_wrong (a ∷ b ∷ more) lt = absurd (omega (arith, lt))

  many_are_wrong : (items : List Value) → 2 < length items → Wrong items
  many_are_wrong [] lt = absurd (omega (arith, lt))
  many_are_wrong (a ∷ []) lt = absurd (omega (arith, lt))
  many_are_wrong (a ∷ b ∷ []) lt = absurd (omega (arith, lt))
  many_are_wrong (a ∷ b ∷ c ∷ more) lt = refl

  wrong_fails : (fault : ReadFault) (items : List Value) → Wrong items → IsFault fault (faults.WrongType at) → Fails fault (pair_from at (items_view items))
  wrong_fails fault items wrong h = fails_through fault (number_fault (faults.WrongType at)) (pair_from at (items_view items)) (λ w e. subst (λ v. pair_from at (items_view items) ≡ Err v) (same_fault (faults.WrongType at) w e) wrong) h

  pub few_fail : (fault : ReadFault) (items : List Value) → length items < 2 → IsFault fault (faults.WrongType at) → Fails fault (pair_from at (items_view items))
  few_fail fault items lt = wrong_fails fault items (few_are_wrong items lt)

  pub many_fail : (fault : ReadFault) (items : List Value) → 2 < length items → IsFault fault (faults.WrongType at) → Fails fault (pair_from at (items_view items))
  many_fail fault items lt = wrong_fails fault items (many_are_wrong items lt)
