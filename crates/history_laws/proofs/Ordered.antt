-- What holds of each item holds of each that is kept in order.
use Rattle.std.proofs.Common.{List, [], ◌∷◌, sym, subst, ◌∙◌}
use Rattle.std.specs.Cmp.{IsTotalOrder}
use Rattle.std.specs.FinMap.{empty, entries, entries-insert, from_entries, len-empty, len-entries, put}
use Rattle.std.specs.FinMap.Entries.{by_order}
use Rattle.std.specs.List.{AllByRecursion}
use Rattle.std.specs.declared.cmp.Ordering.{Ordering}
use Rattle.std.specs.declared.cmp.Ordering.TheVariants.{Less, Equal, Greater}
use Rattle.std.proofs.lemmas.List.{nil_from_length}
use Rattle.mesh_base.specs.Keyed.{keyed}
use Rattle.view_rules.specs.InOrder.{in_order_by}
use Rattle.feed_history.proofs.Lists.{all_mapped}

module _ {X K : Type 0} {R : K → K → Ordering} (o : IsTotalOrder R) (key : X → K) (P : X → Type 0) where
  HasGood : K × X → Type 0
  HasGood e = P e.1

  all_put : (k : K) (x : X) (es : List (K × X)) → P x → AllByRecursion HasGood es → AllByRecursion HasGood (put R k x es)
  unfolding HasGood
  all_put k x [] here rest = (here, tt)
  all_put k x (e ∷ es) here rest = elim (R k e.0) as (λ r. AllByRecursion HasGood (by_order r ((k, x) ∷ e ∷ es) ((e.0, x) ∷ es) (e ∷ put R k x es))) [
    | Less ↦ (here, rest)
    | Equal ↦ (here, rest.1)
    | Greater ↦ (rest.0, all_put k x es here rest.1)
  ]

  all_entries : (xs : List X) → AllByRecursion P xs → AllByRecursion HasGood (entries (from_entries {R = R} (keyed R key (λ x. x) xs)))
  all_entries [] all = subst (AllByRecursion HasGood) (sym (nil_from_length (entries {R = R} empty) (sym (len-entries empty) ∙ len-empty R X))) tt
  all_entries (x ∷ xs) all =
      subst (AllByRecursion HasGood) (sym (entries-insert o (from_entries (keyed R key (λ x. x) xs)) (key x) x)) (all_put (key x) x _ all.0 (all_entries xs all.1))

  pub all_in_order : (xs : List X) → AllByRecursion P xs → AllByRecursion P (in_order_by R key xs)
  unfolding HasGood
  all_in_order xs all = all_mapped HasGood P (λ (e : K × X). e.1) (λ e good. good) _ (all_entries xs all)
