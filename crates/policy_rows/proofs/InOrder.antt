-- Items in the order of their keys, seen through a function.
use Rattle.std.proofs.Common.{◌≡◌, List, [], ◌∷◌, map, refl, sym, ap, ◌∙◌}
use Rattle.std.specs.FinMap as fin
use Rattle.std.specs.FinMap.{FinMap, entries, entries-insert, from_entries, len-entries, len-empty, put}
use Rattle.std.specs.FinMap.Entries.{by_order}
use Rattle.std.specs.Cmp.{IsTotalOrder}
use Rattle.std.specs.declared.cmp.Ordering.{Ordering}
use Rattle.std.specs.declared.cmp.Ordering.TheVariants.{Less, Equal, Greater}
use Rattle.std.proofs.lemmas.List.{nil_from_length}
use Rattle.mesh_base.specs.Keyed.{keyed}
use Rattle.view_rules.specs.InOrder.{in_order_by}

module _ {X Y K : Type 0} {R : K → K → Ordering} (o : IsTotalOrder R) (f : X → Y) (key : Y → K) where
  -- an entry, seen through the function
  abbrev through : K × X → K × Y
  through e = (e.0, f e.1)

  put_through : (k : K) (x : X) (es : List (K × X)) → map through (put R k x es) ≡ put R k (f x) (map through es)
  put_through k x [] = refl
  put_through k x (e ∷ es) =
      elim (R k e.0) as (λ r. map through (by_order r ((k, x) ∷ e ∷ es) ((e.0, x) ∷ es) (e ∷ put R k x es))
      ≡ by_order r ((k, f x) ∷ through e ∷ map through es) ((e.0, f x) ∷ map through es) (through e ∷ put R k (f x) (map through es))) [
        | Less ↦ refl
        | Equal ↦ refl
        | Greater ↦ ap (λ rest. through e ∷ rest) (put_through k x es)
      ]

  none : {V : Type 0} (m : FinMap R V) → m ≡ fin.empty → entries m ≡ []
  none {V} m e = nil_from_length (entries m) (sym (len-entries m) ∙ ap fin.len e ∙ len-empty R V)

  entries_through : (xs : List X) → map through (entries (from_entries {R = R} (keyed R (λ x. key (f x)) (λ x. x) xs))) ≡ entries (from_entries {R = R} (keyed R key (λ y. y) (map f xs)))
  entries_through [] = ap (map through) (none (from_entries []) refl) ∙ sym (none (from_entries []) refl)
  entries_through (x ∷ xs) =
      let before = from_entries {R = R} (keyed R (λ x. key (f x)) (λ x. x) xs) in
      ap (map through) (entries-insert o before (key (f x)) x)
      ∙ put_through (key (f x)) x (entries before)
      ∙ ap (put R (key (f x)) (f x)) (entries_through xs)
      ∙ sym (entries-insert o (from_entries (keyed R key (λ y. y) (map f xs))) (key (f x)) (f x))

  seconds : (es : List (K × X)) → map f (map (λ (e : K × X). e.1) es) ≡ map (λ (e : K × Y). e.1) (map through es)
  seconds [] = refl
  seconds (e ∷ es) = ap (λ ys. f e.1 ∷ ys) (seconds es)

  pub in_order_through : (xs : List X) → map f (in_order_by R (λ x. key (f x)) xs) ≡ in_order_by R key (map f xs)
  in_order_through xs = seconds _ ∙ ap (map (λ (e : K × Y). e.1)) (entries_through xs)
