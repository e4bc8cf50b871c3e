-- Rows in the order of their places: which rows these are is told by what stands at each place.
use Rattle.std.proofs.Common.{◌≡◌, true, false, cond, ◌&&◌, List, [], ◌∷◌, map, Option, Some, None, refl, sym, ap, subst, ◌∙◌}
use lib.Dec.{T}
use Rattle.std.specs.Prelude.{option_map}
use Rattle.std.specs.Cmp.{IsTotalOrder}
use Rattle.std.specs.FinMap.{FinMap, IsAntisymmetric, find, from_entries, get, get-entries, get-from_entries, get-from_sorted, is_sorted, same_map, values}
use Rattle.std.specs.FinMap.Entries.{below_all}
use Rattle.std.specs.Option.{option_or}
use Rattle.std.specs.Ordering.{eq_by_cmp, is_lt}
use Rattle.std.specs.declared.cmp.Ordering.{Ordering}
use Rattle.mesh_base.proofs.Keyed.{items_are_values}
use Rattle.mesh_base.specs.Keyed.{keyed, keyed_map}
use Rattle.view_rules.proofs.KeyMaps as maps
use Rattle.view_rules.proofs.KeyMaps.{IsRising, found, found_there, not_there, only_one, own_insert, own_rows, put_none, put_there, values_keyed, values_rise}
use Rattle.view_rules.specs.ByKey.{put_all}
use Rattle.view_rules.specs.InOrder.{in_order_by}

module _ {X K : Type 0} {R : K → K → Ordering} (o : IsTotalOrder R) (exact : IsAntisymmetric R) (key : X → K) where
  abbrev at : List X → K → Option X
  at rows q = get (keyed_map R key (λ x. x) rows) q

  -- two lists in order with the same rows at each place
  pub same_rows : (xs ys : List X) → IsRising o exact key xs → IsRising o exact key ys → ((q : K) → at xs q ≡ at ys q) → xs ≡ ys
  same_rows xs ys rise rise' alike =
      sym (items_are_values R key xs rise) ∙ ap values (same_map o exact (keyed_map R key (λ x. x) xs) (keyed_map R key (λ x. x) ys) alike) ∙ items_are_values R key ys rise'

  -- ---- rows put in order

  own_entries : (xs : List X) → maps.IsOwn o exact key (from_entries (keyed R key (λ x. x) xs))
  own_entries [] = own_rows o exact key []
  own_entries (x ∷ xs) = own_insert o exact key (from_entries (keyed R key (λ x. x) xs)) x (own_entries xs)

  order_rises : (xs : List X) → IsRising o exact key (in_order_by R key xs)
  order_rises xs = values_rise o exact key (from_entries (keyed R key (λ x. x) xs)) (own_entries xs)

  order_found : (xs : List X) (q : K) → found o exact key q (in_order_by R key xs) ≡ found o exact key q xs
  order_found xs q =
      let m = from_entries (keyed R key (λ x. x) xs) in
      ap (find R q) (values_keyed o exact key m (own_entries xs)) ∙ sym (get-entries m q) ∙ get-from_entries o (keyed R key (λ x. x) xs) q

  -- ---- rows put into a map, one after the other

  put_at : (added : List X) → IsRising o exact key added → (m : FinMap R X) (q : K) (stood : Option X) → found o exact key q added ≡ stood → get (put_all R key added m) q ≡ option_or stood (get m q)
  put_at added rise m q None none = put_none o exact key added m q (not_there o exact key added q none)
  put_at added rise m q (Some x) is = put_there o exact key added m q x (only_one o exact key added q x rise is) (found_there o exact key added q x is)

  pub all_at : (added : List X) → IsRising o exact key added → (m : FinMap R X) (q : K) → get (put_all R key added m) q ≡ option_or (at added q) (get m q)
  all_at added rise m q = put_at added rise m q (at added q) (sym (get-from_sorted R _ q rise))

-- rows that are seen through a function
module _ {X Y K : Type 0} (R : K → K → Ordering) (f : X → Y) (key : Y → K) where
  found_through : (xs : List X) (q : K) → find R q (keyed R key (λ y. y) (map f xs)) ≡ option_map f (find R q (keyed R (λ x. key (f x)) (λ x. x) xs))
  found_through [] q = refl
  found_through (x ∷ xs) q =
      elim (eq_by_cmp R q (key (f x))) as (λ b. cond b (Some (f x)) (find R q (keyed R key (λ y. y) (map f xs))) ≡ option_map f (cond b (Some x) (find R q (keyed R (λ x. key (f x)) (λ x. x) xs)))) [
        | true ↦ refl
        | false ↦ found_through xs q
      ]

  below_through : (k : K) (xs : List X) → below_all R k (keyed R key (λ y. y) (map f xs)) ≡ below_all R k (keyed R (λ x. key (f x)) (λ x. x) xs)
  below_through k [] = refl
  below_through k (x ∷ xs) = ap (λ b. is_lt (R k (key (f x))) && b) (below_through k xs)

  sorted_through : (xs : List X) → is_sorted R (keyed R key (λ y. y) (map f xs)) ≡ is_sorted R (keyed R (λ x. key (f x)) (λ x. x) xs)
  sorted_through [] = refl
  sorted_through (x ∷ xs) = λ i. below_through (key (f x)) xs i && sorted_through xs i

  module _ (o : IsTotalOrder R) (exact : IsAntisymmetric R) (xs : List X) where
    pub shown_rise : IsRising o exact key (map f (in_order_by R (λ x. key (f x)) xs))
    shown_rise = subst T (sym (sorted_through (in_order_by R (λ x. key (f x)) xs))) (order_rises o exact (λ x. key (f x)) xs)

    pub shown_at : (q : K) → at o exact key (map f (in_order_by R (λ x. key (f x)) xs)) q ≡ found o exact key q (map f xs)
    shown_at q =
        get-from_sorted R _ q shown_rise
        ∙ found_through (in_order_by R (λ x. key (f x)) xs) q
        ∙ ap (option_map f) (order_found o exact (λ x. key (f x)) xs q)
        ∙ sym (found_through xs q)
