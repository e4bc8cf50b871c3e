-- What passes is found among some of the items of a map, put in order.
use Rattle.std.proofs.Common.{◌≡◌, Bool, true, false, cond, List, [], ◌∷◌, Option, Some, None, inl, inr, refl, sym, ap, ◌∙◌}
use Rattle.std.specs.Cmp.{IsTotalOrder, tied_itself}
use Rattle.std.specs.FinMap.{FinMap, IsAntisymmetric, find, from_entries, get, get-from_entries, values}
use Rattle.std.specs.List.{filter}
use Rattle.std.specs.Option.{option_and_then}
use Rattle.std.specs.Ordering.{eq_by_cmp, is_eq}
use Rattle.std.specs.declared.cmp.Ordering.{Ordering}
use Rattle.mesh_base.specs.Keyed.{keyed}
use Rattle.view_rules.specs.InOrder.{in_order_by}
use Rattle.view_rules.proofs.Among.{Among}
use Rattle.view_rules.proofs.Entries.{equal, held_somewhere, stands}
use Rattle.mark_rules.proofs.EqualLists.{found_alike}
use Rattle.mark_rules.proofs.FilterLists.{kept_is_found, kept_one}

module _ {K X : Type 0} {R : K → K → Ordering} (o : IsTotalOrder R) (same : IsAntisymmetric R) (key : X → K) where
  abbrev by_key : List X → List (K × X)
  by_key xs = keyed R key (λ x. x) xs

  -- what is found at a key is an item with this key
  found_is : (k : K) (xs : List X) (x : X) → find R k (by_key xs) ≡ Some x → Among x xs × (k ≡ key x)
  found_is k [] x is = absurd (cc is)
  found_is k (y ∷ ys) x is =
      elim (eq_by_cmp R k (key y)) as (λ b. eq_by_cmp R k (key y) ≡ b → cond b (Some y) (find R k (by_key ys)) ≡ Some x → Among x (y ∷ ys) × (k ≡ key x)) [
        | true ↦ λ t is. let it : y ≡ x = cc is in (inl it, same k (key y) (equal _ t) ∙ ap key it)
        | false ↦ λ t is. let rest = found_is k ys x is in (inr rest.0, rest.1)
      ] refl is

  -- an item's key is found
  is_found : (xs : List X) (x : X) → Among x xs → find R (key x) (by_key xs) ≡ None → ⊥
  is_found [] x at none = at
  is_found (y ∷ ys) x at none =
      elim (eq_by_cmp R (key x) (key y)) as (λ b. eq_by_cmp R (key x) (key y) ≡ b → cond b (Some y) (find R (key x) (by_key ys)) ≡ None → ⊥) [
        | true ↦ λ t none. cc none
        | false ↦ λ t none. elim at [
          | inl it ↦ let tied : false ≡ true = sym t ∙ ap (λ z. eq_by_cmp R (key x) (key z)) it ∙ ap is_eq (tied_itself o (key x)) in cc tied
          | inr rest ↦ is_found ys x rest none
        ]
      ] refl none

  -- each item is held at its own key, and among the items are all that are held and pass
  module _ (held : FinMap R X) (own : (k : K) (x : X) → get held k ≡ Some x → key x ≡ k) (passes : X → Bool) (xs : List X)
      (all_held : (x : X) → Among x xs → get held (key x) ≡ Some x) (all_pass : (x : X) → Among x (values held) → passes x ≡ true → Among x xs) where
    module _ (k : K) where
      -- nothing at the key that passes
      none_passes : (found : Option X) → get held k ≡ found → find R k (by_key xs) ≡ None → option_and_then (kept_one passes) found ≡ None
      none_passes None is none = refl
      none_passes (Some x) is none =
          elim (passes x) as (λ b. passes x ≡ b → cond b (Some x) None ≡ None) [
            | true ↦ λ e. absurd (is_found xs x (all_pass x (stands o held k x is) e) (ap (λ k. find R k (by_key xs)) (own k x is) ∙ none))
            | false ↦ λ e. refl
          ] refl

      alike : (found : Option X) → find R k (by_key xs) ≡ found → option_and_then (kept_one passes) (get held k) ≡ option_and_then (kept_one passes) found
      alike None is = none_passes (get held k) refl is
      alike (Some x) is =
          let item = found_is k xs x is in
          ap (option_and_then (kept_one passes)) (ap (get held) item.1 ∙ all_held x item.0)

    pub pass_in_order : filter passes (values held) ≡ filter passes (in_order_by R key xs)
    pass_in_order =
        kept_is_found passes (values held)
        ∙ found_alike o same (kept_one passes) held (from_entries (by_key xs)) (λ k. alike k (find R k (by_key xs)) refl ∙ ap (option_and_then (kept_one passes)) (sym (get-from_entries o (by_key xs) k)))
        ∙ sym (kept_is_found passes (in_order_by R key xs))

  -- the items that are left are among those that were put in order
  pub each_among : (xs : List X) (x : X) → Among x (in_order_by R key xs) → Among x xs
  each_among xs x at =
      let place = held_somewhere o (from_entries (by_key xs)) x at in
      (found_is place.0 xs x (sym (get-from_entries o (by_key xs) place.0) ∙ place.1)).0

-- nothing is left out where each passes
pub all_kept : {X : Type 0} (passes : X → Bool) (xs : List X) → ((x : X) → Among x xs → passes x ≡ true) → filter passes xs ≡ xs
all_kept passes [] each = refl
all_kept passes (x ∷ xs) each = rw (each x (inl refl)) (ap (λ ys. x ∷ ys) (all_kept passes xs (λ y at. each y (inr at))))
