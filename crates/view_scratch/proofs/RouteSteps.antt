-- The routes that are attached cost at most what all routes with the parent cost.
use Rattle.std.proofs.Common.{ℕ, ◌+◌, ◌≤◌, Bool, true, false, cond, List, [], ◌∷◌, map, sym, ap, ◌∙◌, arith}
use Rattle.std.specs.FinMap.{FinMap, entries, entries-insert, from_entries, len-empty, len-entries, put}
use Rattle.std.specs.FinMap.Entries.{by_order}
use Rattle.std.specs.Cmp.{IsTotalOrder}
use Rattle.std.specs.List.{filter, flat_map, sum_by}
use Rattle.std.specs.declared.cmp.Ordering.{Ordering}
use Rattle.std.specs.declared.cmp.Ordering.TheVariants.{Less, Equal, Greater}
use Rattle.std.proofs.lemmas.List.{nil_from_length}
use Rattle.std.proofs.lemmas.List.Sums.{sum_by-cons}
use Rattle.mesh_base.specs.Keyed.{keyed}
use Rattle.view_types.specs.Objects.{ObjectMap}
use Rattle.view_types.specs.declared.mark.Mark.{Mark}
use Rattle.view_rules.specs.InOrder.{in_order_by}
use Rattle.mark_rules.specs.Reads.{cost}
use Rattle.mark_rules.proofs.Counts.{cost_of_each}

module _ {X : Type 0} (f : X → ℕ) where
  filter_costs : (p : X → Bool) (xs : List X) → sum_by f (filter p xs) ≤ sum_by f xs
  filter_costs p [] = omega arith
  filter_costs p (x ∷ xs) = by (p x) (filter_costs p xs)
    where
      by : (passes : Bool) → sum_by f (filter p xs) ≤ sum_by f xs → sum_by f (cond passes (x ∷ filter p xs) (filter p xs)) ≤ sum_by f (x ∷ xs)
      by true rest =
          let all = sum_by-cons f x xs in
          let kept = sum_by-cons f x (filter p xs) in
          omega (arith, all, rest, kept)
      by false rest =
          let all = sum_by-cons f x xs in
          omega (arith, all, rest)

  module _ {K : Type 0} {R : K → K → Ordering} (o : IsTotalOrder R) where
    abbrev cost_in : List (K × X) → ℕ
    cost_in es = sum_by f (map (λ (e : K × X). e.1) es)

    put_costs : (k : K) (x : X) (es : List (K × X)) → cost_in (put R k x es) ≤ f x + cost_in es
    put_costs k x [] = let one = sum_by-cons f x [] in omega (arith, one)
    put_costs k x (e ∷ es) = by (R k e.0) (put_costs k x es)
      where
        by : (r : Ordering) → cost_in (put R k x es) ≤ f x + cost_in es → cost_in (by_order r ((k, x) ∷ e ∷ es) ((e.0, x) ∷ es) (e ∷ put R k x es)) ≤ f x + cost_in (e ∷ es)
        by Less rest =
            let more = sum_by-cons f x (map (λ (e : K × X). e.1) (e ∷ es)) in
            omega (arith, more)
        by Equal rest =
            let all = sum_by-cons f e.1 (map (λ (e : K × X). e.1) es) in
            let more = sum_by-cons f x (map (λ (e : K × X). e.1) es) in
            omega (arith, more, all)
        by Greater rest =
            let all = sum_by-cons f e.1 (map (λ (e : K × X). e.1) es) in
            let more = sum_by-cons f e.1 (map (λ (e : K × X). e.1) (put R k x es)) in
            omega (arith, more, all, rest)

    in_order_costs : (key : X → K) (xs : List X) → sum_by f (in_order_by R key xs) ≤ sum_by f xs
    in_order_costs key [] =
        let none = ap cost_in (nil_from_length (entries (from_entries {R = R} [])) (sym (len-entries (from_entries {R = R} [])) ∙ len-empty R X)) in
        omega (arith, none)
    in_order_costs key (x ∷ xs) =
        let before : FinMap R X = from_entries (keyed R key (λ x. x) xs) in
        let added = ap cost_in (entries-insert o before (key x) x) in
        let more = put_costs (key x) x (entries before) in
        let rest = in_order_costs key xs in
        let all = sum_by-cons f x xs in
        omega (arith, added, more, rest, all)

-- the marks of those that pass, in order
pub kept_costs : {X K : Type 0} {R : K → K → Ordering} → IsTotalOrder R → (key : X → K) (held : ObjectMap) (marks : X → List Mark) (p : X → Bool) (xs : List X)
    → cost held (flat_map marks (in_order_by R key (filter p xs))) ≤ cost held (flat_map marks xs)
kept_costs {R = R} o key held marks p xs =
    let left = cost_of_each held marks (in_order_by R key (filter p xs)) in
    let in_order = in_order_costs (λ x. cost held (marks x)) o key (filter p xs) in
    let kept = filter_costs (λ x. cost held (marks x)) p xs in
    let right = cost_of_each held marks xs in
    omega (arith, left, in_order, kept, right)
