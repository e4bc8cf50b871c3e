-- Rows in order, by what is found at each address.
use Rattle.std.proofs.Common.{◌≡◌, Bool, true, false, cond, ◌&&◌, ◌||◌, List, [], ◌∷◌, map, Option, Some, None, Ordering, refl, sym, ap, ◌∙◌, subst}
use lib.Dec.{T}
use Rattle.std.specs.FinMap.{get-from_sorted, same_map, values}
use Rattle.std.specs.FinMap.Entries.{below_all}
use Rattle.std.specs.List.{AllByRecursion, cons_option, filter, filter_map}
use Rattle.std.specs.List.Sorted.{IsStrictlySortedBy}
use Rattle.std.specs.Ordering.{is_eq, is_lt}
use Rattle.std.specs.declared.cmp.Ordering.TheVariants.{Less}
use Rattle.mesh_base.proofs.Keyed.{items_are_values}
use Rattle.mesh_base.specs.Keyed.{keyed, keyed_map}
use Rattle.view_rules.proofs.Entries.{equal, first, less, second}
use Rattle.view_rules.proofs.Pairs.{pairs_exact, pairs_total}
use Rattle.view_rules.proofs.RowMaps.{Pair, IsRising, found}
use Rattle.view_rules.proofs.SameRow.{apart}
use Rattle.view_rules.specs.Batch.{has_row, same_pair}
use Rattle.view_rules.specs.Endpoints.{pair_cmp, pair_of}
use Rattle.view_rules.specs.Same.{same_row}
use Rattle.view_types.specs.declared.endpoint.EndpointRow.{EndpointRow}
use Rattle.view_diff.specs.Earlier.{Stood, address}

-- rows at which the same is found everywhere are the same
pub same_rows : (xs ys : List EndpointRow) → IsRising xs → IsRising ys → ((q : Pair) → found q xs ≡ found q ys) → xs ≡ ys
same_rows xs ys hx hy same =
    sym (items_are_values pair_cmp pair_of xs hx)
    ∙ ap values (same_map pairs_total pairs_exact (keyed_map pair_cmp pair_of (λ row. row) xs) (keyed_map pair_cmp pair_of (λ row. row) ys)
    (λ q. get-from_sorted pair_cmp (keyed pair_cmp pair_of (λ row. row) xs) q hx ∙ same q ∙ sym (get-from_sorted pair_cmp (keyed pair_cmp pair_of (λ row. row) ys) q hy)))
    ∙ items_are_values pair_cmp pair_of ys hy

both : (a b : Bool) → T a → T b → T (a && b)
both true b p q = q
both false b p q = absurd p

lesser : (r : Ordering) → r ≡ Less → T (is_lt r)
lesser r e = subst (λ r. T (is_lt r)) (sym e) tt

-- an address that ties with one below all rows is none of theirs
none_above : (q k : Pair) (rows : List EndpointRow) → same_pair q k ≡ true → T (below_all pair_cmp k (keyed pair_cmp pair_of (λ row. row) rows)) → found q rows ≡ None
none_above q k [] t h = refl
none_above q k (x ∷ xs) t h =
    let under : pair_cmp q (pair_of x) ≡ Less = pairs_total.congr q k (pair_of x) (equal _ t) ∙ less _ (first _ _ h) in
    rw under (none_above q k xs t (second _ _ h))

-- ---- rows that pass a test

abbrev pub kept : (EndpointRow → Bool) → Option EndpointRow → Option EndpointRow
kept p None = None
kept p (Some r) = cond (p r) (Some r) None

pub found_kept : (p : EndpointRow → Bool) (rows : List EndpointRow) (q : Pair) → IsRising rows → found q (filter p rows) ≡ kept p (found q rows)
found_kept p [] q h = refl
found_kept p (r ∷ rs) q h =
    elim (same_pair q (pair_of r)) as (λ b. same_pair q (pair_of r) ≡ b → found q (cond (p r) (r ∷ filter p rs) (filter p rs)) ≡ kept p (cond b (Some r) (found q rs))) [
      | true ↦ λ t.
          let none : found q (filter p rs) ≡ None = found_kept p rs q (second _ _ h) ∙ ap (kept p) (none_above q (pair_of r) rs t (first _ _ h)) in
          elim (p r) as (λ b. found q (cond b (r ∷ filter p rs) (filter p rs)) ≡ cond b (Some r) None) [
            | true ↦ ap (λ b. cond b (Some r) (found q (filter p rs))) t
            | false ↦ none
          ]
      | false ↦ λ t. elim (p r) as (λ b. found q (cond b (r ∷ filter p rs) (filter p rs)) ≡ kept p (found q rs)) [
        | true ↦ ap (λ b. cond b (Some r) (found q (filter p rs))) t ∙ found_kept p rs q (second _ _ h)
        | false ↦ found_kept p rs q (second _ _ h)
      ]
    ] refl

below_kept : (p : EndpointRow → Bool) (k : Pair) (rows : List EndpointRow) → T (below_all pair_cmp k (keyed pair_cmp pair_of (λ row. row) rows)) → T (below_all pair_cmp k (keyed pair_cmp pair_of (λ row. row) (filter p rows)))
below_kept p k [] h = tt
below_kept p k (r ∷ rs) h = elim (p r) as (λ b. T (below_all pair_cmp k (keyed pair_cmp pair_of (λ row. row) (cond b (r ∷ filter p rs) (filter p rs))))) [
  | true ↦ both _ _ (first _ _ h) (below_kept p k rs (second _ _ h))
  | false ↦ below_kept p k rs (second _ _ h)
]

pub kept_rising : (p : EndpointRow → Bool) (rows : List EndpointRow) → IsRising rows → IsRising (filter p rows)
kept_rising p [] h = tt
kept_rising p (r ∷ rs) h = elim (p r) as (λ b. IsRising (cond b (r ∷ filter p rs) (filter p rs))) [
  | true ↦ both _ _ (below_kept p (pair_of r) rs (first _ _ h)) (kept_rising p rs (second _ _ h))
  | false ↦ kept_rising p rs (second _ _ h)
]

-- ---- whether a row is among rows in order

abbrev pub is_row : EndpointRow → Option EndpointRow → Bool
is_row r None = false
is_row r (Some w) = same_row r w

or_false : (b : Bool) → (b || false) ≡ b
or_false true = refl
or_false false = refl

pub has_found : (rows : List EndpointRow) (r : EndpointRow) → IsRising rows → has_row rows r ≡ is_row r (found (pair_of r) rows)
has_found [] r h = refl
has_found (x ∷ xs) r h =
    elim (same_pair (pair_of r) (pair_of x)) as (λ b. same_pair (pair_of r) (pair_of x) ≡ b → (same_row r x || has_row xs r) ≡ is_row r (cond b (Some x) (found (pair_of r) xs))) [
      | true ↦ λ t.
          let none : has_row xs r ≡ false = has_found xs r (second _ _ h) ∙ ap (is_row r) (none_above (pair_of r) (pair_of x) xs t (first _ _ h)) in
          ap (λ b. same_row r x || b) none ∙ or_false (same_row r x)
      | false ↦ λ t.
          let other : same_row r x ≡ false = apart r x (λ e. let no : true ≡ false = sym (ap is_eq e) ∙ t in cc) in
          ap (λ b. b || has_row xs r) other ∙ has_found xs r (second _ _ h)
    ] refl

-- ---- rows that are chosen for addresses in order

abbrev pub Rise : List Stood → Type 0
Rise ss = IsStrictlySortedBy pair_cmp (map address ss)

module _ (choose : Stood → Option EndpointRow) where
  -- each row that is chosen stands at the address that it is chosen for
  abbrev pub AreOwn : List Stood → Type 0
  AreOwn ss = AllByRecursion (λ s. (x : EndpointRow) → choose s ≡ Some x → pair_of x ≡ address s) ss

  abbrev pub chosen : List Stood → Pair → Option EndpointRow
  chosen [] q = None
  chosen (s ∷ ss) q = cond (same_pair q (address s)) (choose s) (chosen ss q)

  none_chosen : (q k : Pair) (ss : List Stood) → same_pair q k ≡ true → AllByRecursion (λ p. pair_cmp k p ≡ Less) (map address ss) → chosen ss q ≡ None
  none_chosen q k [] t h = refl
  none_chosen q k (s ∷ ss) t h =
      let under : pair_cmp q (address s) ≡ Less = pairs_total.congr q k (address s) (equal _ t) ∙ h.0 in
      rw under (none_chosen q k ss t h.1)

  pub found_chosen : (ss : List Stood) (q : Pair) → Rise ss → AreOwn ss → found q (filter_map choose ss) ≡ chosen ss q
  unfolding IsStrictlySortedBy
  found_chosen [] q h own = refl
  found_chosen (s ∷ ss) q h own =
      elim (choose s) as (λ o. choose s ≡ o → found q (cons_option o (filter_map choose ss)) ≡ cond (same_pair q (address s)) o (chosen ss q)) [
        | None ↦ λ e. found_chosen ss q h.1 own.1 ∙ elim (same_pair q (address s)) as (λ b. same_pair q (address s) ≡ b → chosen ss q ≡ cond b None (chosen ss q)) [
          | true ↦ λ t. none_chosen q (address s) ss t h.0
          | false ↦ λ t. refl
        ] refl
        | Some x ↦ λ e. λ i. cond (same_pair q (own.0 x e i)) (Some x) (found_chosen ss q h.1 own.1 i)
      ] refl

  below_chosen : (k : Pair) (ss : List Stood) → AllByRecursion (λ p. pair_cmp k p ≡ Less) (map address ss) → AreOwn ss → T (below_all pair_cmp k (keyed pair_cmp pair_of (λ row. row) (filter_map choose ss)))
  below_chosen k [] h own = tt
  below_chosen k (s ∷ ss) h own =
      elim (choose s) as (λ o. choose s ≡ o → T (below_all pair_cmp k (keyed pair_cmp pair_of (λ row. row) (cons_option o (filter_map choose ss))))) [
        | None ↦ λ e. below_chosen k ss h.1 own.1
        | Some x ↦ λ e. both _ _ (lesser _ (ap (pair_cmp k) (own.0 x e) ∙ h.0)) (below_chosen k ss h.1 own.1)
      ] refl

  pub chosen_rising : (ss : List Stood) → Rise ss → AreOwn ss → IsRising (filter_map choose ss)
  unfolding IsStrictlySortedBy
  chosen_rising [] h own = tt
  chosen_rising (s ∷ ss) h own =
      elim (choose s) as (λ o. choose s ≡ o → IsRising (cons_option o (filter_map choose ss))) [
        | None ↦ λ e. chosen_rising ss h.1 own.1
        | Some x ↦ λ e. both _ _ (subst (λ k. T (below_all pair_cmp k (keyed pair_cmp pair_of (λ row. row) (filter_map choose ss)))) (sym (own.0 x e)) (below_chosen (address s) ss h.0 own.1)) (chosen_rising ss h.1 own.1)
      ] refl
