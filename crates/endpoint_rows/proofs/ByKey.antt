-- The rows of all slices, by what the slice at each key gives.
use Rattle.std.proofs.Common.{◌≡◌, ◌&&◌, true, false, cond, List, [], ◌∷◌, ◌++◌, Option, Some, None, refl, sym, ap, subst}
use lib.Dec.{T}
use Rattle.std.specs.BTreeMap.{IsOrdered}
use Rattle.std.specs.FinMap.{find, is_sorted}
use Rattle.std.specs.FinMap.Entries.{below_all}
use Rattle.std.specs.List.{AllByRecursion, flat_map}
use Rattle.std.specs.List.Sorted.{IsStrictlySortedBy}
use Rattle.std.specs.Map.{keys_of, lookup, values_of}
use Rattle.std.specs.Ordering.{is_eq, is_lt}
use Rattle.std.specs.declared.cmp.Ordering.TheVariants.{Less}
use Rattle.mesh_base.specs.KeyOrder.{key_cmp}
use Rattle.mesh_base.specs.declared.key.ObjKey.{ObjKey}
use Rattle.view_types.specs.declared.endpoint.EndpointRow.{EndpointRow}
use Rattle.row_places.specs.Rows.{row_at}
use Rattle.endpoint_rows.specs.Kept.{Pair, RowsBySlice, all_rows, rows_given, rows_of}
use Rattle.endpoint_rows.proofs.LeastKey.{IsLeast, at, least_alike, least_of_all, none_least, one_least}

both : (a b : _) → T a → T b → T (a && b)
both true b p q = q
both false b p q = absurd p

below : {V : Type 0} (k : ObjKey) (es : List (ObjKey × V)) → AllByRecursion (λ j. key_cmp k j ≡ Less) (keys_of es) → T (below_all key_cmp k es)
below k [] h = tt
below k (e ∷ es) h = both _ _ (subst (λ r. T (is_lt r)) (sym h.0) tt) (below k es h.1)

sorted : {V : Type 0} (es : List (ObjKey × V)) → IsStrictlySortedBy key_cmp (keys_of es) → T (is_sorted key_cmp es)
unfolding IsStrictlySortedBy
sorted [] h = tt
sorted (e ∷ es) h = both _ _ (below e.0 es h.0) (sorted es h.1)

looked_up : {V : Type 0} (k : ObjKey) (es : List (ObjKey × V)) → lookup (λ j. is_eq (key_cmp k j)) es ≡ find key_cmp k es
looked_up k [] = refl
looked_up k (e ∷ es) = ap (cond (is_eq (key_cmp k e.0)) (Some e.1)) (looked_up k es)

flat_values : (es : List (ObjKey × List EndpointRow)) → flat_map (λ rows. rows) (values_of es) ≡ flat_map (λ (e : ObjKey × List EndpointRow). e.1) es
flat_values [] = refl
flat_values (e ∷ es) = ap (λ rest. e.1 ++ rest) (flat_values es)

-- what the slice at a key gives at the pair
abbrev pub gives : RowsBySlice → Pair → ObjKey → Option EndpointRow
gives by q k = row_at (rows_of by k) q

pub all_is_least : (by : RowsBySlice) → IsOrdered key_cmp by → (q : Pair) → IsLeast (gives by q) (row_at (all_rows by) q)
all_is_least by ordered q =
    least_alike (at q by.entries) (gives by q) (row_at (all_rows by) q) (λ k. ap (λ found. row_at (rows_given found) q) (sym (looked_up k by.entries)))
    (subst (λ rows. IsLeast (at q by.entries) (row_at rows q)) (sym (flat_values by.entries)) (least_of_all q by.entries (sorted by.entries ordered)))

-- slices that give the same at a pair show the same there
pub all_alike : (by other : RowsBySlice) → IsOrdered key_cmp by → IsOrdered key_cmp other → (q : Pair) → ((k : ObjKey) → gives by q k ≡ gives other q k) → row_at (all_rows by) q ≡ row_at (all_rows other) q
all_alike by other ordered sorted q same =
    one_least (gives other q) _ _ (least_alike (gives by q) (gives other q) _ same (all_is_least by ordered q)) (all_is_least other sorted q)

-- no slice gives a row
pub none_given : (by : RowsBySlice) → IsOrdered key_cmp by → ((k : ObjKey) → rows_of by k ≡ []) → (q : Pair) → row_at (all_rows by) q ≡ None
none_given by ordered none q = one_least (gives by q) (row_at (all_rows by) q) None (all_is_least by ordered q) (none_least (gives by q) (λ k. ap (λ rows. row_at rows q) (none k)))
