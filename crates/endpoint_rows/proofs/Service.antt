-- The rows of a Service are the first of those that its slices give.
use Rattle.std.proofs.Common.{◌≡◌, Bool, true, false, cond, ◌&&◌, List, [], ◌∷◌, ◌++◌, map, Option, Some, None, refl, sym, ap, subst, ◌∙◌}
use lib.Dec.{T}
use Rattle.std.specs.FinMap.{entries, entries_sorted, find, get, get-entries, is_sorted, values}
use Rattle.std.specs.FinMap.Entries.{below_all}
use Rattle.std.specs.List.{cons_option, filter_map, flat_map}
use Rattle.std.specs.Option.{option_and_then, option_map}
use Rattle.std.specs.Ordering.{eq_by_cmp}
use Rattle.mesh_base.specs.KeyOrder.{key_cmp}
use Rattle.mesh_base.specs.declared.key.ObjKey.{ObjKey}
use Rattle.view_rules.proofs.Entries.{first, second}
use Rattle.view_rules.specs.Endpoints.{first_rows, slice_in, slice_rows, slices_held}
use Rattle.view_types.specs.Objects.{ObjectMap}
use Rattle.view_types.specs.declared.endpoint.EndpointRow.{EndpointRow}
use Rattle.view_types.specs.declared.object.Object.{Object}
use Rattle.view_types.specs.declared.slice.Slice.{Slice}
use Rattle.row_places.specs.Rows.{row_at}
use Rattle.endpoint_rows.specs.Kept.{Pair, all_rows, rows_given}
use Rattle.endpoint_rows.specs.Laws.{SlicesMakeTheService, rows_held, rows_in}
use Rattle.endpoint_rows.proofs.ByKey.{all_is_least, gives}
use Rattle.view_diff.proofs.Found.{same_rows}
use Rattle.endpoint_rows.proofs.Found.{first_at, first_rises}
use Rattle.endpoint_rows.proofs.LeastKey.{IsLeast, at, least_alike, least_of_all, one_least}

both : (a b : Bool) → T a → T b → T (a && b)
both true b p q = q
both false b p q = absurd p

module _ (h : Object → Option Slice) (rows : Slice → List EndpointRow) where
  abbrev of_object : Object → List EndpointRow
  of_object o = rows_in rows (h o)

  abbrev given : List (ObjKey × Object) → List (ObjKey × List EndpointRow)
  given es = map (λ (e : ObjKey × Object). (e.0, of_object e.1)) es

  below : (k : ObjKey) (es : List (ObjKey × Object)) → T (below_all key_cmp k es) → T (below_all key_cmp k (given es))
  below k [] b = tt
  below k (e ∷ es) b = both _ _ (first _ _ b) (below k es (second _ _ b))

  sorted : (es : List (ObjKey × Object)) → T (is_sorted key_cmp es) → T (is_sorted key_cmp (given es))
  sorted [] s = tt
  sorted (e ∷ es) s = both _ _ (below e.0 es (first _ _ s)) (sorted es (second _ _ s))

  one_found : (b : Bool) (o : Object) (found : Option Object) → option_map of_object (cond b (Some o) found) ≡ cond b (Some (of_object o)) (option_map of_object found)
  one_found true o found = refl
  one_found false o found = refl

  found_given : (k : ObjKey) (es : List (ObjKey × Object)) → find key_cmp k (given es) ≡ option_map of_object (find key_cmp k es)
  found_given k [] = refl
  found_given k (e ∷ es) = ap (cond (eq_by_cmp key_cmp k e.0) (Some (of_object e.1))) (found_given k es) ∙ sym (one_found (eq_by_cmp key_cmp k e.0) e.1 (find key_cmp k es))

  opened : (found : Option Object) → rows_given (option_map of_object found) ≡ rows_in rows (option_and_then h found)
  opened None = refl
  opened (Some o) = refl

  joined : (found : Option Slice) (rest : List Slice) → rows_in rows found ++ flat_map rows rest ≡ flat_map rows (cons_option found rest)
  joined None rest = refl
  joined (Some s) rest = refl

  flat : (es : List (ObjKey × Object)) → flat_map (λ (e : ObjKey × List EndpointRow). e.1) (given es) ≡ flat_map rows (filter_map h (map (λ (e : ObjKey × Object). e.1) es))
  flat [] = refl
  flat (e ∷ es) = ap (λ rest. of_object e.1 ++ rest) (flat es) ∙ joined (h e.1) (filter_map h (map (λ (e : ObjKey × Object). e.1) es))

  pub least_held : (held : ObjectMap) (q : Pair) → IsLeast (λ k. row_at (rows_in rows (option_and_then h (get held k))) q) (row_at (flat_map rows (filter_map h (values held))) q)
  least_held held q =
      least_alike (at q (given (entries held))) (λ k. row_at (rows_in rows (option_and_then h (get held k))) q) _
      (λ k. ap (λ found. row_at (rows_given found) q) (found_given k (entries held)) ∙ ap (λ rows. row_at rows q) (opened (find key_cmp k (entries held))) ∙ ap (λ found. row_at (rows_in rows (option_and_then h found)) q) (sym (get-entries held k)))
      (subst (λ all. IsLeast (at q (given (entries held))) (row_at all q)) (flat (entries held)) (least_of_all q (given (entries held)) (sorted (entries held) (entries_sorted held))))

pub make_the_service : SlicesMakeTheService
make_the_service row held ns name port_name s agree each =
    let all = flat_map (slice_rows row port_name) (slices_held held ns name) in
    same_rows (first_rows (all_rows s.by_slice)) (first_rows all) (first_rises (all_rows s.by_slice)) (first_rises all)
    (λ q. first_at q (all_rows s.by_slice)
    ∙ one_least (λ k. row_at (rows_held row held ns name port_name k) q) _ _
    (least_alike (gives s.by_slice q) (λ k. row_at (rows_held row held ns name port_name k) q) _ (λ k. ap (λ rows. row_at rows q) (each k) ∙ first_at q (rows_held row held ns name port_name k)) (all_is_least s.by_slice agree.ordered q))
    (least_held (slice_in ns name) (slice_rows row port_name) held q)
    ∙ sym (first_at q all))
