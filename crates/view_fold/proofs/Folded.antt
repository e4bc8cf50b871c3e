-- The edits of rows, by the maps that the definitions speak of.
use Rattle.std.specs.Prelude.{Result}
use Rattle.std.proofs.Common.{◌≡◌, ℕ, Bool, true, false, cond, not, List, set, [], ◌∷◌, ◌++◌, reverse, Option, None, Ok, Err, OnErr, OnOk, subst, refl, sym, ap, ◌∙◌, append-nil, append_assoc}
use Rattle.std.specs.Cmp.{IsTotalOrder}
use Rattle.std.specs.FinMap.{FinMap, IsAntisymmetric, from_entries, get, get-entries, get-from_sorted, get-retain_keys, insert, remove, retain_keys, same_map, values}
use Rattle.std.specs.FinMap as fin
use Rattle.std.specs.List as list
use Rattle.std.specs.List.{filter, list_any}
use Rattle.std.specs.List.Sorted.{IsPermutation}
use Rattle.std.specs.Ordering.{eq_by_cmp}
use Rattle.std.specs.declared.cmp.Ordering.{Ordering}
use Rattle.std.proofs.lemmas.List.{reverse-append}
use Rattle.std.proofs.lemmas.List.Sorted.{list_any-IsPermutation}
use Rattle.mesh_base.proofs.Keyed.{absent_removed, filtered, filtered_sorted, get_gap, inserted, inserted_sorted, items_are_values, removed, removed_sorted, set_is, set_sorted}
use Rattle.mesh_base.specs.Keyed.{keyed, keyed_map}
use Rattle.mesh_base.specs.Places.{IsGap, IsHit}
use Rattle.view_rules.proofs.AuthzKeys.{authz_exact, authz_total}
use Rattle.view_rules.proofs.KeyMaps as maps
use Rattle.view_rules.proofs.KeyMaps.{map_of_keyed, own_put, own_rows, own_taken, put_append, rows_shown, take_append, taken, values_keyed, values_rise}
use Rattle.view_rules.proofs.Pairs.{pairs_exact, pairs_total}
use Rattle.view_rules.proofs.RowMaps.{Pair}
use Rattle.view_rules.specs.AuthzOrder.{AuthzKey, authz_key}
use Rattle.view_rules.specs.ByKey.{map_of, put_all, take_all}
use Rattle.view_rules.specs.Endpoints.{pair_of}
use Rattle.view_rules.specs.Fold.{AuthzMap, authz_map, authz_of, put_authz, row_map, take_authz, take_out, with_authz, with_rows}
use Rattle.view_rules.specs.InOrder.{in_order_by}
use Rattle.view_types.specs.declared.endpoint.EndpointRow.{EndpointRow}
use Rattle.view_types.specs.declared.endpoint.EndpointView.{EndpointView}
use Rattle.view_types.specs.declared.server_view.AuthzRow.{AuthzRow}
use Rattle.view_types.specs.declared.server_view.ServerView.{ServerView}
use Rattle.view_types.specs.declared.server_view.ServerView.TheVariants.{Absent, Present}

module _ {X K : Type 0} {R : K → K → Ordering} (o : IsTotalOrder R) (exact : IsAntisymmetric R) (key : X → K) where
  abbrev IsRising : List X → Type 0
  IsRising = maps.IsRising o exact key

  abbrev IsOwn : FinMap R X → Type 0
  IsOwn = maps.IsOwn o exact key

  abbrev same_key : K → K → Bool
  same_key = eq_by_cmp R

  abbrev by_key : List X → FinMap R X
  by_key rows = from_entries (keyed R key (λ x. x) rows)

  -- rows that are put one after the other are those whose last comes first
  put_first : (xs ys : List X) → put_all R key xs (by_key ys) ≡ by_key (reverse xs ++ ys)
  put_first [] ys = refl
  put_first (x ∷ xs) ys =
      put_first xs (x ∷ ys) ∙ ap by_key (sym (append_assoc (reverse xs) (x ∷ []) ys) ∙ ap (λ zs. zs ++ ys) (sym (reverse-append (x ∷ []) xs)))

  pub in_order : (xs : List X) → in_order_by R key (reverse xs) ≡ values (map_of R key xs)
  in_order xs = ap values (ap by_key (sym (append-nil (reverse xs))) ∙ sym (put_first xs []))

  pub put_after : (old added : List X) → values (map_of R key (old ++ added)) ≡ values (put_all R key added (map_of R key old))
  put_after old added = ap values (sym (put_append o exact key old added fin.empty))

  -- ---- rows taken out

  turned : (b : Bool) (x : Option X) → cond (not b) x None ≡ cond b None x
  turned true x = refl
  turned false x = refl

  module _ (keys : List K) (m : FinMap R X) (own : IsOwn m) where
    stays : K → Bool
    stays q = not (list_any (same_key q) keys)

    retained : retain_keys (keyed_map R key (λ x. x) (values m)) stays ≡ take_all R key keys m
    unfolding stays
    retained = same_map o exact _ _ (λ q.
        get-retain_keys (keyed_map R key (λ x. x) (values m)) stays q (λ x t. ap stays (sym (exact q x t)))
        ∙ turned (list_any (same_key q) keys) _
        ∙ ap (cond (list_any (same_key q) keys) None) (get-from_sorted R _ q (values_rise o exact key m own) ∙ ap (fin.find R q) (values_keyed o exact key m own) ∙ sym (get-entries m q))
        ∙ sym (taken o exact key keys m q))

    pub rows_stay : filter (λ row. not (list_any (same_key (key row)) keys)) (values m) ≡ values (take_all R key keys m)
    unfolding stays
    rows_stay =
        sym (items_are_values R key _ (filtered_sorted o exact key (λ x. x) stays (values m) (values_rise o exact key m own)))
        ∙ ap values (filtered o exact key (λ x. x) stays (values m) (values_rise o exact key m own) ∙ retained)

  pub kept_by_keys : (keys sorted : List K) (rows : List X) → IsPermutation keys sorted → IsRising rows
      → filter (λ row. not (list_any (same_key (key row)) sorted)) rows ≡ values (take_all R key keys (map_of R key rows))
  kept_by_keys keys sorted rows same rise =
      ap (filter (λ row. not (list_any (same_key (key row)) sorted))) (sym (rows_shown o exact key rows rise))
      ∙ (λ i. filter (λ row. not (sym (list_any-IsPermutation (same_key (key row)) keys sorted same) i)) (values (map_of R key rows)))
      ∙ rows_stay keys (map_of R key rows) (own_rows o exact key rows)

  -- ---- one row put, or taken out, in its place

  module _ (rows : List X) (rise : IsRising rows) where
    -- rows in order whose map is another's
    by_map : (new : List X) (m : FinMap R X) → IsRising new → keyed_map R key (λ x. x) new ≡ m → map_of R key new ≡ m
    by_map new m rises is = map_of_keyed o exact key new rises ∙ is

    module _ (row : X) (i : ℕ) where
      pub set_rising : IsHit (λ r. R (key r) (key row)) rows i → IsRising (set rows i row)
      set_rising hit = set_sorted o exact key (λ x. x) rows rise row i hit.within hit.level

      pub set_puts : IsHit (λ r. R (key r) (key row)) rows i → map_of R key (set rows i row) ≡ insert (map_of R key rows) (key row) row
      set_puts hit =
          by_map _ _ (set_rising hit) (set_is o exact key (λ x. x) rows rise row i hit.within hit.level)
          ∙ ap (λ m. insert m (key row) row) (sym (map_of_keyed o exact key rows rise))

      pub inserted_rising : IsGap (λ r. R (key r) (key row)) rows i → IsRising (list.insert rows i row)
      inserted_rising gap = inserted_sorted o exact key (λ x. x) rows rise row i gap.within gap.parts

      pub inserted_puts : IsGap (λ r. R (key r) (key row)) rows i → map_of R key (list.insert rows i row) ≡ insert (map_of R key rows) (key row) row
      inserted_puts gap =
          by_map _ _ (inserted_rising gap) (inserted o exact key (λ x. x) rows rise row i gap.within gap.parts)
          ∙ ap (λ m. insert m (key row) row) (sym (map_of_keyed o exact key rows rise))

    module _ (k : K) (i : ℕ) where
      pub removed_rising : IsHit (λ r. R (key r) k) rows i → IsRising (list.remove rows i)
      removed_rising hit = removed_sorted o exact key (λ x. x) rows rise k i hit.within hit.level

      pub removed_takes : IsHit (λ r. R (key r) k) rows i → map_of R key (list.remove rows i) ≡ remove (map_of R key rows) k
      removed_takes hit =
          by_map _ _ (removed_rising hit) (removed o exact key (λ x. x) rows rise k i hit.within hit.level)
          ∙ ap (λ m. remove m k) (sym (map_of_keyed o exact key rows rise))

      pub absent_stays : IsGap (λ r. R (key r) k) rows i → map_of R key rows ≡ remove (map_of R key rows) k
      absent_stays gap =
          sym (absent_removed o exact (map_of R key rows) k (ap (λ m. get m k) (map_of_keyed o exact key rows rise) ∙ get_gap o exact key (λ x. x) rows rise k i gap))

  -- one more key taken out
  pub taken_more : (keys : List K) (m rows new : FinMap R X) (k : K) → rows ≡ take_all R key keys m → new ≡ remove rows k → new ≡ take_all R key (keys ++ k ∷ []) m
  taken_more keys m rows new k so_far is = is ∙ ap (λ r. remove r k) so_far ∙ take_append o exact key keys (k ∷ []) m

  -- ---- rows stay in order

  pub put_rising : (added rows : List X) → IsRising (values (put_all R key added (map_of R key rows)))
  put_rising added rows = values_rise o exact key (put_all R key added (map_of R key rows)) (own_put o exact key added (map_of R key rows) (own_rows o exact key rows))

  pub taken_rising : (keys : List K) (rows : List X) → IsRising (values (take_all R key keys (map_of R key rows)))
  taken_rising keys rows = values_rise o exact key (take_all R key keys (map_of R key rows)) (own_taken o exact key keys (map_of R key rows) (own_rows o exact key rows))

-- ---- endpoints stay in order

abbrev RowsRise : List EndpointRow → Type 0
RowsRise = maps.IsRising pairs_total pairs_exact pair_of

pub with_rising : (rows : List EndpointRow) (old : EndpointView) → RowsRise (with_rows rows old).rows
with_rising rows old = put_rising pairs_total pairs_exact pair_of rows old.rows

pub without_rising : (pairs : List Pair) (rows : List EndpointRow) → RowsRise (values (take_out pairs (row_map rows)))
without_rising = taken_rising pairs_total pairs_exact pair_of

pub added_rise : {A E : Type 0} (r : Result A E) (old new : EndpointView) (rows : List EndpointRow) → OnOk r (new ≡ with_rows rows old) → OnErr r (new ≡ old) → RowsRise old.rows → RowsRise new.rows
added_rise (Ok x) old new rows is same rise = subst (λ (view : EndpointView). RowsRise view.rows) (sym is) (with_rising rows old)
added_rise (Err x) old new rows is same rise = subst (λ (view : EndpointView). RowsRise view.rows) (sym same) rise

pub taken_rise : {A E : Type 0} (r : Result A E) (old new : List EndpointRow) (pairs : List Pair) → OnOk r (new ≡ values (take_out pairs (row_map old))) → OnErr r (new ≡ old) → RowsRise old → RowsRise new
taken_rise (Ok x) old new pairs is same rise = subst RowsRise (sym is) (without_rising pairs old)
taken_rise (Err x) old new pairs is same rise = subst RowsRise (sym same) rise

-- ---- authorizations stay in order

abbrev pub AuthzRises : ServerView → Type 0
AuthzRises view = maps.IsRising authz_total authz_exact authz_key (authz_of view)

abbrev IsOwnAuthz : AuthzMap → Type 0
IsOwnAuthz = maps.IsOwn authz_total authz_exact authz_key

-- the edit leaves each row at its own key
abbrev Keeps : (AuthzMap → AuthzMap) → Type 0
Keeps edit = (m : AuthzMap) → IsOwnAuthz m → IsOwnAuthz (edit m)

pub edited_rises : (edit : AuthzMap → AuthzMap) → Keeps edit → (view : ServerView) → AuthzRises (with_authz edit view)
edited_rises edit keeps Absent = tt
edited_rises edit keeps (Present row) = values_rise authz_total authz_exact authz_key (edit (authz_map row.authz)) (keeps (authz_map row.authz) (own_rows authz_total authz_exact authz_key row.authz))

pub sorted_rises : (view : ServerView) → AuthzRises (with_authz (λ authz. authz) view)
sorted_rises = edited_rises (λ authz. authz) (λ m own. own)

pub put_keeps : (rows : List AuthzRow) → Keeps (put_authz rows)
put_keeps = own_put authz_total authz_exact authz_key

pub take_keeps : (keys : List AuthzKey) → Keeps (take_authz keys)
take_keeps = own_taken authz_total authz_exact authz_key

edited_rise : {A E : Type 0} (r : Result A E) (edit : AuthzMap → AuthzMap) → Keeps edit → (old new : ServerView) → OnOk r (new ≡ with_authz edit old) → OnErr r (new ≡ old) → AuthzRises old → AuthzRises new
edited_rise (Ok x) edit keeps old new is same rise = subst AuthzRises (sym is) (edited_rises edit keeps old)
edited_rise (Err x) edit keeps old new is same rise = subst AuthzRises (sym same) rise

pub put_rise : {A E : Type 0} (r : Result A E) (rows : List AuthzRow) (old new : ServerView) → OnOk r (new ≡ with_authz (put_authz rows) old) → OnErr r (new ≡ old) → AuthzRises old → AuthzRises new
put_rise r rows = edited_rise r (put_authz rows) (put_keeps rows)

pub take_rise : {A E : Type 0} (r : Result A E) (keys : List AuthzKey) (old new : ServerView) → OnOk r (new ≡ with_authz (take_authz keys) old) → OnErr r (new ≡ old) → AuthzRises old → AuthzRises new
take_rise r keys = edited_rise r (take_authz keys) (take_keeps keys)
