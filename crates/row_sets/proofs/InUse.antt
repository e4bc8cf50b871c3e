-- The rows of sets of keys that have users, in terms of the ids that are open with these.
use Rattle.std.proofs.Common.{◌≡◌, ◌<◌, ℕ, cond, List, Option, Some, sym, ap, ◌∙◌, arith}
use Rattle.std.specs.BTreeMap.{BTreeMap}
use Rattle.std.specs.Cmp.{IsTotalOrder}
use Rattle.std.specs.FinMap.{IsAntisymmetric}
use Rattle.std.specs.List.{filter_map}
use Rattle.std.specs.declared.cmp.Ordering.{Ordering}
use Rattle.view_types.specs.Objects.{ObjectMap}
use Rattle.view_types.specs.declared.config.Config.{Config}
use Rattle.view_types.specs.declared.query.Query.{Query}
use Rattle.mark_graph.specs.declared.rows_by_mark.RowsByMark.{RowsByMark}
use Rattle.mark_rules.specs.declared.keys.RowKey.{RowKey}
use Rattle.row_table.specs.IndexRows.{has_key}
use Rattle.row_views.specs.Ids.{has_ids}
use Rattle.row_views.specs.InUse.{IsInUse}
use Rattle.row_views.specs.Queries.{rows_at}
use Rattle.row_views.proofs.Ids.{has_where}
use Rattle.row_views.proofs.InUse.{is_used, key_there, row_there}
use Rattle.row_sets.specs.Standing.{Standing, keys_at}
use Rattle.row_sets.proofs.Costs.{id_at}

-- Each id is open with the keys of those rows of its query that are of one kind.
module _ {Index Key : Type 0} (cmp : Key → Key → Ordering) (total : IsTotalOrder cmp) (exact : IsAntisymmetric cmp) (users : Index → Key → ℕ) (stand : Index → ObjectMap → Type 0) (held : ObjectMap)
    (index : Index) (by_key : RowsByMark Key) (by_id : BTreeMap ℕ (List Key)) (st : Standing cmp users stand held index by_key by_id)
    (config : Config) (queries : ℕ → Option Query) (key_of : RowKey → Option Key) (row : Key → RowKey) (keys : (id : ℕ) → keys_at by_id id ≡ filter_map key_of (rows_at config held (queries id))) where
  -- a row with users is of the query of an id
  pub used_row : ((of : RowKey) (key : Key) → key_of of ≡ Some key → row key ≡ of) → (key : Key) → 0 < users index key → IsInUse config held queries (row key)
  used_row own key some =
      let user = id_at cmp total exact by_key by_id st.in_use.each st.ids key (is_used (users index key) (has_ids cmp by_key key) (st.in_use.one_user key) some) in
      record { id = user.0; of_query = row_there cmp total exact key_of row own (rows_at config held (queries user.0)) key (sym (ap (λ (ks : List Key). has_key cmp ks key) (keys user.0)) ∙ user.1) }

  -- and one without is of none
  pub unused_row : ((key : Key) → key_of (row key) ≡ Some key) → (key : Key) → users index key ≡ 0 → IsInUse config held queries (row key) → ⊥
  unused_row back key none used =
      let has = ap (λ (ks : List Key). has_key cmp ks key) (keys used.id) ∙ key_there cmp total exact key_of row back (rows_at config held (queries used.id)) key used.of_query in
      let one : users index key ≡ 1 = st.in_use.one_user key ∙ ap (λ b. cond b 1 0) (has_where cmp total exact by_key key used.id (st.ids key used.id ∙ has)) in
      omega (arith, none, one)
