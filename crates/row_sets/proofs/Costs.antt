-- The keys of sets that are in use, in terms of the ids that are open with them.
use Rattle.std.proofs.Common.{◌≡◌, ℕ, true, List, sym, ◌∙◌}
use Rattle.std.specs.BTreeMap.{BTreeMap}
use Rattle.std.specs.Cmp.{IsTotalOrder}
use Rattle.std.specs.FinMap.{IsAntisymmetric}
use Rattle.std.specs.declared.cmp.Ordering.{Ordering}
use Rattle.mark_graph.specs.RowMarks.{AllHaveRows, row_at}
use Rattle.mark_graph.specs.declared.rows_by_mark.RowsByMark.{RowsByMark}
use Rattle.row_table.specs.IndexRows.{has_key}
use Rattle.row_views.specs.Ids.{has_ids}
use Rattle.row_views.proofs.Ids.{has_one}
use Rattle.row_sets.specs.Standing.{keys_at}

-- an id is open with each key that has ids
pub id_at : {Key : Type 0} (cmp : Key → Key → Ordering) → IsTotalOrder cmp → IsAntisymmetric cmp → (by_key : RowsByMark Key) (by_id : BTreeMap ℕ (List Key)) → AllHaveRows cmp by_key
    → ((key : Key) (id : ℕ) → row_at cmp by_key key id ≡ has_key cmp (keys_at by_id id) key) → (key : Key) → has_ids cmp by_key key ≡ true → (id : ℕ) × (has_key cmp (keys_at by_id id) key ≡ true)
id_at cmp total exact by_key by_id each ids key has = let one = has_one cmp total exact by_key each key has in (one.0, sym (ids key one.0) ∙ one.1)
