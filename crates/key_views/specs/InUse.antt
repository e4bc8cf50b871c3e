-- The rows that have users, where each query requests the row of one key.
use Rattle.std.proofs.Common.{ℕ, Option}
use Rattle.std.specs.BTreeMap.{BTreeMap}
use Rattle.std.specs.Cmp.{IsTotalOrder}
use Rattle.std.specs.FinMap.{IsAntisymmetric}
use Rattle.std.specs.Prelude.{option_map}
use Rattle.std.specs.declared.cmp.Ordering.{Ordering}
use Rattle.view_types.specs.Objects.{ObjectMap}
use Rattle.view_types.specs.declared.config.Config.{Config}
use Rattle.view_types.specs.declared.query.Query.{Query}
use Rattle.view_types.specs.declared.view.View.{View}
use Rattle.mark_rules.specs.declared.keys.RowKey.{RowKey}
use Rattle.row_table.specs.IndexRows.{Filter}
use Rattle.row_views.specs.Ids.{key_at}
use Rattle.row_views.specs.InUse.{AreInUse, users_if}
use Rattle.row_views.specs.Standing.{AreKept}
use Rattle.row_views.specs.declared.numbered_ids.NumberedIds.{NumberedIds}
use Rattle.row_views.proofs.InUse.{asked_in_use, in_use_of}
use Rattle.key_views.specs.Asked.{AreAsked}

-- they are those of the queries of ids
pub keys_in_use : {Index Key Row : Type 0} {rows_under : Config → Filter Key Row} {query_for : Key → Query} {row_key : Key → RowKey} {key_in : RowKey → Option Key} {view_in : Row → View} → AreAsked rows_under query_for row_key key_in view_in
    → {cmp : Key → Key → Ordering} → IsTotalOrder cmp → IsAntisymmetric cmp
    → {users : Index → Key → ℕ} {number_at : Index → Key → Option ℕ} {stand : Index → ObjectMap → Type 0} {filter_of : Index → Filter Key Row} {config : Config} {held : ObjectMap} {index : Index} {by_number : NumberedIds} {by_id : BTreeMap ℕ Key}
    → ∥ AreKept cmp users number_at stand filter_of (rows_under config) held index by_number by_id ∥₁ → AreInUse config held (λ id. option_map query_for (key_at by_id id)) (λ key. users_if (users index) (key_in key))
keys_in_use {query_for} {row_key} {key_in} asked {cmp} total exact {users} {number_at} {stand} {config} {held} {index} {by_number} {by_id} stands =
    in_use_of stands (λ kept. asked_in_use cmp total exact users number_at stand row_key query_for config held index by_number by_id kept.rows key_in asked.own asked.back (asked.only config held))
