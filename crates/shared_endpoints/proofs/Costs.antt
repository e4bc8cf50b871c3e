-- What is looked up as shared streams follow a change, in terms of the rows of queries.
use Rattle.std.proofs.Common.{◌≤◌, ◌+◌, ℕ, List, refl, subst}
use Rattle.std.specs.List.{sum_by}
use Rattle.std.specs.Option.{is_some}
use Rattle.mesh_base.specs.declared.limits.Limits.{Limits}
use Rattle.view_types.specs.Objects.{ObjectMap}
use Rattle.view_types.specs.declared.config.Config.{Config}
use Rattle.view_types.specs.declared.endpoint.EndpointView.{EndpointView}
use Rattle.view_types.specs.declared.mark.Mark.{Mark}
use Rattle.mark_rules.specs.Reads.{cost, endpoint_reads}
use Rattle.mark_rules.specs.Rows.{endpoint_row}
use Rattle.mark_rules.specs.declared.keys.EndpointKey.{EndpointKey}
use Rattle.mark_rules.specs.declared.keys.RowKey.TheVariants as row
use Rattle.row_table.specs.IndexRows.{AreMet, Filter, IsCurrent}
use Rattle.row_views.specs.Costs.{FollowedRows}
use Rattle.row_views.proofs.Costs.{followed, met_cost}
use Rattle.endpoint_index.specs.contracts.index.EndpointIndexRowIndex.TheImpl.{ghosts as the_index}
use Rattle.endpoint_index.specs.contracts.index.EndpointIndexRowIndex.TheImpl.Laws.{current-law}
use Rattle.shared_endpoints.specs.ByKey.{key_cmp, streams_at}
use Rattle.shared_endpoints.specs.InUse.{asked_at, in_use}
use Rattle.shared_endpoints.specs.Standing.{StandsExactly, row_at, users}
use Rattle.shared_endpoints.specs.declared.shared.SharedEndpoints.{SharedEndpoints}
use Rattle.shared_endpoints.proofs.ByKey.{key_exact, key_total}

module _ (config : Config) (limits : Limits) (held after : ObjectMap) (changed : List Mark) (s : SharedEndpoints) (st : StandsExactly config limits held s) where
  abbrev the_filter : Filter EndpointKey EndpointView
  the_filter = record { row_of = endpoint_row config; reads = endpoint_reads }

  pub rows_followed : (keys : List EndpointKey) → AreMet key_cmp changed (the_index.marks_at s.index) keys → (old new : ℕ) → new ≤ old + sum_by (λ key. cost after (endpoint_reads after key)) keys → FollowedRows config changed held after (asked_at s) old new
  rows_followed keys met old new most =
      let indexed = st.stands.indexed in
      followed key_cmp key_total key_exact row.Endpoint (λ a b same. cc same) the_filter config (λ h k. refl) held after changed (asked_at s) (λ key. is_some (streams_at s.by_key key)) (in_use config limits held s st) old new
      (met_cost key_cmp key_total key_exact users the_filter row_at the_index.marks_at held after changed s.index
      (λ key. subst (λ (filter : Filter EndpointKey EndpointView). IsCurrent filter held key (users s.index key) (row_at s.index key) (the_index.marks_at s.index key)) indexed.filter (current-law s.index held indexed.stands key))
      (λ key. is_some (streams_at s.by_key key)) indexed.one_user keys met old new most)
