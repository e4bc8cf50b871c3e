-- The rows of each view are in order, and a Service that isn't there has none.
use Rattle.std.proofs.Common.{ℕ, true, false, cond, List, map, Option, Some, None, refl}
use Rattle.std.specs.List.{flat_map}
use Rattle.std.specs.List.Sorted.{IsStrictlySortedBy}
use Rattle.view_types.specs.declared.endpoint.EndpointView.{EndpointView}
use Rattle.view_types.specs.declared.service.Service.{Service}
use Rattle.view_types.specs.declared.slice.Slice.{Slice}
use Rattle.view_rules.specs.Endpoints.{RowFor, endpoints_from, no_endpoints, pair_cmp, pair_of, port_name, rows_from, service_held, slice_rows, slices_held}
use Rattle.view_rules.specs.Fold.{IsOrderly}
use Rattle.view_rules.specs.Laws.{EndpointsAreOrderly}
use Rattle.view_rules.specs.PodRows.{row_for}
use Rattle.view_rules.proofs.FirstRows.{are_first}

pub none_is_orderly : IsOrderly no_endpoints
unfolding IsStrictlySortedBy
none_is_orderly = record { rise = tt; absent = λ e. refl }

rows_rise : (row_of : RowFor) (slices : List Slice) (named : Option (List ℕ)) → IsStrictlySortedBy pair_cmp (map pair_of (rows_from row_of slices named))
unfolding IsStrictlySortedBy
rows_rise row_of slices None = tt
rows_rise row_of slices (Some name) = (are_first (flat_map (slice_rows row_of name) slices)).rise

orderly : (row_of : RowFor) (slices : List Slice) (port : ℕ) (found : Option Service) → IsOrderly (endpoints_from row_of slices port found)
orderly row_of slices port None = none_is_orderly
orderly row_of slices port (Some s) =
    elim s.external as (λ b. IsOrderly (cond {A = EndpointView} b no_endpoints (record { exists = true; rows = rows_from row_of slices (port_name port s.ports) }))) [
      | true ↦ none_is_orderly
      | false ↦ record { rise = rows_rise row_of slices (port_name port s.ports); absent = λ e. absurd (cc e) }
    ]

pub endpoints_are_orderly : EndpointsAreOrderly
endpoints_are_orderly config held ns name port = orderly (row_for config held) (slices_held held ns name) port (service_held held ns name)
