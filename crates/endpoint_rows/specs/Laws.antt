-- The view of the slices of a Service has the endpoints of the Service's port.
use Rattle.std.specs.Prelude.{◌≡◌, ℕ, List, [], Option, Some, None, option_and_then}
use Rattle.std.specs.FinMap.{get}
use Rattle.mesh_base.specs.declared.key.ObjKey.{ObjKey}
use Rattle.view_rules.specs.Endpoints.{RowFor, first_rows, rows_from, slice_in, slice_rows, slices_held}
use Rattle.view_types.specs.Objects.{ObjectMap}
use Rattle.view_types.specs.declared.endpoint.EndpointRow.{EndpointRow}
use Rattle.view_types.specs.declared.slice.Slice.{Slice}
use Rattle.endpoint_rows.specs.Kept.{Agree, all_rows, rows_of}
use Rattle.endpoint_rows.specs.declared.slices.Slices.{Slices}

abbrev pub rows_in : (Slice → List EndpointRow) → Option Slice → List EndpointRow
rows_in rows None = []
rows_in rows (Some slice) = rows slice

-- the rows that the object at a key gives at ports of the name, if it is a slice of the Service
abbrev pub rows_held : RowFor → ObjectMap → List ℕ → List ℕ → List ℕ → ObjKey → List EndpointRow
rows_held row held ns name port_name key = rows_in (slice_rows row port_name) (option_and_then (slice_in ns name) (get held key))

-- If each slice of the Service is kept, and nothing else, the first rows of all are those of the Service at ports of the name.
abbrev pub SlicesMakeTheService : Type 0
SlicesMakeTheService = (row : RowFor) (held : ObjectMap) (ns name port_name : List ℕ) (s : Slices) → Agree s
    → ((key : ObjKey) → rows_of s.by_slice key ≡ first_rows (rows_held row held ns name port_name key))
    → first_rows (all_rows s.by_slice) ≡ rows_from row (slices_held held ns name) (Some port_name)
