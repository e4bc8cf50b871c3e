-- Earlier endpoints, given the current ones and the addresses that may have changed since.
use Rattle.std.specs.Prelude.{◌≡◌, ℕ, Bool, List, [], ◌∷◌, Option, Some, None, All, IfSome, map, if◌then◌else◌}
use Rattle.std.specs.FinMap.{insert, remove, values}
use Rattle.std.specs.List.Sorted.{IsStrictlySortedBy}
use Rattle.net_cidr.specs.declared.ip.Ip.{Ip}
use Rattle.row_places.specs.Rows.{row_at}
use Rattle.view_rules.specs.Endpoints.{pair_cmp, pair_of}
use Rattle.view_rules.specs.Fold.{RowMap, row_map}
use Rattle.view_rules.specs.Same.{same_row}
use Rattle.view_types.specs.declared.endpoint.EndpointRow.{EndpointRow}
use Rattle.view_types.specs.declared.endpoint.EndpointView.{EndpointView}

-- an address and port, and the row that was there, if any
abbrev pub Stood : Type 0
Stood = Ip × ℕ × Option EndpointRow

abbrev pub address : Stood → Ip × ℕ
address s = (s.0, s.1)

-- ---- the earlier endpoints

-- the rows with this row at the address, or with none there
abbrev pub put_at : Ip × ℕ → Option EndpointRow → RowMap → RowMap
put_at pair None m = remove m pair
put_at pair (Some row) m = insert m pair row

-- the rows with the earlier row, or none, at each of these addresses
abbrev pub put_back : List Stood → RowMap → RowMap
put_back [] m = m
put_back (s ∷ before) m = put_back before (put_at (address s) s.2 m)

abbrev pub earlier_rows : List Stood → List EndpointRow → List EndpointRow
earlier_rows before now = values (put_back before (row_map now))

-- the endpoints with these addresses as they were; at all others they are as now
abbrev pub earlier_endpoints : Bool → List Stood → EndpointView → EndpointView
earlier_endpoints exists before now = record { exists = exists; rows = earlier_rows before now.rows }

-- The addresses are in order, each once, and each row has its own address.
pub record IsByAddress (before : List Stood) : Type 0 where
  pub rise : IsStrictlySortedBy pair_cmp (map address before)
  pub own : All (λ s. IfSome s.2 (λ row. pair_of row ≡ address s)) before

-- ---- the change at an address

-- the current row, if it is new or has changed
abbrev pub row_if_changed : Option EndpointRow → Option EndpointRow → Option EndpointRow
row_if_changed was None = None
row_if_changed None (Some row) = Some row
row_if_changed (Some was) (Some row) = if same_row row was then None else Some row

-- the earlier row, if there is none now
abbrev pub row_if_gone : Option EndpointRow → Option EndpointRow → Option EndpointRow
row_if_gone None now = None
row_if_gone (Some was) None = Some was
row_if_gone (Some was) (Some row) = None

abbrev pub changed_at : List EndpointRow → Stood → Option EndpointRow
changed_at now s = row_if_changed s.2 (row_at now (address s))

abbrev pub gone_at : List EndpointRow → Stood → Option EndpointRow
gone_at now s = row_if_gone s.2 (row_at now (address s))
