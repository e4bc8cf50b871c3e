-- The rows of a Service's port by the slices that give them, and the view of these rows.
use Rattle.std.specs.Prelude.{◌≡◌, ℕ, Bool, false, if◌then◌else◌, flat_map, List, [], Option, Some, None}
use Rattle.std.specs.BTreeMap as tree
use Rattle.std.specs.BTreeMap.{BTreeMap}
use Rattle.std.specs.List.{list_any}
use Rattle.key_lists.specs.Keys.{key_at}
use Rattle.mesh_base.specs.Keyed.{IsKeyed}
use Rattle.mesh_base.specs.KeyOrder.{key_cmp}
use Rattle.mesh_base.specs.declared.key.ObjKey.{ObjKey}
use Rattle.net_cidr.specs.declared.ip.Ip.{Ip}
use Rattle.row_places.specs.Rows.{row_at}
use Rattle.view_rules.specs.Batch.{has_pair, same_pair}
use Rattle.view_rules.specs.Endpoints.{pair_cmp, pair_of}
use Rattle.view_types.specs.declared.endpoint.EndpointRow.{EndpointRow}
use Rattle.endpoint_rows.specs.declared.rows.EndpointRows.{EndpointRows}
use Rattle.endpoint_rows.specs.declared.slices.Slices.{Slices}

abbrev pub Pair : Type 0
Pair = Ip × ℕ

-- the rows are in order of address and port, each pair once
abbrev pub Rises : List EndpointRow → Type 0
Rises rows = IsKeyed pair_cmp pair_of (λ row. row) rows

-- ---- the rows of slices

abbrev pub RowsBySlice : Type 0
RowsBySlice = BTreeMap ObjKey (List EndpointRow)

abbrev pub KeysByPair : Type 0
KeysByPair = BTreeMap Pair (List ObjKey)

abbrev pub rows_given : Option (List EndpointRow) → List EndpointRow
rows_given None = []
rows_given (Some rows) = rows

-- the rows that the slice at a key gives
abbrev pub rows_of : RowsBySlice → ObjKey → List EndpointRow
rows_of by key = rows_given (tree.get key_cmp by key)

-- the rows of all slices, in the order of their keys
abbrev pub all_rows : RowsBySlice → List EndpointRow
all_rows by = flat_map (λ rows. rows) (tree.values by)

-- the slices are in the order of their keys, and each pair has the keys of the slices that give it
pub record Agree (s : Slices) : Type 0 where
  pub ordered : tree.IsOrdered key_cmp s.by_slice
  pub keys : (pair : Pair) (key : ObjKey) → key_at pair_cmp s.by_pair pair key ≡ has_pair (rows_of s.by_slice key) pair

-- ---- the view

-- the pair is in the list
abbrev pub has : List Pair → Pair → Bool
has pairs pair = list_any (same_pair pair) pairs

-- the new rows have this row, or none, at the pair, and the old rows' row at each other pair
pub record Replaces (pair : Pair) (row : Option EndpointRow) (old new : List EndpointRow) : Type 0 where
  pub rise : Rises new
  pub rows : (q : Pair) → row_at new q ≡ (if same_pair q pair then row else row_at old q)

-- the new rows have at these pairs the rows of `all`, and at each other pair those of the old rows
pub record ReplacesAll (pairs : List Pair) (all old new : List EndpointRow) : Type 0 where
  pub rise : Rises new
  pub rows : (q : Pair) → row_at new q ≡ (if has pairs q then row_at all q else row_at old q)

-- at each pair except these, the view has the first row of `all`
pub record Shows (touched : List Pair) (all shown : List EndpointRow) : Type 0 where
  pub rise : Rises shown
  pub rest : (pair : Pair) → has touched pair ≡ false → row_at shown pair ≡ row_at all pair

-- the rows of slices agree with the keys at pairs, and the view has the first rows, except at the pairs that were touched since
pub record Keeps (s : EndpointRows) : Type 0 where
  pub agree : Agree s.slices
  pub shows : Shows s.touched (all_rows s.slices.by_slice) s.view.rows
