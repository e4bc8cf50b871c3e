-- Rows by their addresses and ports, as a map and as a list in order.
use Rattle.std.proofs.Common.{◌≡◌, ◌≢◌, ℕ, true, false, List, [], Option, Some, None, refl}
use Rattle.std.specs.FinMap.{entries, get, insert, remove, values}
use Rattle.mesh_base.specs.Keyed.{keyed}
use Rattle.net_cidr.specs.declared.ip.Ip.{Ip}
use Rattle.view_rules.proofs.KeyMaps as keys
use Rattle.view_rules.proofs.Pairs.{pairs_exact, pairs_total}
use Rattle.view_rules.specs.Batch.{has_pair, same_pair}
use Rattle.view_rules.specs.Endpoints.{pair_cmp, pair_of}
use Rattle.view_rules.specs.Fold.{IsOrderly, RowMap, row_map}
use Rattle.view_types.specs.declared.endpoint.EndpointRow.{EndpointRow}
use Rattle.view_types.specs.declared.endpoint.EndpointView.{EndpointView}

abbrev pub Pair : Type 0
Pair = Ip × ℕ

abbrev pub IsRising : List EndpointRow → Type 0
IsRising = keys.IsRising pairs_total pairs_exact pair_of

-- the row at a pair
abbrev pub found : Pair → List EndpointRow → Option EndpointRow
found = keys.found pairs_total pairs_exact pair_of

pub at_pair : (q p : Pair) → same_pair q p ≡ true → q ≡ p
at_pair = keys.at_key pairs_total pairs_exact pair_of

-- ---- the row at a pair

pub found_own : (rows : List EndpointRow) (q : Pair) (x : EndpointRow) → found q rows ≡ Some x → pair_of x ≡ q
found_own = keys.found_own pairs_total pairs_exact pair_of

pub found_there : (rows : List EndpointRow) (q : Pair) (x : EndpointRow) → found q rows ≡ Some x → has_pair rows q ≡ true
found_there = keys.found_there pairs_total pairs_exact pair_of

pub not_there : (rows : List EndpointRow) (q : Pair) → found q rows ≡ None → has_pair rows q ≡ false
not_there = keys.not_there pairs_total pairs_exact pair_of

-- rows in order are found in their map
pub get_rising : (rows : List EndpointRow) (q : Pair) → IsRising rows → get (row_map rows) q ≡ found q rows
get_rising = keys.get_rising pairs_total pairs_exact pair_of

-- ---- maps in which each row is at its own pair

abbrev pub IsOwn : RowMap → Type 0
IsOwn = keys.IsOwn pairs_total pairs_exact pair_of

pub own_insert : (m : RowMap) (r : EndpointRow) → IsOwn m → IsOwn (insert m (pair_of r) r)
own_insert = keys.own_insert pairs_total pairs_exact pair_of

pub own_remove : (m : RowMap) (p : Pair) → IsOwn m → IsOwn (remove m p)
own_remove = keys.own_remove pairs_total pairs_exact pair_of

pub own_rows : (rows : List EndpointRow) → IsOwn (row_map rows)
own_rows = keys.own_rows pairs_total pairs_exact pair_of

pub values_keyed : (m : RowMap) → IsOwn m → keyed pair_cmp pair_of (λ row. row) (values m) ≡ entries m
values_keyed = keys.values_keyed pairs_total pairs_exact pair_of

pub values_rise : (m : RowMap) → IsOwn m → IsRising (values m)
values_rise = keys.values_rise pairs_total pairs_exact pair_of

-- what is shown of such a map gives the map
pub shown : (m : RowMap) → IsOwn m → row_map (values m) ≡ m
shown = keys.shown pairs_total pairs_exact pair_of

-- rows in order are what their map shows
pub rows_shown : (rows : List EndpointRow) → IsRising rows → values (row_map rows) ≡ rows
rows_shown = keys.rows_shown pairs_total pairs_exact pair_of

-- ---- the rows of an orderly view

pub keyed_rows : (view : EndpointView) → IsOrderly view → IsRising view.rows
keyed_rows view is = keys.rises pairs_total pairs_exact pair_of view.rows is.rise

-- a Service with rows is there
pub is_there : (view : EndpointView) → IsOrderly view → view.rows ≢ [] → view.exists ≡ true
is_there view is some = elim view.exists as (λ b. view.exists ≡ b → b ≡ true) [
  | true ↦ λ e. refl
  | false ↦ λ e. absurd (some (is.absent e))
] refl
