use Rattle.std.proofs.Common.{◌≡◌, ℕ, ◌+◌, ◌<◌, ◌≤◌, ◌++◌, Some, codes, length}
use Rattle.std.specs.List.{slice_get}
use Rattle.std.specs.String.{string_bytes, string_capacity, string_len}
use Rattle.view_types.specs.declared.server_view.RouteRow.{RouteRow}
use Rattle.request_sim.proofs.matched.room_for_text.Given as goal

-- there is room for the names so far
abbrev pub invariant-loop-row : goal.invariant-loop-row
invariant-loop-row l = record {
  front : string_bytes l.room ≡ l.ns ++ codes "/";
  room : (k : ℕ) → k < l.row-index → (row : RouteRow) → slice_get l.routes k ≡ Some row → string_len l.room + length row.name ≤ string_capacity l.room;
}
