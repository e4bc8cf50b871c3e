use Rattle.std.proofs.Common.{◌≡◌, length, map, take}
use Rattle.mark_rules.specs.Rows.{key_of_row}
use Rattle.inbound_views.proofs.keys.are_of_rows.Given as goal

-- the keys so far are those of the routes so far
abbrev pub invariant-loop-i : goal.invariant-loop-i
invariant-loop-i l = record { long : length l.keys ≡ length l.routes; front : take l.i l.keys ≡ map (key_of_row l.ns) (take l.i l.routes) }
