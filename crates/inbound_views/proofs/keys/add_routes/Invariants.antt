use Rattle.std.proofs.Common.{◌≡◌, ◌++◌, map, take}
use Rattle.mark_rules.specs.Rows.{key_of_row}
use Rattle.inbound_views.proofs.keys.add_routes.Given as goal

-- the keys of the routes so far
abbrev pub invariant-loop-route : goal.invariant-loop-route
invariant-loop-route l = l.keys ≡ l.initial.keys ++ map (key_of_row l.ns) (take l.route-index l.routes)
