use Rattle.std.proofs.Common.{◌≡◌, ◌+◌, ◌≤◌, map, take}
use Rattle.std.specs.List.{flat_map}
use Rattle.mark_rules.specs.Reads.{backends_of, cost}
use Rattle.view_rules.specs.Outbound.{outbound_route}
use Rattle.view_scratch.proofs.outbound.route_rows.Given as goal

-- the rows of the routes so far
abbrev pub invariant-loop-route : goal.invariant-loop-route
invariant-loop-route g l = record {
  rows : l.rows ≡ map (λ route. outbound_route l.from.store.now.objects route.now) (take l.route-index l.routes);
  steps : l.steps ≤ l.initial.steps + cost l.from.store.now.objects (flat_map (λ route. backends_of route.now) (take l.route-index l.routes));
}
