use Rattle.std.proofs.Common.{◌≡◌, ◌+◌, ◌≤◌, map, take}
use Rattle.std.specs.List.{flat_map}
use Rattle.mark_rules.specs.Reads.{authz_reads, cost}
use Rattle.view_rules.specs.Inbound.{inbound_route}
use Rattle.view_rules.specs.Routes.{route_key}
use Rattle.view_scratch.proofs.inbound.route_rows.Given as goal

-- the rows of the routes so far
abbrev pub invariant-loop-route : goal.invariant-loop-route
invariant-loop-route g l = record {
  rows : l.rows ≡ map (λ route. inbound_route l.from.config.now l.from.store.now.objects route.now) (take l.route-index l.routes);
  steps : l.steps ≤ l.initial.steps + cost l.from.store.now.objects (flat_map (λ route. authz_reads l.from.store.now.objects (route_key route.now)) (take l.route-index l.routes));
}
