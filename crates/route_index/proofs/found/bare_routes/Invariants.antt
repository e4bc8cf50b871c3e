use Rattle.std.proofs.Common.{◌≡◌, map, take}
use Rattle.mark_rules.specs.Rows.{bare_route}
use Rattle.route_index.proofs.found.bare_routes.Given as goal

-- what is shown of the routes so far
abbrev pub invariant-loop-route : goal.invariant-loop-route
invariant-loop-route l = l.rows ≡ map (λ route. bare_route route.now) (take l.route-index l.routes)
