use Rattle.mark_rules.proofs.Counts.{cost_stops}
use Rattle.std.proofs.Common.{Bor}
use Rattle.view_types.specs.declared.route.Route.{Route}
use Rattle.view_rules.specs.Routes.{route_key}
use Rattle.mark_rules.specs.Reads.{authz_reads}
use Rattle.view_scratch.proofs.inbound.route_rows.Goals as goal

pub returns-in_err-inbound_route-clause-steps : goal.returns-in_err-inbound_route-clause-steps
returns-in_err-inbound_route-clause-steps g c =
    cost_stops c.args.from.now.store.now.objects (λ (route : Bor Route). authz_reads c.args.from.now.store.now.objects (route_key route.now)) c.args.routes.now c.loop-route.route-index c.route-item.result c.args.steps.now c.loop-route.steps c.inbound_route.new.steps
    c.loop-route-test.true c.route-item.is c.loop-route.invariant.steps c.inbound_route.ensures.steps

pub returns-in_err-add-clause-steps : goal.returns-in_err-add-clause-steps
returns-in_err-add-clause-steps g c =
    cost_stops c.args.from.now.store.now.objects (λ (route : Bor Route). authz_reads c.args.from.now.store.now.objects (route_key route.now)) c.args.routes.now c.loop-route.route-index c.route-item.result c.args.steps.now c.loop-route.steps c.inbound_route.new.steps
    c.loop-route-test.true c.route-item.is c.loop-route.invariant.steps c.inbound_route.ensures.steps
