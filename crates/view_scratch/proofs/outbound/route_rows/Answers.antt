use Rattle.mark_rules.proofs.Counts.{cost_stops}
use Rattle.std.proofs.Common.{Bor}
use Rattle.view_types.specs.declared.route.Route.{Route}
use Rattle.mark_rules.specs.Reads.{backends_of}
use Rattle.view_scratch.proofs.outbound.route_rows.Goals as goal

pub returns-in_err-outbound_route-clause-steps : goal.returns-in_err-outbound_route-clause-steps
returns-in_err-outbound_route-clause-steps g c =
    cost_stops c.args.from.now.store.now.objects (λ (route : Bor Route). backends_of route.now) c.args.routes.now c.loop-route.route-index c.route-item.result c.args.steps.now c.loop-route.steps c.outbound_route.new.steps
    c.loop-route-test.true c.route-item.is c.loop-route.invariant.steps c.outbound_route.ensures.steps

pub returns-in_err-add-clause-steps : goal.returns-in_err-add-clause-steps
returns-in_err-add-clause-steps g c =
    cost_stops c.args.from.now.store.now.objects (λ (route : Bor Route). backends_of route.now) c.args.routes.now c.loop-route.route-index c.route-item.result c.args.steps.now c.loop-route.steps c.outbound_route.new.steps
    c.loop-route-test.true c.route-item.is c.loop-route.invariant.steps c.outbound_route.ensures.steps
