use Rattle.std.proofs.Common.{List, sym, subst, ◌∙◌}
use Rattle.std.proofs.lemmas.Bool.{and_parts}
use Rattle.view_types.specs.declared.server_view.RouteRow.{RouteRow}
use Rattle.route_match.specs.Asking.{facts_of}
use Rattle.request_rules.specs.Verdicts.{asks_routes}
use Rattle.request_sim.specs.Decision.{has_rows}
use Rattle.request_sim.specs.FullViews.{IsOneOf}
use Rattle.request_sim.proofs.Meets.{of_server}
use Rattle.request_sim.proofs.decide.by_routes.Goals as goal

pub returns-in-Err-matched_route-clause-named : goal.returns-in-Err-matched_route-clause-named
returns-in-Err-matched_route-clause-named g c =
    let server = c.args.server.now in
    of_server (facts_of g.P.Patterns c.args.patterns.now) c.args.simulation.now.request.now.ns server c.args.http.now c.in-Err-matched_route.fault c.as_slice.result.now c.as_slice.ensures
    (and_parts (has_rows server.routes) (asks_routes server.protocol) (sym c.routes_count.ensures ∙ c.if-not-routes_count.false)).1 c.in-Err-matched_route.ensures.named

pub returns-in-Ok-by_route-clause-steps : goal.returns-in-Ok-by_route-clause-steps
returns-in-Ok-by_route-clause-steps g c = λ cost costs most each.
    c.by_route.ensures.steps cost costs most (λ row is. each row (subst (λ (routes : List RouteRow). IsOneOf routes row) c.as_slice.ensures (c.in-Ok-matched_route.ensures.among row is)))

pub returns-in-Err-by_route-clause-steps : goal.returns-in-Err-by_route-clause-steps
returns-in-Err-by_route-clause-steps g c = λ cost costs most each.
    c.by_route.ensures.steps cost costs most (λ row is. each row (subst (λ (routes : List RouteRow). IsOneOf routes row) c.as_slice.ensures (c.in-Ok-matched_route.ensures.among row is)))
