use Rattle.std.proofs.Common.{◌+◌, ◌≤◌, map, sym, ap, Bor, ◌∙◌, arith}
use Rattle.std.proofs.lemmas.Result.{IfOk-weaker}
use Rattle.std.specs.List.{flat_map}
use Rattle.std.proofs.lemmas.List.Folds.{flat_map-map}
use Rattle.view_types.specs.declared.mark.Mark.TheVariants.{RouteOn}
use Rattle.view_types.specs.declared.route.ParentKind.TheVariants as parent
use Rattle.view_types.specs.declared.route.Route.{Route}
use Rattle.view_rules.specs.Outbound.{outbound_route}
use Rattle.view_rules.specs.Routes.{has_parent, is_service_parent, place_of}
use Rattle.view_rules.proofs.Attached.{route_order_is_total}
use Rattle.mark_rules.specs.Reads.{backends_of, cost, count_at, routes_on}
use Rattle.mark_rules.proofs.Counts.{cost_cons}
use Rattle.view_scratch.proofs.Found.{map_through}
use Rattle.view_scratch.proofs.RouteSteps.{kept_costs}
use Rattle.view_scratch.proofs.outbound.outbound_routes.Goals as goal

pub returns-clause-value : goal.returns-clause-value
returns-clause-value g c =
    let row = outbound_route c.args.from.now.store.now.objects in
    let rows =
    ap (map (λ (route : Bor Route). row route.now)) c.as_slice.ensures.value
    ∙ map_through row (λ (route : Bor Route). route.now) c.in_ok-routes.routes.items ∙ ap (map row) c.in_ok-routes.ensures.value in
    IfOk-weaker c.route_rows.result _ _ (λ shown is. is ∙ rows) c.route_rows.ensures.rows

pub returns-in_err-routes-clause-steps : goal.returns-in_err-routes-clause-steps
returns-in_err-routes-clause-steps g c =
    let held = c.args.from.now.store.now.objects in
    let ns = c.args.ns.now in
    let name = c.args.name.now in
    let all = cost_cons held (RouteOn ns parent.Service name) (flat_map backends_of (routes_on held ns name)) in
    let first : c.attached_routes.new.steps ≤ c.args.steps.now + count_at held (RouteOn ns parent.Service name) = c.attached_routes.ensures.steps in
    omega (arith, all, first)

pub returns-clause-steps : goal.returns-clause-steps
returns-clause-steps g c =
    let held = c.args.from.now.store.now.objects in
    let ns = c.args.ns.now in
    let name = c.args.name.now in
    let all = cost_cons held (RouteOn ns parent.Service name) (flat_map backends_of (routes_on held ns name)) in
    let first : c.attached_routes.new.steps ≤ c.args.steps.now + count_at held (RouteOn ns parent.Service name) = c.attached_routes.ensures.steps in
    let then = c.route_rows.ensures.steps in
    let seen =
    ap (λ routes. cost held (flat_map (λ (route : Bor Route). backends_of route.now) routes)) c.as_slice.ensures.value
    ∙ ap (cost held) (sym (flat_map-map backends_of (λ (route : Bor Route). route.now) c.in_ok-routes.routes.items))
    ∙ ap (λ routes. cost held (flat_map backends_of routes)) (c.in_ok-routes.ensures.value ∙ c.rows_by_marks.ensures.service_routes held ns name c.args.port) in
    let kept = kept_costs route_order_is_total place_of held backends_of (has_parent ns (is_service_parent name c.args.port)) (routes_on held ns name) in
    omega (arith, all, first, then, seen, kept)
