use Rattle.std.proofs.Common.{◌+◌, ◌≤◌, map, sym, ap, Bor, ◌∙◌, arith}
use Rattle.std.proofs.lemmas.Result.{IfOk-weaker}
use Rattle.std.specs.List.{flat_map}
use Rattle.std.proofs.lemmas.List.Folds.{flat_map-map}
use Rattle.view_types.specs.declared.mark.Mark.TheVariants.{RouteOn}
use Rattle.view_types.specs.declared.route.ParentKind.TheVariants as parent
use Rattle.view_types.specs.declared.route.Route.{Route}
use Rattle.view_rules.specs.Inbound.{inbound_route}
use Rattle.view_rules.specs.Routes.{attached_routes, is_server_parent, route_key}
use Rattle.mark_rules.specs.Reads.{authz_reads, cost, count_at}
use Rattle.mark_rules.proofs.Counts.{cost_cons}
use Rattle.view_scratch.proofs.Found.{map_through}
use Rattle.view_scratch.proofs.inbound.inbound_routes.Goals as goal

pub returns-clause-value : goal.returns-clause-value
returns-clause-value g c =
    let row = inbound_route c.args.from.now.config.now c.args.from.now.store.now.objects in
    let rows =
    ap (map (λ (route : Bor Route). row route.now)) c.as_slice.ensures.value
    ∙ map_through row (λ (route : Bor Route). route.now) c.in_ok-routes.routes.items ∙ ap (map row) c.in_ok-routes.ensures.value in
    IfOk-weaker c.route_rows.result _ _ (λ shown is. is ∙ rows) c.route_rows.ensures.rows

pub returns-in_err-routes-clause-steps : goal.returns-in_err-routes-clause-steps
returns-in_err-routes-clause-steps g c =
    let held = c.args.from.now.store.now.objects in
    let meta = c.args.server.now.meta in
    let mark = RouteOn meta.ns parent.Server meta.name in
    let all = cost_cons held mark (flat_map (λ (route : Route). authz_reads held (route_key route)) (attached_routes held meta.ns (is_server_parent meta.name))) in
    let first : c.attached_routes.new.steps ≤ c.args.steps.now + count_at held mark = c.attached_routes.ensures.steps in
    omega (arith, all, first)

pub returns-clause-steps : goal.returns-clause-steps
returns-clause-steps g c =
    let held = c.args.from.now.store.now.objects in
    let meta = c.args.server.now.meta in
    let mark = RouteOn meta.ns parent.Server meta.name in
    let reads = λ (route : Route). authz_reads held (route_key route) in
    let all = cost_cons held mark (flat_map reads (attached_routes held meta.ns (is_server_parent meta.name))) in
    let first : c.attached_routes.new.steps ≤ c.args.steps.now + count_at held mark = c.attached_routes.ensures.steps in
    let then = c.route_rows.ensures.steps in
    let seen =
    ap (λ routes. cost held (flat_map (λ (route : Bor Route). reads route.now) routes)) c.as_slice.ensures.value
    ∙ ap (cost held) (sym (flat_map-map reads (λ (route : Bor Route). route.now) c.in_ok-routes.routes.items))
    ∙ ap (λ routes. cost held (flat_map reads routes)) c.in_ok-routes.ensures.value in
    omega (arith, all, first, then, seen)
