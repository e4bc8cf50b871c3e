use Rattle.std.proofs.Common.{Bor, map, ap, ◌∙◌}
use Rattle.std.proofs.lemmas.Result.{IfOk-weaker}
use Rattle.view_types.specs.declared.route.Route.{Route}
use Rattle.mark_rules.specs.Rows.{bare_route}
use Rattle.view_scratch.proofs.Found.{map_through}
use Rattle.route_index.proofs.RouteCosts.{within_reads}
use Rattle.route_index.proofs.found.server_routes.Goals as goal

pub returns-clause-rows : goal.returns-clause-rows
returns-clause-rows g c =
    IfOk-weaker c.bare_routes.result _ _ (λ rows is. is
    ∙ ap (map (λ (route : Bor Route). bare_route route.now)) c.as_slice.ensures.value
    ∙ map_through bare_route (λ (route : Bor Route). route.now) c.in_ok-routes.routes.items
    ∙ ap (map bare_route) c.in_ok-routes.ensures.value) c.bare_routes.ensures

pub returns-clause-steps : goal.returns-clause-steps
returns-clause-steps g c =
    let server = c.args.server.now in
    within_reads server.store.now.objects server.key.now c.args.steps.now _ c.attached_routes.ensures.steps

pub returns-in_err-routes-clause-steps : goal.returns-in_err-routes-clause-steps
returns-in_err-routes-clause-steps g c =
    let server = c.args.server.now in
    within_reads server.store.now.objects server.key.now c.args.steps.now _ c.attached_routes.ensures.steps
