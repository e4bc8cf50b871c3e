use Rattle.std.proofs.Common.{Bor, map, ap, ◌∙◌}
use Rattle.std.proofs.lemmas.Result.{IfOk-weaker}
use Rattle.view_types.specs.declared.object.Object.{Object}
use Rattle.view_types.specs.declared.route.Route.{Route}
use Rattle.mark_rules.specs.Rows.{bare_route}
use Rattle.view_scratch.proofs.Found.{map_through}
use Rattle.route_index.specs.Placed.{rows_among}
use Rattle.route_index.proofs.found.rows_named.Goals as goal

pub returns-clause-rows : goal.returns-clause-rows
returns-clause-rows g c =
    let seen = ap (map (λ (o : Bor Object). o.now)) c.as_slice.ensures.value ∙ c.in_ok-objects.ensures.objects in
    IfOk-weaker c.bare_routes.result _ _ (λ rows is. is
    ∙ ap (map (λ (route : Bor Route). bare_route route.now)) c.as_slice-2.ensures.value
    ∙ map_through bare_route (λ (route : Bor Route). route.now) c.in_ok-routes.routes.items
    ∙ ap (map bare_route) c.in_ok-routes.ensures
    ∙ ap (rows_among c.args.server.now.key.now) seen) c.bare_routes.ensures
