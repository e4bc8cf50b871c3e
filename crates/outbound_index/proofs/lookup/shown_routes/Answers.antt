use Rattle.std.proofs.Common.{Bor, map, ap, ◌∙◌}
use Rattle.std.proofs.lemmas.Result.{IfOk-weaker}
use Rattle.view_types.specs.declared.route.Route.{Route}
use Rattle.view_rules.specs.Outbound.{outbound_route}
use Rattle.view_scratch.proofs.Found.{map_through}
use Rattle.outbound_index.proofs.lookup.shown_routes.Goals as goal

pub returns-clause-rows : goal.returns-clause-rows
returns-clause-rows g c =
    let row = outbound_route c.args.from.now.store.now.objects in
    IfOk-weaker c.route_rows.result _ _ (λ shown is attached. is ∙ map_through row (λ (route : Bor Route). route.now) c.args.routes.now ∙ ap (map row) attached) c.route_rows.ensures.rows
