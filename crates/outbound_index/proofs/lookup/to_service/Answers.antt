use Rattle.std.proofs.Common.{[], ◌∷◌, ◌++◌, Bor, List, map, ap, ◌∙◌, append_assoc}
use Rattle.std.specs.List.{flat_map}
use Rattle.view_types.specs.declared.mark.Mark.{Mark}
use Rattle.view_types.specs.declared.mark.Mark.TheVariants.{Obj, RouteOn}
use Rattle.view_types.specs.declared.route.ParentKind.TheVariants as parent
use Rattle.view_types.specs.declared.route.Route.{Route}
use Rattle.view_rules.specs.Endpoints.{service_key}
use Rattle.mark_rules.specs.Reads.{backends_of, routes_on}
use Rattle.outbound_index.proofs.OutboundCosts.{routes_within, view_within}
use Rattle.outbound_index.proofs.lookup.to_service.Goals as goal

pub returns-clause-row : goal.returns-clause-row
returns-clause-row g c = c.in_ok-row.ensures.view (ap (map (λ (route : Bor Route). route.now)) c.as_slice.ensures.value ∙ c.in_ok-routes.ensures.routes)

pub returns-clause-marks : goal.returns-clause-marks
returns-clause-marks g c =
    let held = c.args.from.now.store.now.objects in
    let ns = c.args.asked.now.ns.now in
    let name = c.args.asked.now.name.now in
    let backends = flat_map backends_of (routes_on held ns name) in
    c.in_ok-routes.ensures.marks
    ∙ ap (λ (marks : List Mark). marks ++ backends) c.in_ok-add_service.ensures
    ∙ append_assoc c.args.marks (Obj (service_key ns name) ∷ RouteOn ns parent.Service name ∷ []) backends

pub returns-in_err-routes-clause-steps : goal.returns-in_err-routes-clause-steps
returns-in_err-routes-clause-steps g c =
    let asked = c.args.asked.now in
    routes_within c.args.from.now.store.now.objects asked.ns.now asked.name.now c.args.steps.now _ c.routes_on.ensures.steps

pub returns-in_err-row-clause-steps : goal.returns-in_err-row-clause-steps
returns-in_err-row-clause-steps g c =
    let asked = c.args.asked.now in
    view_within c.args.from.now.store.now.objects asked.ns.now asked.name.now c.args.steps.now _ c.routes_on.ensures.steps
    c.rows_by_marks.ensures.service_routes asked.port _ _ c.as_slice.ensures.value c.in_ok-routes.ensures.routes _ c.through_routes.ensures.steps

pub returns-clause-steps : goal.returns-clause-steps
returns-clause-steps g c =
    let asked = c.args.asked.now in
    view_within c.args.from.now.store.now.objects asked.ns.now asked.name.now c.args.steps.now _ c.routes_on.ensures.steps
    c.rows_by_marks.ensures.service_routes asked.port _ _ c.as_slice.ensures.value c.in_ok-routes.ensures.routes _ c.through_routes.ensures.steps
