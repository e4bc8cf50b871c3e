use Rattle.std.proofs.Common.{[], ◌∷◌, ◌++◌, Bor, map, sym, ap, ◌∙◌}
use Rattle.std.specs.FinMap.{get}
use Rattle.std.specs.List.{filter, filter_map, flat_map}
use Rattle.view_types.specs.declared.mark.Mark.TheVariants.{RouteOn}
use Rattle.view_types.specs.declared.object.Object.{Object}
use Rattle.view_types.specs.declared.route.ParentKind.TheVariants as parent
use Rattle.view_rules.specs.InOrder.{in_order_by}
use Rattle.view_rules.specs.Routes.{as_route, has_parent, is_service_parent, place_of, route_cmp}
use Rattle.mark_rules.specs.Marks.{objects_with}
use Rattle.row_reads.specs.References.{references}
use Rattle.row_reads.specs.declared.references.Reference.TheVariants.{Backends}
use Rattle.row_reads.proofs.Refer.{backends_refer}
use Rattle.outbound_index.proofs.OutboundCosts.{found_within}
use Rattle.outbound_index.proofs.lookup.routes_on.Goals as goal

pub returns-clause-routes : goal.returns-clause-routes
returns-clause-routes g c =
    let held = c.args.from.now.store.now.objects in
    let asked = c.args.asked.now in
    let keys = c.in_ok-keys.keys.now in
    let passes = has_parent asked.ns.now (is_service_parent asked.name.now asked.port) in
    let seen =
    ap (map (λ (o : Bor Object). o.now)) c.as_slice.ensures.value
    ∙ c.in_ok-add_all.ensures.objects
    ∙ ap (λ items. map (λ (o : Bor Object). o.now) items ++ filter_map (get held) keys) c.new-objects.ensures.items in
    c.in_ok-routes.ensures ∙ ap (λ objects. in_order_by route_cmp place_of (filter passes (filter_map as_route objects))) seen ∙ sym c.in_ok-keys.ensures.routes

pub returns-clause-marks : goal.returns-clause-marks
returns-clause-marks g c =
    let held = c.args.from.now.store.now.objects in
    let asked = c.args.asked.now in
    let keys = c.in_ok-keys.keys.now in
    let seen =
    ap (map (λ (o : Bor Object). o.now)) c.as_slice-2.ensures.value
    ∙ c.in_ok-add_all.ensures.objects
    ∙ ap (λ items. map (λ (o : Bor Object). o.now) items ++ filter_map (get held) keys) c.new-objects.ensures.items
    ∙ c.in_ok-keys.ensures.marked in
    c.in_ok-add_all_references.ensures
    ∙ ap (λ marks. c.args.marks.now ++ marks) (ap (flat_map (references Backends)) seen ∙ sym (backends_refer (objects_with held (RouteOn asked.ns.now parent.Service asked.name.now ∷ []))))

pub returns-in_err-add_all-clause-steps : goal.returns-in_err-add_all-clause-steps
returns-in_err-add_all-clause-steps g c =
    let asked = c.args.asked.now in
    found_within c.args.from.now.store.now.objects (RouteOn asked.ns.now parent.Service asked.name.now) _ c.in_ok-keys.ensures.marked c.args.steps.now _ c.add_all.ensures.steps

pub returns-in_err-routes-clause-steps : goal.returns-in_err-routes-clause-steps
returns-in_err-routes-clause-steps g c =
    let asked = c.args.asked.now in
    found_within c.args.from.now.store.now.objects (RouteOn asked.ns.now parent.Service asked.name.now) _ c.in_ok-keys.ensures.marked c.args.steps.now _ c.add_all.ensures.steps

pub returns-in_err-add_all_references-clause-steps : goal.returns-in_err-add_all_references-clause-steps
returns-in_err-add_all_references-clause-steps g c =
    let asked = c.args.asked.now in
    found_within c.args.from.now.store.now.objects (RouteOn asked.ns.now parent.Service asked.name.now) _ c.in_ok-keys.ensures.marked c.args.steps.now _ c.add_all.ensures.steps

pub returns-clause-steps : goal.returns-clause-steps
returns-clause-steps g c =
    let asked = c.args.asked.now in
    found_within c.args.from.now.store.now.objects (RouteOn asked.ns.now parent.Service asked.name.now) _ c.in_ok-keys.ensures.marked c.args.steps.now _ c.add_all.ensures.steps
