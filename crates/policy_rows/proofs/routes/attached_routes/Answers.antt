use Rattle.std.proofs.Common.{◌++◌, Bor, length, map, sym, ap, arith, ◌∙◌}
use Rattle.std.proofs.lemmas.Result.{IfOk-weaker}
use Rattle.std.specs.FinMap.{get}
use Rattle.std.specs.List.{filter, filter_map}
use Rattle.view_types.specs.declared.object.Object.{Object}
use Rattle.view_rules.specs.InOrder.{in_order_by}
use Rattle.view_rules.specs.Routes.{as_route, has_parent, place_of, route_cmp}
use Rattle.mark_rules.proofs.Counts.{objects_count}
use Rattle.policy_rows.proofs.routes.attached_routes.Goals as goal

pub returns-clause-value : goal.returns-clause-value
returns-clause-value g c =
    let held = c.args.store.now.objects in
    let keys = c.in_ok-keys.keys.now in
    let passes = has_parent c.args.ns.now (g.A.Attachment.is_parent c.args.attachment.now) in
    let seen =
    ap (map (λ (o : Bor Object). o.now)) c.as_slice.ensures.value
    ∙ c.in_ok-add_all.ensures.objects
    ∙ ap (λ items. map (λ (o : Bor Object). o.now) items ++ filter_map (get held) keys) c.new-objects.ensures.items in
    IfOk-weaker c.routes_among.result _ _ (λ routes is. is ∙ ap (λ objects. in_order_by route_cmp place_of (filter passes (filter_map as_route objects))) seen ∙ sym c.in_ok-keys.ensures.routes) c.routes_among.ensures

pub returns-clause-steps : goal.returns-clause-steps
returns-clause-steps g c =
    let held = c.args.store.now.objects in
    let count = ap length c.in_ok-keys.ensures.marked ∙ objects_count (g.A.Attachment.mark c.args.attachment.now c.args.ns.now) held in
    let steps = c.add_all.ensures.steps in
    omega (arith, count, steps)

pub returns-in_err-add_all-clause-steps : goal.returns-in_err-add_all-clause-steps
returns-in_err-add_all-clause-steps g c =
    let held = c.args.store.now.objects in
    let count = ap length c.in_ok-keys.ensures.marked ∙ objects_count (g.A.Attachment.mark c.args.attachment.now c.args.ns.now) held in
    let steps = c.add_all.ensures.steps in
    omega (arith, count, steps)
