use Rattle.std.proofs.Common.{Bor, map, ap, ◌∙◌}
use Rattle.std.specs.List.{filter, filter_map}
use Rattle.std.specs.Option.{option_copied}
use Rattle.std.proofs.lemmas.List.{take_all}
use Rattle.view_types.specs.declared.object.Object.{Object}
use Rattle.view_rules.specs.InOrder.{in_order_by}
use Rattle.view_rules.specs.Routes.{as_route, has_parent, place_of, route_cmp}
use Rattle.policy_rows.proofs.Steps.{finds, found_shown}
use Rattle.policy_rows.proofs.routes.routes_among.Goals as goal

pub loop-object-preserved : goal.loop-object-preserved
loop-object-preserved g c =
    finds (λ (o : Bor Object). as_route o.now) (has_parent c.args.ns.now (g.A.Attachment.is_parent c.args.attachment.now)) c.args.objects.now c.loop-object.object-index c.object-item.result
    (map (λ route. route.now) c.loop-object.routes.items) (map (λ route. route.now) c.add.new.routes.items) (option_copied c.attached_route.result)
    c.loop-object-test.true c.object-item.is c.loop-object.invariant c.attached_route.ensures c.in_ok-add.ensures

pub returns : goal.returns
returns g c =
    let passes = has_parent c.args.ns.now (g.A.Attachment.is_parent c.args.attachment.now) in
    c.in_ok-put_in_order.ensures
    ∙ ap (in_order_by route_cmp place_of)
    (c.loop-object.invariant
    ∙ ap (λ objects. filter passes (filter_map (λ (o : Bor Object). as_route o.now) objects)) (take_all c.loop-object.object-index c.args.objects.now c.loop-object-test.false)
    ∙ ap (filter passes) (found_shown as_route (λ (o : Bor Object). o.now) c.args.objects.now))
