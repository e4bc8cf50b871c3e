use Rattle.std.proofs.Common.{length, map, ap, arith, ◌∙◌}
use Rattle.std.specs.FinMap.{get}
use Rattle.std.specs.List.{filter_map}
use Rattle.mesh_base.specs.KeyOrder.{key_cmp}
use Rattle.view_types.specs.Objects.{key_of}
use Rattle.view_types.specs.declared.authn.RefKind.TheVariants as ref
use Rattle.view_types.specs.declared.mark.Mark.TheVariants.{PolicyOn, ServerAuthzIn}
use Rattle.view_rules.specs.InOrder.{in_order_by}
use Rattle.mark_rules.proofs.Counts.{objects_count}
use Rattle.mark_rules.specs.Reads.{server_authz_marks}
use Rattle.policy_rows.proofs.AmongMarked.{objects_in_order, three}
use Rattle.policy_rows.proofs.candidates.server_candidates.Goals as goal

pub returns-clause-objects : goal.returns-clause-objects
returns-clause-objects g c =
    let held = get c.args.store.now.objects in
    c.in_ok-put_in_order.ensures
    ∙ ap (in_order_by key_cmp key_of)
    (three (filter_map held c.in_ok-in_namespace.in_namespace.now) (filter_map held c.in_ok-on_server.on_server.now) (filter_map held c.in_ok-on_namespace.on_namespace.now) _ _ _
    (map (λ o. o.now) c.new-found.result.items) (map (λ o. o.now) c.add_all.new.found.items) (map (λ o. o.now) c.add_all-2.new.found.items) (map (λ o. o.now) c.add_all-3.new.found.items)
    (ap (map (λ o. o.now)) c.new-found.ensures.items) c.in_ok-add_all.ensures.objects c.in_ok-add_all-2.ensures.objects c.in_ok-add_all-3.ensures.objects
    c.in_ok-in_namespace.ensures c.in_ok-on_server.ensures c.in_ok-on_namespace.ensures)
    ∙ objects_in_order c.args.store.now.objects c.stand_at_keys.ensures (server_authz_marks c.args.ns.now c.args.name.now)

pub returns-in_err-add_all-clause-steps : goal.returns-in_err-add_all-clause-steps
returns-in_err-add_all-clause-steps g c =
    let held = c.args.store.now.objects in
    let ns = c.args.ns.now in
    let in_namespace = ap length c.in_ok-in_namespace.ensures ∙ objects_count (ServerAuthzIn ns) held in
    let on_server = ap length c.in_ok-on_server.ensures ∙ objects_count (PolicyOn ns ref.Server c.args.name.now) held in
    let on_namespace = ap length c.in_ok-on_namespace.ensures ∙ objects_count (PolicyOn ns ref.Namespace ns) held in
    let first = c.add_all.ensures.steps in
    omega (arith, in_namespace, on_server, on_namespace, first)

pub returns-in_err-add_all-2-clause-steps : goal.returns-in_err-add_all-2-clause-steps
returns-in_err-add_all-2-clause-steps g c =
    let held = c.args.store.now.objects in
    let ns = c.args.ns.now in
    let in_namespace = ap length c.in_ok-in_namespace.ensures ∙ objects_count (ServerAuthzIn ns) held in
    let on_server = ap length c.in_ok-on_server.ensures ∙ objects_count (PolicyOn ns ref.Server c.args.name.now) held in
    let on_namespace = ap length c.in_ok-on_namespace.ensures ∙ objects_count (PolicyOn ns ref.Namespace ns) held in
    let first = c.add_all.ensures.steps in
    let second = c.add_all-2.ensures.steps in
    omega (arith, in_namespace, on_server, on_namespace, first, second)

pub returns-in_err-add_all-3-clause-steps : goal.returns-in_err-add_all-3-clause-steps
returns-in_err-add_all-3-clause-steps g c =
    let held = c.args.store.now.objects in
    let ns = c.args.ns.now in
    let in_namespace = ap length c.in_ok-in_namespace.ensures ∙ objects_count (ServerAuthzIn ns) held in
    let on_server = ap length c.in_ok-on_server.ensures ∙ objects_count (PolicyOn ns ref.Server c.args.name.now) held in
    let on_namespace = ap length c.in_ok-on_namespace.ensures ∙ objects_count (PolicyOn ns ref.Namespace ns) held in
    let first = c.add_all.ensures.steps in
    let second = c.add_all-2.ensures.steps in
    let third = c.add_all-3.ensures.steps in
    omega (arith, in_namespace, on_server, on_namespace, first, second, third)

pub returns-in_err-put_in_order-clause-steps : goal.returns-in_err-put_in_order-clause-steps
returns-in_err-put_in_order-clause-steps g c =
    let held = c.args.store.now.objects in
    let ns = c.args.ns.now in
    let in_namespace = ap length c.in_ok-in_namespace.ensures ∙ objects_count (ServerAuthzIn ns) held in
    let on_server = ap length c.in_ok-on_server.ensures ∙ objects_count (PolicyOn ns ref.Server c.args.name.now) held in
    let on_namespace = ap length c.in_ok-on_namespace.ensures ∙ objects_count (PolicyOn ns ref.Namespace ns) held in
    let first = c.add_all.ensures.steps in
    let second = c.add_all-2.ensures.steps in
    let third = c.add_all-3.ensures.steps in
    omega (arith, in_namespace, on_server, on_namespace, first, second, third)

pub returns-clause-steps : goal.returns-clause-steps
returns-clause-steps g c =
    let held = c.args.store.now.objects in
    let ns = c.args.ns.now in
    let in_namespace = ap length c.in_ok-in_namespace.ensures ∙ objects_count (ServerAuthzIn ns) held in
    let on_server = ap length c.in_ok-on_server.ensures ∙ objects_count (PolicyOn ns ref.Server c.args.name.now) held in
    let on_namespace = ap length c.in_ok-on_namespace.ensures ∙ objects_count (PolicyOn ns ref.Namespace ns) held in
    let first = c.add_all.ensures.steps in
    let second = c.add_all-2.ensures.steps in
    let third = c.add_all-3.ensures.steps in
    omega (arith, in_namespace, on_server, on_namespace, first, second, third)
