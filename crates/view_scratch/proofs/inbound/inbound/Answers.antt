use Rattle.std.proofs.Common.{◌≡◌, Some, sym, ap, ◌∙◌, arith}
use Rattle.std.specs.Option.{option_copied}
use Rattle.view_rules.specs.PodRows.{pod_held}
use Rattle.view_scratch.proofs.PortSteps.{pod_costs, port_costs}
use Rattle.view_scratch.proofs.inbound.inbound.Goals as goal

pub returns-in_err-server-in-Some-clause-steps : goal.returns-in_err-server-in-Some-clause-steps
returns-in_err-server-in-Some-clause-steps g c =
    let costs = pod_costs c.args.from.now.config.now c.args.from.now.store.now.objects c.stand_at_keys.ensures c.args.ns.now c.args.name.now c.args.port in
    let pod = c.pod_named.ensures.steps in
    let server = c.chosen_server.ensures.steps in
    omega (arith, costs, pod, server)

pub returns-in_err-row-in-Some-clause-steps : goal.returns-in_err-row-in-Some-clause-steps
returns-in_err-row-in-Some-clause-steps g c =
    let held = c.args.from.now.store.now.objects in
    let is : pod_held held (Some (c.args.ns.now, c.args.name.now)) ≡ Some c.in-Some.pod.now = sym c.pod_named.ensures.value ∙ ap option_copied c.in-Some.is in
    let costs = port_costs c.args.from.now.config.now held c.stand_at_keys.ensures c.args.ns.now c.args.name.now c.args.port c.in-Some.pod.now (option_copied c.in_ok-server-in-Some.server) is c.in_ok-server-in-Some.ensures.value in
    let pod = c.pod_named.ensures.steps in
    let server = c.chosen_server.ensures.steps in
    let row = c.port_row.ensures.steps in
    omega (arith, costs, pod, server, row)

pub returns-in_ok-row-in-Some-clause-steps : goal.returns-in_ok-row-in-Some-clause-steps
returns-in_ok-row-in-Some-clause-steps g c =
    let held = c.args.from.now.store.now.objects in
    let is : pod_held held (Some (c.args.ns.now, c.args.name.now)) ≡ Some c.in-Some.pod.now = sym c.pod_named.ensures.value ∙ ap option_copied c.in-Some.is in
    let costs = port_costs c.args.from.now.config.now held c.stand_at_keys.ensures c.args.ns.now c.args.name.now c.args.port c.in-Some.pod.now (option_copied c.in_ok-server-in-Some.server) is c.in_ok-server-in-Some.ensures.value in
    let pod = c.pod_named.ensures.steps in
    let server = c.chosen_server.ensures.steps in
    let row = c.port_row.ensures.steps in
    omega (arith, costs, pod, server, row)

pub returns-in-None-clause-steps : goal.returns-in-None-clause-steps
returns-in-None-clause-steps g c =
    let costs = pod_costs c.args.from.now.config.now c.args.from.now.store.now.objects c.stand_at_keys.ensures c.args.ns.now c.args.name.now c.args.port in
    let pod = c.pod_named.ensures.steps in
    omega (arith, costs, pod)
