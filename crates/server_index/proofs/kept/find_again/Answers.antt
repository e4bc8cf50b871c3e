use Rattle.std.proofs.Common.{refl, sym, ap, ◌∙◌, arith}
use Rattle.std.specs.Option.{option_copied}
use Rattle.server_index.proofs.Followed.{filled, port_cost, unfilled}
use Rattle.server_index.proofs.kept.find_again.Goals as goal

pub returns-in_ok-fill-in-Some-clause-stands : goal.returns-in_ok-fill-in-Some-clause-stands
returns-in_ok-fill-in-Some-clause-stands g c = λ marks.
    let port = c.args.port.now in
    let fill = c.in_ok-fill-in-Some.ensures in
    filled port.from.now.config.now port.from.now.store.now.objects port.key.now c.fill.new.kept c.stand_at_keys.ensures (fill.marks ∙ marks) c.in-Some.pod.now
    (sym c.pod_named.ensures.value ∙ ap option_copied c.in-Some.is) fill.servers fill.values fill.row

pub returns-in_ok-fill-in-Some-clause-steps : goal.returns-in_ok-fill-in-Some-clause-steps
returns-in_ok-fill-in-Some-clause-steps g c =
    let port = c.args.port.now in
    let cost = port_cost port.from.now.store.now.objects port.key.now in
    let pod = c.pod_named.ensures.steps in
    let servers = c.fill.ensures.steps in
    omega (arith, cost, pod, servers)

pub returns-in_err-fill-in-Some-clause-steps : goal.returns-in_err-fill-in-Some-clause-steps
returns-in_err-fill-in-Some-clause-steps g c =
    let port = c.args.port.now in
    let cost = port_cost port.from.now.store.now.objects port.key.now in
    let pod = c.pod_named.ensures.steps in
    let servers = c.fill.ensures.steps in
    omega (arith, cost, pod, servers)

pub returns-in-None-clause-stands : goal.returns-in-None-clause-stands
returns-in-None-clause-stands g c = λ marks.
    let port = c.args.port.now in
    unfilled port.from.now.config.now port.from.now.store.now.objects port.key.now _ c.stand_at_keys.ensures marks (sym c.pod_named.ensures.value ∙ ap option_copied c.in-None.is) refl

pub returns-in-None-clause-steps : goal.returns-in-None-clause-steps
returns-in-None-clause-steps g c =
    let port = c.args.port.now in
    let cost = port_cost port.from.now.store.now.objects port.key.now in
    let pod = c.pod_named.ensures.steps in
    omega (arith, cost, pod)
