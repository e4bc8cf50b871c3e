use Rattle.std.proofs.Common.{refl, sym, ap, ◌∙◌, arith}
use Rattle.std.specs.Option.{option_copied}
use Rattle.server_index.proofs.Followed.{followed, port_cost, unfollowed}
use Rattle.server_index.proofs.kept.follow_in_place.Goals as goal

pub returns-in_ok-renew-in-Some-clause-stands : goal.returns-in_ok-renew-in-Some-clause-stands
returns-in_ok-renew-in-Some-clause-stands g c = λ held well leads.
    let port = c.args.port.now in
    let renew = c.in_ok-renew-in-Some.ensures in
    followed port.from.now.config.now port.key.now c.args.kept.now leads well c.requires.pod c.in-Some.pod.now c.renew.new.kept
    (sym c.pod_named.ensures.value ∙ ap option_copied c.in-Some.is) renew.servers renew.row renew.values renew.marks

pub returns-in_ok-renew-in-Some-clause-steps : goal.returns-in_ok-renew-in-Some-clause-steps
returns-in_ok-renew-in-Some-clause-steps g c =
    let port = c.args.port.now in
    let cost = port_cost port.from.now.store.now.objects port.key.now in
    let pod = c.pod_named.ensures.steps in
    let servers = c.renew.ensures.steps in
    let few = c.requires.few in
    omega (arith, cost, pod, servers, few)

pub returns-in_err-renew-in-Some-clause-steps : goal.returns-in_err-renew-in-Some-clause-steps
returns-in_err-renew-in-Some-clause-steps g c =
    let port = c.args.port.now in
    let cost = port_cost port.from.now.store.now.objects port.key.now in
    let pod = c.pod_named.ensures.steps in
    let servers = c.renew.ensures.steps in
    let few = c.requires.few in
    omega (arith, cost, pod, servers, few)

pub returns-in-None-clause-stands : goal.returns-in-None-clause-stands
returns-in-None-clause-stands g c = λ held well leads.
    let port = c.args.port.now in
    unfollowed port.from.now.config.now port.key.now c.args.kept.now leads well c.requires.pod _ (sym c.pod_named.ensures.value ∙ ap option_copied c.in-None.is) refl refl

pub returns-in-None-clause-steps : goal.returns-in-None-clause-steps
returns-in-None-clause-steps g c =
    let port = c.args.port.now in
    let cost = port_cost port.from.now.store.now.objects port.key.now in
    let pod = c.pod_named.ensures.steps in
    omega (arith, cost, pod)
