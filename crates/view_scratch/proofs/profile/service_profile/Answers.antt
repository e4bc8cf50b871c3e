use Rattle.std.proofs.Common.{arith}
use Rattle.view_scratch.proofs.ProfileSteps.{profile_costs}
use Rattle.view_scratch.proofs.profile.service_profile.Goals as goal

pub returns-in_err-opaque-clause-steps : goal.returns-in_err-opaque-clause-steps
returns-in_err-opaque-clause-steps g c =
    let costs = profile_costs c.args.from.now.config.now c.args.from.now.store.now.objects c.args.client.now c.args.asked.now.ns.now c.args.asked.now.name.now c.in_ok-fqn.fqn c.in_ok-fqn.ensures in
    let service = c.service_held-service.ensures.steps in
    omega (arith, costs, service)

pub returns-in_err-routes-clause-steps : goal.returns-in_err-routes-clause-steps
returns-in_err-routes-clause-steps g c =
    let costs = profile_costs c.args.from.now.config.now c.args.from.now.store.now.objects c.args.client.now c.args.asked.now.ns.now c.args.asked.now.name.now c.in_ok-fqn.fqn c.in_ok-fqn.ensures in
    let service = c.service_held-service.ensures.steps in
    let profiles = c.profile_for-found.ensures.steps in
    omega (arith, costs, service, profiles)

pub returns-in_err-overrides-clause-steps : goal.returns-in_err-overrides-clause-steps
returns-in_err-overrides-clause-steps g c =
    let costs = profile_costs c.args.from.now.config.now c.args.from.now.store.now.objects c.args.client.now c.args.asked.now.ns.now c.args.asked.now.name.now c.in_ok-fqn.fqn c.in_ok-fqn.ensures in
    let service = c.service_held-service.ensures.steps in
    let profiles = c.profile_for-found.ensures.steps in
    omega (arith, costs, service, profiles)

pub returns-clause-steps : goal.returns-clause-steps
returns-clause-steps g c =
    let costs = profile_costs c.args.from.now.config.now c.args.from.now.store.now.objects c.args.client.now c.args.asked.now.ns.now c.args.asked.now.name.now c.in_ok-fqn.fqn c.in_ok-fqn.ensures in
    let service = c.service_held-service.ensures.steps in
    let profiles = c.profile_for-found.ensures.steps in
    omega (arith, costs, service, profiles)
