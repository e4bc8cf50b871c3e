use Rattle.std.proofs.Common.{◌+◌, ◌≤◌, arith}
use Rattle.mark_rules.specs.Reads.{cost, server_authz_marks, with_needs}
use Rattle.policy_rows.proofs.Costs.{server_costs}
use Rattle.view_scratch.proofs.PortSteps.{server_marks_cost}
use Rattle.view_scratch.proofs.inbound.server_row.Goals as goal

pub returns-in_err-authz-clause-steps : goal.returns-in_err-authz-clause-steps
returns-in_err-authz-clause-steps g c =
    let held = c.args.from.now.store.now.objects in
    let meta = c.args.server.now.meta in
    let all = server_marks_cost held meta.ns meta.name in
    let costs = server_costs held meta.ns meta.name in
    let authz : c.authz_rows.new.steps ≤ c.args.steps.now + cost held (with_needs held (server_authz_marks meta.ns meta.name)) = c.authz_rows.ensures.steps in
    omega (arith, all, costs, authz)

pub returns-in_err-routes-clause-steps : goal.returns-in_err-routes-clause-steps
returns-in_err-routes-clause-steps g c =
    let held = c.args.from.now.store.now.objects in
    let meta = c.args.server.now.meta in
    let all = server_marks_cost held meta.ns meta.name in
    let costs = server_costs held meta.ns meta.name in
    let authz : c.authz_rows.new.steps ≤ c.args.steps.now + cost held (with_needs held (server_authz_marks meta.ns meta.name)) = c.authz_rows.ensures.steps in
    let routes = c.inbound_routes.ensures.steps in
    omega (arith, all, costs, authz, routes)

pub returns-clause-steps : goal.returns-clause-steps
returns-clause-steps g c =
    let held = c.args.from.now.store.now.objects in
    let meta = c.args.server.now.meta in
    let all = server_marks_cost held meta.ns meta.name in
    let costs = server_costs held meta.ns meta.name in
    let authz : c.authz_rows.new.steps ≤ c.args.steps.now + cost held (with_needs held (server_authz_marks meta.ns meta.name)) = c.authz_rows.ensures.steps in
    let routes = c.inbound_routes.ensures.steps in
    omega (arith, all, costs, authz, routes)
