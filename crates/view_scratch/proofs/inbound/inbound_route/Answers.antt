use Rattle.std.proofs.Common.{◌+◌, ◌≤◌, map, ap, ◌∙◌, arith}
use Rattle.std.proofs.lemmas.Result.{IfOk-weaker}
use Rattle.view_rules.specs.Inbound.{inbound_rule}
use Rattle.view_rules.specs.Policies.{applies_to_route, authz_rows}
use Rattle.view_rules.specs.Routes.{route_row}
use Rattle.mark_rules.specs.Reads.{authz_reads, cost, with_needs}
use Rattle.policy_rows.specs.ByMark.{route_target}
use Rattle.policy_rows.specs.References.{route_marks}
use Rattle.policy_rows.proofs.Costs.{route_costs}
use Rattle.view_scratch.proofs.inbound.inbound_route.Goals as goal

pub returns-clause-value : goal.returns-clause-value
returns-clause-value g c =
    let held = c.args.from.now.store.now.objects in
    let rules = c.in_ok-rules.ensures ∙ ap (map inbound_rule) c.as_slice.ensures in
    let authz = c.in_ok-authz.ensures.rows ∙ ap (λ route. authz_rows c.args.from.now.config.now held (applies_to_route held route)) c.in_ok-route_key.ensures in
    IfOk-weaker c.route_row.result _ _ (λ row is. is inbound_rule rules ∙ ap (λ rows. route_row inbound_rule rows c.args.route.now) authz) c.route_row.ensures

pub returns-in_err-authz-clause-steps : goal.returns-in_err-authz-clause-steps
returns-in_err-authz-clause-steps g c =
    let held = c.args.from.now.store.now.objects in
    let key = c.in_ok-route_key.field-0 in
    let same = ap (λ key. cost held (authz_reads held key)) c.in_ok-route_key.ensures in
    let costs = route_costs held key in
    let steps : c.authz_rows.new.steps ≤ c.args.steps.now + cost held (with_needs held (route_marks key (route_target key.kind))) = c.authz_rows.ensures.steps in
    omega (arith, same, costs, steps)

pub returns-clause-steps : goal.returns-clause-steps
returns-clause-steps g c =
    let held = c.args.from.now.store.now.objects in
    let key = c.in_ok-route_key.field-0 in
    let same = ap (λ key. cost held (authz_reads held key)) c.in_ok-route_key.ensures in
    let costs = route_costs held key in
    let steps : c.authz_rows.new.steps ≤ c.args.steps.now + cost held (with_needs held (route_marks key (route_target key.kind))) = c.authz_rows.ensures.steps in
    omega (arith, same, costs, steps)
