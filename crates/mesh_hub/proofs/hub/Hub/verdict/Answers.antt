use Rattle.std.proofs.Common.{◌≤◌, ◌+◌, refl, subst, sym}
use Rattle.view_types.specs.Objects.{AtKeys}
use Rattle.view_types.specs.declared.query.Query.TheVariants.{Port}
use Rattle.view_rules.specs.PolicyLaws.{AreLawful}
use Rattle.mark_rules.specs.Rows.{rows}
use Rattle.object_store.specs.Held.{Held}
use Rattle.route_match.specs.Asking.{facts_of}
use Rattle.row_views.specs.Costs.{cost_of}
use Rattle.request_sim.specs.Faults.{Simulated}
use Rattle.inbound_views.specs.BarePorts.{authz_of_route, route_cost}
use Rattle.mesh_hub.proofs.Ports.{finds_one, full_port, views_stand}
use Rattle.mesh_hub.proofs.hub.Hub.verdict.Goals as goal

pub returns-clause-simulated : goal.returns-clause-simulated
returns-clause-simulated g c =
    let self = c.args.self.now in
    let request = c.args.request.now in
    let same = c.get-store.ensures.value in
    let held = c.get-store.result.now.objects in
    let stands = views_stand self.config self.limits _ self.subscribers _ _ (sym same) (sym c.views-views.ensures) (self.stands c.requires.going) in
    let at_keys = subst (λ (held : Held). AtKeys held.objects) (sym same) c.get-store.ensures.at_keys in
    let lawful = subst (λ (held : Held). AreLawful held.objects) (sym same) (c.get-store.ensures.lawful (self.going c.requires.going)) in
    subst (λ (held : Held). Simulated self.config held.objects (facts_of g.P.Patterns c.args.patterns.now) request c.decide.result) same
    (c.decide.ensures.simulated held (authz_of_route self.config held request.ns) at_keys (record { config = self.config; stands = stands; each = λ route. refl })
    (full_port self.config held request at_keys lawful c.in-Ok.view (c.in-Ok.ensures.view self.config stands)))

pub returns-clause-steps : goal.returns-clause-steps
returns-clause-steps g c =
    let self = c.args.self.now in
    let request = c.args.request.now in
    let same = c.get-store.ensures.value in
    let held = c.get-store.result.now.objects in
    let stands = views_stand self.config self.limits _ self.subscribers _ _ (sym same) (sym c.views-views.ensures) (self.stands c.requires.going) in
    subst (λ (held : Held). c.decide.new.steps ≤ c.args.steps.now + cost_of self.config held.objects (rows self.config held.objects (Port request.ns request.pod request.port))) same
    (finds_one self.config held request c.in-Ok.view (c.in-Ok.ensures.view self.config stands) c.args.steps.now c.peek_port.new.steps c.decide.new.steps (c.peek_port.ensures.steps self.config stands)
    (c.decide.ensures.steps (route_cost held request.ns) (record { config = self.config; stands = stands; each = λ route. refl })))
