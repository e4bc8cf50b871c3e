use Rattle.std.proofs.Common.{◌≡◌, List, subst, ◌∙◌}
use Rattle.mark_rules.specs.declared.keys.RouteKey.{RouteKey}
use Rattle.row_views.specs.Ids.{SetsAt}
use Rattle.row_sets.specs.Standing.{keys_at}
use Rattle.inbound_views.specs.PortRows.{route_keys}
use Rattle.inbound_views.specs.Standing.{query_at, routes_of, uses_routes, with_earlier}
use Rattle.inbound_views.proofs.Entering.{enters_as, set_cost}
use Rattle.inbound_views.proofs.Joined.{route_cmp}
use Rattle.inbound_views.proofs.views.InboundViews.set_routes.Goals as goal

pub returns-clause-key : goal.returns-clause-key
returns-clause-key g c = λ config kept. c.in_ok-servers.ensures config c.args.store.now.objects kept

pub returns-clause-stand : goal.returns-clause-stand
returns-clause-stand g c = λ config kept. record { servers = kept.servers; routes = record { rows = c.in_ok-set.ensures.stands kept.routes.rows; filtered = c.set.ensures.filter ∙ kept.routes.filtered }; authz = kept.authz }

pub returns-clause-set : goal.returns-clause-set
returns-clause-set g c = λ config kept.
    let old = c.args.self.now in
    let id = c.args.id in
    let held = c.args.store.now.objects in
    let are : c.in_ok-servers.servers ≡ route_keys config held (query_at old id) = c.in_ok-servers.ensures config held kept in
    let put : c.in_ok-routes-2.routes ≡ with_earlier c.args.earlier (route_keys config held (query_at old id)) (routes_of old id) =
    c.in_ok-routes-2.ensures ∙ (λ i. with_earlier c.args.earlier ((c.in_ok-routes.ensures ∙ are) i) (c.keys.ensures i)) in
    subst (λ (keys : List RouteKey). SetsAt id keys (routes_of old) (keys_at c.set.new.self.by_id)) put c.in_ok-set.ensures.keys

pub returns-clause-entered : goal.returns-clause-entered
returns-clause-entered g c = λ config kept.
    let old = c.args.self.now in
    let id = c.args.id in
    let held = c.args.store.now.objects in
    let are : c.in_ok-servers.servers ≡ route_keys config held (query_at old id) = c.in_ok-servers.ensures config held kept in
    let put : c.in_ok-routes-2.routes ≡ with_earlier c.args.earlier (route_keys config held (query_at old id)) (routes_of old id) =
    c.in_ok-routes-2.ensures ∙ (λ i. with_earlier c.args.earlier ((c.in_ok-routes.ensures ∙ are) i) (c.keys.ensures i)) in
    enters_as _ _ kept.routes.filtered held route_cmp (uses_routes old) _ _ put c.args.steps.now c.set.new.steps (c.in_ok-set.ensures.entered kept.routes.rows)

pub returns-in_err-set-clause-steps : goal.returns-in_err-set-clause-steps
returns-in_err-set-clause-steps g c = λ config leave kept.
    let old = c.args.self.now in
    let id = c.args.id in
    let held = c.args.store.now.objects in
    let are : c.in_ok-servers.servers ≡ route_keys config held (query_at old id) = c.in_ok-servers.ensures config held kept in
    let put : c.in_ok-routes-2.routes ≡ with_earlier c.args.earlier (route_keys config held (query_at old id)) (routes_of old id) =
    c.in_ok-routes-2.ensures ∙ (λ i. with_earlier c.args.earlier ((c.in_ok-routes.ensures ∙ are) i) (c.keys.ensures i)) in
    set_cost held (uses_routes old) _ _ kept.routes.filtered c.args.earlier _ (route_keys config held (query_at old id)) _ put leave c.args.steps.now c.set.new.steps (c.set.ensures.steps kept.routes.rows)

pub returns-clause-steps : goal.returns-clause-steps
returns-clause-steps g c = λ config leave kept.
    let old = c.args.self.now in
    let id = c.args.id in
    let held = c.args.store.now.objects in
    let are : c.in_ok-servers.servers ≡ route_keys config held (query_at old id) = c.in_ok-servers.ensures config held kept in
    let put : c.in_ok-routes-2.routes ≡ with_earlier c.args.earlier (route_keys config held (query_at old id)) (routes_of old id) =
    c.in_ok-routes-2.ensures ∙ (λ i. with_earlier c.args.earlier ((c.in_ok-routes.ensures ∙ are) i) (c.keys.ensures i)) in
    set_cost held (uses_routes old) _ _ kept.routes.filtered c.args.earlier _ (route_keys config held (query_at old id)) _ put leave c.args.steps.now c.set.new.steps (c.set.ensures.steps kept.routes.rows)
