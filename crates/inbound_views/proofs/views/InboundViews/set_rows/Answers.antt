use Rattle.std.proofs.Common.{◌≤◌, ◌+◌, ℕ, Result, Ok, Err, OnOk, ap, subst, ◌∙◌, arith}
use Rattle.std.proofs.lemmas.Result.{on_ok_weaker}
use Rattle.row_views.specs.Ids.{SetsAt}
use Rattle.row_sets.specs.Standing.{keys_at}
use Rattle.inbound_views.specs.Costs.{AuthzEnter, cost_of_authz}
use Rattle.inbound_views.specs.PortRows.{authz_keys}
use Rattle.inbound_views.specs.Standing.{authz_of, query_at, with_earlier}
use Rattle.inbound_views.specs.declared.views.InboundViews.{InboundViews}
use Rattle.inbound_views.proofs.Following.{same_ports, same_queries}
use Rattle.inbound_views.proofs.SetKeys.{are_used}
use Rattle.inbound_views.proofs.views.InboundViews.set_rows.Goals as goal

both_ok : {A E P Q R : Type 0} (r : Result A E) → OnOk r P → OnOk r Q → (P → Q → R) → OnOk r R
both_ok (Ok a) p q f = f p q
both_ok (Err e) p q f = tt

pub returns-clause-set : goal.returns-clause-set
returns-clause-set g c =
    let old = c.args.self.now in
    let id = c.args.id in
    let held = c.args.store.now.objects in
    let mid = c.set_routes.new.self in
    both_ok c.set_authz.result c.set_authz.ensures.stand c.set_authz.ensures.set (λ stands sets config kept.
    let kept_mid = c.in_ok-servers.ensures.stand config kept in
    let used = are_used old mid config held id c.args.earlier _ c.set_routes.ensures.servers (c.as_slice.ensures ∙ c.in_ok-servers.ensures.key config kept) (c.in_ok-servers.ensures.set config kept) kept_mid.routes.rows.ids in
    record {
      kept = stands config kept_mid;
      routes = λ n. (λ i. keys_at (c.set_authz.ensures.routes i).by_id n) ∙ c.in_ok-servers.ensures.set config kept n;
      authz = subst (λ (views : InboundViews). SetsAt id (with_earlier c.args.earlier (authz_keys config held (query_at views id)) (authz_of views id)) (authz_of views) (authz_of c.set_authz.new.self))
          (λ i. record mid { servers = c.set_routes.ensures.servers i; authz = c.set_routes.ensures.authz i }) (sets config kept_mid used);
    })

pub returns-clause-entered : goal.returns-clause-entered
returns-clause-entered g c =
    let old = c.args.self.now in
    let id = c.args.id in
    let held = c.args.store.now.objects in
    let mid = c.set_routes.new.self in
    on_ok_weaker c.set_authz.result (λ entered config kept.
    let kept_mid = c.in_ok-servers.ensures.stand config kept in
    let used = are_used old mid config held id c.args.earlier _ c.set_routes.ensures.servers (c.as_slice.ensures ∙ c.in_ok-servers.ensures.key config kept) (c.in_ok-servers.ensures.set config kept) kept_mid.routes.rows.ids in
    record {
      mid = c.set_routes.new.steps;
      routes = c.in_ok-servers.ensures.entered config kept;
      authz = subst (λ (views : InboundViews). AuthzEnter config held c.args.earlier id views c.set_routes.new.steps c.set_authz.new.steps) (λ i. record mid { servers = c.set_routes.ensures.servers i; authz = c.set_routes.ensures.authz i }) (entered config kept_mid used);
    })
    c.set_authz.ensures.entered

pub returns-in_err-servers-clause-steps : goal.returns-in_err-servers-clause-steps
returns-in_err-servers-clause-steps g c = λ config leave kept. let most = c.set_routes.ensures.steps config leave kept in omega (arith, most)

pub returns-clause-steps : goal.returns-clause-steps
returns-clause-steps g c = λ config leave kept.
    let old = c.args.self.now in
    let id = c.args.id in
    let held = c.args.store.now.objects in
    let mid = c.set_routes.new.self in
    let kept_mid = c.in_ok-servers.ensures.stand config kept in
    let used = are_used old mid config held id c.args.earlier _ c.set_routes.ensures.servers (c.as_slice.ensures ∙ c.in_ok-servers.ensures.key config kept) (c.in_ok-servers.ensures.set config kept) kept_mid.routes.rows.ids in
    let first = c.set_routes.ensures.steps config leave kept in
    let second : c.set_authz.new.steps ≤ c.set_routes.new.steps + cost_of_authz held (authz_keys config held (query_at old id)) =
    subst (λ (n : ℕ). c.set_authz.new.steps ≤ c.set_routes.new.steps + n) (ap (λ query. cost_of_authz held (authz_keys config held query)) (same_queries old mid (same_ports old mid c.set_routes.ensures.servers) id)) (c.set_authz.ensures.steps config leave kept_mid used) in
    omega (arith, first, second)
