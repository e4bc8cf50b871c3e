use Rattle.std.proofs.Common.{◌≡◌, ◌≤◌, ◌+◌, List, Option, Some, refl, ap, subst, ◌∙◌, arith}
use Rattle.std.specs.Prelude.{option_map}
use Rattle.mesh_base.specs.declared.key.ObjKey.{ObjKey}
use Rattle.mark_rules.specs.declared.keys.RouteKey.{RouteKey}
use Rattle.mark_rules.specs.declared.keys.ServerKey.{ServerKey}
use Rattle.row_views.specs.Ids.{SetsAt, key_at}
use Rattle.inbound_views.specs.Costs.{cost_of_authz, cost_of_routes}
use Rattle.inbound_views.specs.PortRows.{authz_keys, query_for, route_keys, server_rows}
use Rattle.inbound_views.specs.Standing.{authz_of, routes_of}
use Rattle.inbound_views.specs.contracts.views.InboundViewsKeepsRows.TheImpl.{ghosts}
use Rattle.inbound_views.proofs.Costs.{port_cost, read_less}
use Rattle.inbound_views.proofs.Opening.{closed_again, set_joined}
use Rattle.inbound_views.proofs.SetKeys.{set_here}
use Rattle.inbound_views.proofs.views.InboundViews.open_port.Goals as goal

pub returns-in-Ok-clause-keys : goal.returns-in-Ok-clause-keys
returns-in-Ok-clause-keys g c = λ n. (λ i. key_at (c.set_rows.ensures.servers i).by_id n) ∙ c.in_ok-open.ensures.keys n

pub returns-in-Ok-clause-joined : goal.returns-in-Ok-clause-joined
returns-in-Ok-clause-joined g c = λ config joined.
    let old = c.args.self.now in
    let id = c.args.id in
    let key = c.args.key in
    let held = c.args.store.now.objects in
    let new = c.set_rows.new.self in
    let kept = joined.kept in
    let set = c.in-Ok.ensures.set config (record {
      servers = record { rows = c.in_ok-open.ensures.stands kept.servers.rows; filtered = c.open.ensures.filter ∙ kept.servers.filtered };
      routes = kept.routes;
      authz = kept.authz;
    }) in
    let at : key_at c.open.new.self.by_id id ≡ Some key = set_here id (Some key) (key_at old.servers.by_id) (key_at c.open.new.self.by_id) c.in_ok-open.ensures.keys in
    let keys : SetsAt id (Some key) (key_at old.servers.by_id) (key_at new.servers.by_id) = λ n. (λ i. key_at (c.set_rows.ensures.servers i).by_id n) ∙ c.in_ok-open.ensures.keys n in
    set_joined ghosts.stand config held id (Some key) old new joined set.kept keys
    (subst (λ (ks : List RouteKey). SetsAt id ks (routes_of old) (routes_of new)) (ap (λ (asked : Option ServerKey). route_keys config held (option_map query_for asked)) at) set.routes)
    (subst (λ (ks : List ObjKey). SetsAt id ks (authz_of old) (authz_of new)) (ap (λ (asked : Option ServerKey). authz_keys config held (option_map query_for asked)) at) set.authz)

pub returns-in-Err-clause-kept : goal.returns-in-Err-clause-kept
returns-in-Err-clause-kept g c =
    closed_again c.args.id c.args.key (key_at c.args.self.now.servers.by_id) (key_at c.set_rows.new.self.servers.by_id) (key_at c.close.new.self.by_id) c.requires.free
    (λ n. (λ i. key_at (c.set_rows.ensures.servers i).by_id n) ∙ c.in_ok-open.ensures.keys n) c.close.ensures.keys

pub returns-in_err-open-clause-steps : goal.returns-in_err-open-clause-steps
returns-in_err-open-clause-steps g c = λ config joined.
    let held = c.args.store.now.objects in
    let first = read_less _ (server_rows config) joined.kept.servers.filtered held _ c.args.key c.args.steps.now c.open.new.steps (c.open.ensures.steps joined.kept.servers.rows) in
    let total = port_cost config held c.args.key in
    omega (arith, first, total)

pub returns-in-Ok-clause-steps : goal.returns-in-Ok-clause-steps
returns-in-Ok-clause-steps g c = λ config joined.
    let held = c.args.store.now.objects in
    let kept = joined.kept in
    let at : key_at c.open.new.self.by_id c.args.id ≡ Some c.args.key = set_here c.args.id (Some c.args.key) (key_at c.args.self.now.servers.by_id) (key_at c.open.new.self.by_id) c.in_ok-open.ensures.keys in
    let first = read_less _ (server_rows config) kept.servers.filtered held _ c.args.key c.args.steps.now c.open.new.steps (c.open.ensures.steps kept.servers.rows) in
    let second = c.set_rows.ensures.steps config refl (record {
      servers = record { rows = c.in_ok-open.ensures.stands kept.servers.rows; filtered = c.open.ensures.filter ∙ kept.servers.filtered };
      routes = kept.routes;
      authz = kept.authz;
    }) in
    let behind : c.set_rows.new.steps ≤ c.open.new.steps + (cost_of_routes held (route_keys config held (Some (query_for c.args.key))) + cost_of_authz held (authz_keys config held (Some (query_for c.args.key)))) =
    subst (λ (asked : Option ServerKey). c.set_rows.new.steps ≤ c.open.new.steps + (cost_of_routes held (route_keys config held (option_map query_for asked)) + cost_of_authz held (authz_keys config held (option_map query_for asked)))) at second in
    let total = port_cost config held c.args.key in
    omega (arith, first, behind, total)

pub returns-in-Err-clause-steps : goal.returns-in-Err-clause-steps
returns-in-Err-clause-steps g c = λ config joined.
    let held = c.args.store.now.objects in
    let kept = joined.kept in
    let at : key_at c.open.new.self.by_id c.args.id ≡ Some c.args.key = set_here c.args.id (Some c.args.key) (key_at c.args.self.now.servers.by_id) (key_at c.open.new.self.by_id) c.in_ok-open.ensures.keys in
    let first = read_less _ (server_rows config) kept.servers.filtered held _ c.args.key c.args.steps.now c.open.new.steps (c.open.ensures.steps kept.servers.rows) in
    let second = c.set_rows.ensures.steps config refl (record {
      servers = record { rows = c.in_ok-open.ensures.stands kept.servers.rows; filtered = c.open.ensures.filter ∙ kept.servers.filtered };
      routes = kept.routes;
      authz = kept.authz;
    }) in
    let behind : c.set_rows.new.steps ≤ c.open.new.steps + (cost_of_routes held (route_keys config held (Some (query_for c.args.key))) + cost_of_authz held (authz_keys config held (Some (query_for c.args.key)))) =
    subst (λ (asked : Option ServerKey). c.set_rows.new.steps ≤ c.open.new.steps + (cost_of_routes held (route_keys config held (option_map query_for asked)) + cost_of_authz held (authz_keys config held (option_map query_for asked)))) at second in
    let total = port_cost config held c.args.key in
    omega (arith, first, behind, total)
