use Rattle.std.proofs.Common.{◌≡◌, ◌+◌, ◌++◌, ◌∷◌, [], inl, inr, ℕ, Option, List, arith, get_or, take, refl, sym, subst, ◌∙◌}
use Rattle.std.proofs.lemmas.Bool.Decides.{eqb_tells}
use Rattle.std.proofs.lemmas.List.{take_all, take_more}
use Rattle.mesh_base.specs.contracts.key.ObjKeyOrd.TheImpl.Laws as key_laws
use Rattle.view_types.specs.declared.query.Query.{Query}
use Rattle.mark_rules.specs.contracts.keys.RouteKeyOrd.TheImpl.Laws as route_laws
use Rattle.authz_index.specs.AuthzKeys.{authz_keys_exact}
use Rattle.route_index.specs.RouteKeys.{route_keys_exact}
use Rattle.inbound_views.specs.Costs.{Enters}
use Rattle.inbound_views.specs.PortRows.{authz_keys, authz_rows, route_keys, route_rows}
use Rattle.inbound_views.specs.Standing.{HasRowsOf, SetsAllRows, SetsRows, query_at, uses_authz, uses_routes}
use Rattle.inbound_views.specs.contracts.views.InboundViewsKeepsRows.TheImpl.{ghosts}
use Rattle.inbound_views.specs.declared.moving.Earlier.{Earlier}
use Rattle.inbound_views.proofs.Entering.{all_enter, all_more, none_new, none_yet, set_used, use_grows, used_by}
use Rattle.inbound_views.proofs.Following.{same_ports, same_queries}
use Rattle.inbound_views.proofs.Joined.{key_cmp, route_cmp}
use Rattle.inbound_views.proofs.SetKeys.{has_set, has_still, row_there, set_more, set_none}
use Rattle.inbound_views.proofs.views.InboundViews.set_all.Goals as goal

pub loop-id-init : goal.loop-id-init
loop-id-init g c = record {
  servers = refl;
  entered = λ config stay kept. none_yet config c.args.store.now.objects c.args.self.now c.args.steps.now;
  none_entered = λ config leave kept has. (has, omega arith);
  set = λ config kept. set_none ghosts.stand config c.args.store.now.objects c.args.earlier c.args.self.now kept;
}

pub loop-id-preserved : goal.loop-id-preserved
loop-id-preserved g c =
    let ids = c.args.ids.now in
    let i = c.loop-id.id-index in
    let id = get_or ids i 0 in
    let held = c.args.store.now.objects in
    let more : take (i + 1) ids ≡ take i ids ++ id ∷ [] = take_more ids i 0 c.loop-id-test.true in
    record {
      servers = c.set_rows.ensures.servers ∙ c.loop-id.invariant.servers;
      entered = λ config stay kept.
          let start = c.args.self.now in
          let now = c.loop-id.self in
          let all = c.loop-id.invariant.set config kept in
          let enters = subst (λ (e : Earlier). Enters config held e id now c.loop-id.steps c.set_rows.new.steps) stay (c.in_ok-set_rows.ensures.entered config all.kept) in
          let one = subst (λ (e : Earlier). SetsRows ghosts.stand config held e id now c.set_rows.new.self) stay (c.in_ok-set_rows.ensures.set config all.kept) in
          all_more config held start now c.set_rows.new.self id (same_queries start now (same_ports start now c.loop-id.invariant.servers) id) c.args.steps.now c.loop-id.steps c.set_rows.new.steps enters
          (use_grows route_cmp route_laws.total-law route_keys_exact _ _ held _ _ _ _ _ _ all.kept.routes.rows one.kept.routes.rows id _ one.routes)
          (use_grows key_cmp key_laws.total-law authz_keys_exact _ _ held _ _ _ _ _ _ all.kept.authz.rows one.kept.authz.rows id _ one.authz)
          (used_by route_cmp route_laws.total-law route_keys_exact _ _ held _ _ _ all.kept.routes.rows id)
          (used_by key_cmp key_laws.total-law authz_keys_exact _ _ held _ _ _ all.kept.authz.rows id)
          (set_used route_cmp route_laws.total-law route_keys_exact _ _ held _ _ _ _ _ _ all.kept.routes.rows one.kept.routes.rows id _ one.routes)
          (set_used key_cmp key_laws.total-law authz_keys_exact _ _ held _ _ _ _ _ _ all.kept.authz.rows one.kept.authz.rows id _ one.authz)
          (c.loop-id.invariant.entered config stay kept);
      none_entered = λ config leave kept has.
          let start = c.args.self.now in
          let now = c.loop-id.self in
          let next = c.set_rows.new.self in
          let all = c.loop-id.invariant.set config kept in
          let so_far = c.loop-id.invariant.none_entered config leave kept has in
          let asked : (n : ℕ) → query_at now n ≡ query_at start n = same_queries start now (same_ports start now c.loop-id.invariant.servers) in
          let enters = subst (λ (e : Earlier). Enters config held e id now c.loop-id.steps c.set_rows.new.steps) leave (c.in_ok-set_rows.ensures.entered config all.kept) in
          let one = c.in_ok-set_rows.ensures.set config all.kept in
          let has_now : HasRowsOf config held (query_at now id) now id = subst (λ (query : Option Query). HasRowsOf config held query now id) (sym (asked id)) (so_far.0 id (row_there ids i c.loop-id-test.true)) in
          let first = none_new route_cmp route_laws.total-law route_keys_exact route_rows held (uses_routes now) (route_keys config held (query_at now id)) c.loop-id.steps enters.mid enters.routes
          (λ key put. used_by route_cmp route_laws.total-law route_keys_exact _ _ held _ _ _ all.kept.routes.rows id key (has_now.0 key put)) in
          let second = none_new key_cmp key_laws.total-law authz_keys_exact (authz_rows config) held (uses_authz now) (authz_keys config held (query_at now id)) enters.mid c.set_rows.new.steps enters.authz
          (λ key put. used_by key_cmp key_laws.total-law authz_keys_exact _ _ held _ _ _ all.kept.authz.rows id key (has_now.1 key put)) in
          let before = so_far.1 in (
            λ n there. elim (eqb_tells n id) [
              | inl is ↦ subst (λ (query : Option Query). HasRowsOf config held query next n) (asked n) (subst (λ (m : ℕ). HasRowsOf config held (query_at now m) next m) (sym is.1) (has_set ghosts.stand config held c.args.earlier id now next one))
              | inr apart ↦ has_still ghosts.stand config held c.args.earlier id now next one (query_at start n) n apart.0 (so_far.0 n there)
            ],
            omega (arith, first, second, before),
          );
      set = λ config kept.
          let all = c.loop-id.invariant.set config kept in
          subst (λ (done : List ℕ). SetsAllRows ghosts.stand config held c.args.earlier done c.args.self.now c.set_rows.new.self) (sym more)
          (set_more ghosts.stand config held c.args.earlier (take i ids) id c.args.self.now c.loop-id.self c.set_rows.new.self c.loop-id.invariant.servers all (c.in_ok-set_rows.ensures.set config all.kept));
    }

pub returns-clause-set : goal.returns-clause-set
returns-clause-set g c = λ config kept.
    subst (λ (done : List ℕ). SetsAllRows ghosts.stand config c.args.store.now.objects c.args.earlier done c.args.self.now c.loop-id.self)
    (take_all c.loop-id.id-index c.args.ids.now c.loop-id-test.false) (c.loop-id.invariant.set config kept)

pub returns-clause-entered : goal.returns-clause-entered
returns-clause-entered g c = λ config stay kept. all_enter config c.args.store.now.objects c.args.self.now c.loop-id.self c.args.steps.now c.loop-id.steps (c.loop-id.invariant.entered config stay kept)

pub returns-clause-none_entered : goal.returns-clause-none_entered
returns-clause-none_entered g c = λ config leave kept has. (c.loop-id.invariant.none_entered config leave kept has).1
