use Rattle.std.proofs.Common.{◌≡◌, ℕ, List, Option, refl, sym, ap, subst, ◌∙◌}
use Rattle.std.specs.BTreeMap.{BTreeMap}
use Rattle.mesh_base.specs.contracts.key.ObjKeyOrd.TheImpl.Laws as key_laws
use Rattle.mesh_base.specs.declared.key.ObjKey.{ObjKey}
use Rattle.view_types.specs.declared.query.Query.{Query}
use Rattle.mark_graph.specs.RowMarks.{has_row}
use Rattle.mark_rules.specs.contracts.keys.RouteKeyOrd.TheImpl.Laws as route_laws
use Rattle.mark_rules.specs.declared.keys.RouteKey.{RouteKey}
use Rattle.row_table.specs.IndexRows.{has_key}
use Rattle.row_views.proofs.Truncated.{map_truncated, same_tests}
use Rattle.row_sets.specs.Standing.{keys_at}
use Rattle.authz_index.specs.AuthzKeys.{authz_keys_exact}
use Rattle.route_index.specs.RouteKeys.{route_keys_exact}
use Rattle.inbound_views.specs.Standing.{HasRowsOf, SetsAllRows, query_at}
use Rattle.inbound_views.specs.declared.moving.Earlier.TheVariants.{Stay, Leave}
use Rattle.inbound_views.specs.contracts.views.InboundViewsKeepsRows.TheImpl.{ghosts}
use Rattle.inbound_views.proofs.Costs.{follow_cost}
use Rattle.inbound_views.proofs.Entering.{used_by, user_of}
use Rattle.inbound_views.proofs.Joined.{key_cmp, route_cmp}
use Rattle.inbound_views.proofs.Following.{joined_after, reads_is, same_ports, same_queries}
use Rattle.inbound_views.proofs.views.InboundViewsQueryViews.follow.Goals as goal

pub returns-in_err-touched-clause-queries : goal.returns-in_err-touched-clause-queries
returns-in_err-touched-clause-queries g c = same_queries c.args.self.now c.follow_rows.new.self c.follow_rows.ensures.ports

pub returns-in_err-set_all-clause-queries : goal.returns-in_err-set_all-clause-queries
returns-in_err-set_all-clause-queries g c = same_queries c.args.self.now c.set_all.new.self (same_ports c.follow_rows.new.self c.set_all.new.self c.set_all.ensures.servers ∙ c.follow_rows.ensures.ports)

pub returns-in_err-set_all-2-clause-queries : goal.returns-in_err-set_all-2-clause-queries
returns-in_err-set_all-2-clause-queries g c =
    same_queries c.args.self.now c.set_all-2.new.self
    (same_ports c.set_all.new.self c.set_all-2.new.self c.set_all-2.ensures.servers ∙ same_ports c.follow_rows.new.self c.set_all.new.self c.set_all.ensures.servers ∙ c.follow_rows.ensures.ports)

pub returns-clause-queries : goal.returns-clause-queries
returns-clause-queries g c =
    same_queries c.args.self.now c.set_all-2.new.self
    (same_ports c.set_all.new.self c.set_all-2.new.self c.set_all-2.ensures.servers ∙ same_ports c.follow_rows.new.self c.set_all.new.self c.set_all.ensures.servers ∙ c.follow_rows.ensures.ports)

pub returns-clause-touched : goal.returns-clause-touched
returns-clause-touched g c = λ config held old id.
    let self = c.args.self.now in
    same_tests _ _ old (λ joined. c.in_ok-touched.ensures.touched config held joined.kept id ∙ reads_is ghosts.stand config held c.args.change.now.marks self joined id)

pub returns-clause-stands : goal.returns-clause-stands
returns-clause-stands g c = λ config held old leads. map_truncated old (λ joined.
    let self = c.args.self.now in
    let after = c.args.store.now.objects in
    let mid = c.follow_rows.new.self in
    let first = c.set_all.new.self in
    let new = c.set_all-2.new.self in
    let moved = c.in_ok-touched.touched.moved in
    let sets : SetsAllRows ghosts.stand config after Stay moved mid first =
    subst (λ (ids : List ℕ). SetsAllRows ghosts.stand config after Stay ids mid first) c.as_slice.ensures (c.in_ok-set_all.ensures.set config (c.in_ok-touched.ensures.stand config held joined.kept leads)) in
    let resets : SetsAllRows ghosts.stand config after Leave moved first new =
    subst (λ (ids : List ℕ). SetsAllRows ghosts.stand config after Leave ids first new) c.as_slice-2.ensures (c.in_ok-set_all-2.ensures.set config sets.kept) in
    joined_after ghosts.stand config held after self mid first new c.in_ok-touched.touched.moved joined (c.in_ok-touched.ensures.moved config held joined.kept leads)
    c.follow_rows.ensures.ports (same_ports mid first c.set_all.ensures.servers) (same_ports first new c.set_all-2.ensures.servers)
    c.in_ok-touched.ensures.routes c.in_ok-touched.ensures.authz sets resets)

pub returns-clause-steps : goal.returns-clause-steps
returns-clause-steps g c = λ config held old leads. map_truncated old (λ joined.
    let self = c.args.self.now in
    let after = c.args.store.now.objects in
    let mid = c.follow_rows.new.self in
    let first = c.set_all.new.self in
    let kept_mid = c.in_ok-touched.ensures.stand config held joined.kept leads in
    let sets = c.in_ok-set_all.ensures.set config kept_mid in
    let asked : (id : ℕ) → query_at first id ≡ query_at mid id = same_queries mid first (same_ports mid first c.set_all.ensures.servers) in
    let last = c.in_ok-set_all-2.ensures.none_entered config refl sets.kept (λ id has. subst (λ (query : Option Query). HasRowsOf config after query first id) (sym (asked id)) (sets.covered id (ap (has_row id) (c.as_slice.ensures ∙ sym c.as_slice-2.ensures) ∙ has))) in
    follow_cost ghosts.stand config c.args.change.now.marks held after self mid joined _ joined.kept.servers.rows.tied
    (user_of route_cmp route_laws.total-law route_keys_exact _ _ held _ _ _ joined.kept.routes.rows)
    (user_of key_cmp key_laws.total-law authz_keys_exact _ _ held _ _ _ joined.kept.authz.rows)
    (λ id key has. used_by route_cmp route_laws.total-law route_keys_exact _ _ after _ _ _ kept_mid.routes.rows id key (ap (λ (by_id : BTreeMap ℕ (List RouteKey)). has_key route_cmp (keys_at by_id id) key) c.in_ok-touched.ensures.routes ∙ has))
    (λ id key has. used_by key_cmp key_laws.total-law authz_keys_exact _ _ after _ _ _ kept_mid.authz.rows id key (ap (λ (by_id : BTreeMap ℕ (List ObjKey)). has_key key_cmp (keys_at by_id id) key) c.in_ok-touched.ensures.authz ∙ has))
    (same_queries self mid c.follow_rows.ensures.ports) c.args.steps.now c.follow_rows.new.steps c.set_all.new.steps (c.in_ok-touched.ensures.steps config held joined.kept)
    (c.in_ok-set_all.ensures.entered config refl kept_mid) c.set_all-2.new.steps last)
