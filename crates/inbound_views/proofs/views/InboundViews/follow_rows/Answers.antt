use Rattle.std.proofs.Common.{◌≡◌, ◌++◌, ℕ, false, List, Option, sym, ap, subst, ◌∙◌}
use Rattle.std.specs.BTreeMap.{BTreeMap}
use Rattle.mark_graph.specs.RowMarks.{has_row}
use Rattle.mark_rules.specs.Rows.{ServerPart}
use Rattle.mark_rules.specs.declared.keys.ServerKey.{ServerKey}
use Rattle.row_table.specs.IndexRows.{Filter}
use Rattle.row_views.specs.Ids.{is_one_of, key_at}
use Rattle.row_views.specs.Standing.{HasSameRow, is_met}
use Rattle.row_sets.specs.Standing.{any_met}
use Rattle.inbound_views.specs.PortRows.{server_rows}
use Rattle.inbound_views.specs.Standing.{AreThoseWithout, HasKeys, authz_of, routes_of, uses_authz, uses_routes, uses_server}
use Rattle.inbound_views.specs.contracts.views.InboundViewsKeepsRows.TheImpl.{ghosts}
use Rattle.inbound_views.specs.declared.moving.KeysOf.TheVariants.{Routes, Rows}
use Rattle.inbound_views.specs.declared.views.InboundViews.{InboundViews}
use Rattle.inbound_views.proofs.Costs.{follows_as, server_cmp}
use Rattle.inbound_views.proofs.Joined.{key_cmp, route_cmp}
use Rattle.inbound_views.proofs.Following.{are_moved, in_all, in_either, without_same}
use Rattle.inbound_views.proofs.Rows.{servers_same}
use Rattle.inbound_views.proofs.views.InboundViews.follow_rows.Goals as goal

pub returns-clause-touched : goal.returns-clause-touched
returns-clause-touched g c = λ config held kept id.
    let self = c.args.self.now in
    let marks = c.args.change.now.marks in
    let asked = c.in_ok-asked.ensures.touched held kept.servers.rows id ∙ ap (λ filter. is_met filter held marks (key_at self.servers.by_id id)) kept.servers.filtered in
    let rerouted = c.in_ok-rerouted.ensures.touched held kept.routes.rows id ∙ ap (λ filter. any_met filter held marks (routes_of self id)) kept.routes.filtered in
    let authorized = c.in_ok-authorized.ensures.touched held kept.authz.rows id ∙ ap (λ filter. any_met filter held marks (authz_of self id)) kept.authz.filtered in
    c.in_order-all.ensures.rows id
    ∙ ap (has_row id) (c.in_ok-all-2.ensures ∙ (λ i. (c.in_ok-all.ensures ∙ ap (λ ids. c.in_ok-asked.asked ++ ids) c.as_slice-4.ensures) i ++ c.as_slice-5.ensures i))
    ∙ in_all id c.in_ok-asked.asked c.in_ok-rerouted.rerouted c.in_ok-authorized.authorized _ _ _ asked rerouted authorized

pub returns-clause-stand : goal.returns-clause-stand
returns-clause-stand g c = λ config held kept leads. record {
  servers = record { rows = c.in_ok-asked.ensures.stands held kept.servers.rows leads; filtered = c.follow.ensures.filter ∙ kept.servers.filtered };
  routes = record { rows = c.in_ok-rerouted.ensures.stands held kept.routes.rows leads; filtered = c.follow-2.ensures.filter ∙ kept.routes.filtered };
  authz = record { rows = c.in_ok-authorized.ensures.stands held kept.authz.rows leads; filtered = c.follow-3.ensures.filter ∙ kept.authz.filtered };
}

pub returns-clause-moved : goal.returns-clause-moved
returns-clause-moved g c = λ config held kept leads.
    let self = c.args.self.now in
    let after = c.args.store.now.objects in
    let marks = c.args.change.now.marks in
    let mid : InboundViews = record self { servers = c.follow.new.self; routes = c.follow-2.new.self; authz = c.follow-3.new.self } in
    let kept_mid : ghosts.stand mid config after = record {
      servers = record { rows = c.in_ok-asked.ensures.stands held kept.servers.rows leads; filtered = c.follow.ensures.filter ∙ kept.servers.filtered };
      routes = record { rows = c.in_ok-rerouted.ensures.stands held kept.routes.rows leads; filtered = c.follow-2.ensures.filter ∙ kept.routes.filtered };
      authz = record { rows = c.in_ok-authorized.ensures.stands held kept.authz.rows leads; filtered = c.follow-3.ensures.filter ∙ kept.authz.filtered };
    } in
    let still = without_same config after self mid c.follow.ensures.keys c.follow-2.ensures.keys c.follow-3.ensures.keys in
    let by_routes : AreThoseWithout (HasKeys config after Routes self) c.in_ok-differing.differing c.in_ok-moved.moved =
    still Routes c.in_ok-differing.differing c.in_ok-moved.moved (subst (λ (ids : List ℕ). AreThoseWithout (HasKeys config after Routes mid) ids c.in_ok-moved.moved) c.as_slice.ensures (c.in_ok-moved.ensures config after kept_mid)) in
    let by_rows : AreThoseWithout (HasKeys config after Rows self) c.in_ok-rerouted.rerouted c.in_ok-others.others =
    still Rows c.in_ok-rerouted.rerouted c.in_ok-others.others (subst (λ (ids : List ℕ). AreThoseWithout (HasKeys config after Rows mid) ids c.in_ok-others.others) c.as_slice-2.ensures (c.in_ok-others.ensures config after kept_mid)) in
    let same : (id : ℕ) → has_row id c.in_ok-differing.differing ≡ false → HasSameRow (server_rows config) held after (key_at self.servers.by_id id) =
    λ id out. subst (λ (filter : Filter ServerKey (Option ServerPart)). HasSameRow filter held after (key_at self.servers.by_id id)) kept.servers.filtered
    (c.in_ok-asked.ensures.differ held kept.servers.rows leads id
    (ap (λ (by_id : BTreeMap ℕ ServerKey). is_one_of server_cmp c.follow.new.self.index.table.differing (key_at by_id id)) (sym c.follow.ensures.keys)
    ∙ sym (c.in_ok-differing.ensures after kept_mid.servers.rows id) ∙ out)) in
    are_moved config marks held after leads self c.in_ok-differing.differing c.in_ok-rerouted.rerouted c.in_ok-moved.moved c.in_ok-others.others
    (λ id out. servers_same config held after (key_at self.servers.by_id id) (same id out))
    (λ id. c.in_ok-rerouted.ensures.touched held kept.routes.rows id ∙ ap (λ filter. any_met filter held marks (routes_of self id)) kept.routes.filtered)
    by_routes by_rows c.in_order-moved.result
    (λ id. c.in_order-moved.ensures.rows id ∙ ap (has_row id) (c.in_ok-moved-2.ensures ∙ ap (λ ids. c.in_ok-moved.moved ++ ids) c.as_slice-3.ensures) ∙ in_either id c.in_ok-moved.moved c.in_ok-others.others)

pub returns-clause-steps : goal.returns-clause-steps
returns-clause-steps g c = λ config held kept.
    let self = c.args.self.now in
    let marks = c.args.change.now.marks in
    let after = c.args.store.now.objects in
    record {
      first = c.follow.new.steps;
      second = c.follow-2.new.steps;
      servers = follows_as _ _ kept.servers.filtered server_cmp (uses_server _ self) marks held after c.args.steps.now c.follow.new.steps (c.in_ok-asked.ensures.steps held kept.servers.rows);
      routes = follows_as _ _ kept.routes.filtered route_cmp (uses_routes self) marks held after c.follow.new.steps c.follow-2.new.steps (c.in_ok-rerouted.ensures.steps held kept.routes.rows);
      authz = follows_as _ _ kept.authz.filtered key_cmp (uses_authz self) marks held after c.follow-2.new.steps c.follow-3.new.steps (c.in_ok-authorized.ensures.steps held kept.authz.rows);
    }
