use Rattle.std.proofs.Common.{◌≡◌, List, ◌∷◌, map, Some, None, sym, ap, ◌∙◌}
use Rattle.std.specs.List.{slice_get}
use Rattle.view_types.specs.declared.server_view.RouteRow.{RouteRow}
use Rattle.view_rules.specs.PolicyLaws.{server_key}
use Rattle.mark_rules.specs.Rows.{key_of_row}
use Rattle.mark_rules.specs.contracts.keys.RouteKeyOrd.TheImpl.Laws as route_laws
use Rattle.mark_rules.specs.declared.keys.RouteKey.{RouteKey}
use Rattle.row_views.proofs.Ids.{has_where}
use Rattle.route_index.specs.RouteKeys.{route_keys_exact}
use Rattle.inbound_views.specs.PortRows.{authz_keys}
use Rattle.inbound_views.specs.Standing.{query_at}
use Rattle.inbound_views.proofs.Joined.{route_cmp}
use Rattle.inbound_views.proofs.SetKeys.{authz_of_first, same_none}
use Rattle.inbound_views.proofs.views.InboundViews.has_authz.Goals as goal

pub returns-in-Some : goal.returns-in-Some
returns-in-Some c = λ config held kept has.
    let self = c.args.self.now in
    let id = c.args.id in
    let server = c.in-Some.server.now in
    let behind = authz_of_first self config held id has (λ key used. has_where route_cmp route_laws.total-law route_keys_exact self.routes.used.by_key key id (kept.routes.rows.ids key id ∙ used)) (Some server) (c.in-Some.ensures.value ∙ ap (λ (keys : List RouteKey). slice_get keys 0) c.keys.ensures) in
    let all : server_key server.ns server.server ∷ map (key_of_row server.ns) c.kept_routes.result.now ≡ authz_keys config held (query_at self id) =
    ap (λ (rows : List RouteRow). server_key server.ns server.server ∷ map (key_of_row server.ns) rows) (c.kept_routes.ensures config held kept) ∙ behind in
    (λ test. sym c.keys-authz.ensures ∙ c.are_behind.ensures.0 test ∙ all, λ has_all. c.are_behind.ensures.1 (c.keys-authz.ensures ∙ has_all ∙ sym all))

pub returns-in-None : goal.returns-in-None
returns-in-None c = λ config held kept has.
    let self = c.args.self.now in
    let id = c.args.id in
    let behind = authz_of_first self config held id has (λ key used. has_where route_cmp route_laws.total-law route_keys_exact self.routes.used.by_key key id (kept.routes.rows.ids key id ∙ used)) None (c.in-None.ensures.value ∙ ap (λ (keys : List RouteKey). slice_get keys 0) c.keys.ensures) in
    same_none c.is_empty.result c.keys-authz.result.now _ _ c.is_empty.ensures c.keys-authz.ensures (sym behind)
