use Rattle.std.proofs.Common.{sym, ap, ◌∙◌}
use Rattle.std.proofs.lemmas.Result.{IfOk-weaker}
use Rattle.std.specs.List.{filter, filter_map}
use Rattle.view_rules.specs.InOrder.{in_order_by}
use Rattle.view_rules.specs.Routes.{as_route, has_parent, is_server_parent, place_of, route_cmp}
use Rattle.policy_rows.proofs.parent.ServerNamedAttachment.keys.Goals as goal

pub returns-clause-routes : goal.returns-clause-routes
returns-clause-routes c =
    let ns = c.args.ns.now in
    let is_parent = is_server_parent c.args.self.now.name.now in
    IfOk-weaker c.routes_on.result _ _
    (λ keys hold. c.rows_by_marks.ensures.server_routes c.args.store.now.objects ns c.args.self.now.name.now ∙ ap (λ objects. in_order_by route_cmp place_of (filter (has_parent ns is_parent) (filter_map as_route objects))) (sym hold))
    c.routes_on.ensures
