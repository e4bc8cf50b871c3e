use Rattle.std.proofs.Common.{◌++◌, ◌∷◌, [], List, map, sym, ap, ◌∙◌, append_assoc}
use Rattle.view_types.specs.declared.server_view.RouteRow.{RouteRow}
use Rattle.mark_rules.specs.Rows.{with_authz}
use Rattle.inbound_views.specs.Standing.{kept_authz}
use Rattle.inbound_views.proofs.views.InboundViews.joined_routes.Goals as goal

pub loop-route-preserved : goal.loop-route-preserved
loop-route-preserved c = λ config held stand.
    let joined = with_authz (kept_authz c.args.self.now config held) c.args.ns.now in
    let rest = c.next.new.self.rest.items in
    ap (λ rows. rows ++ map joined rest) (c.in_ok-add.ensures.ok ∙ ap (λ row. c.loop-route.rows ++ row ∷ []) (c.in_ok-joined_route.ensures config held stand))
    ∙ append_assoc c.loop-route.rows (joined c.in-Some.route ∷ []) (map joined rest)
    ∙ ap (λ (left : List RouteRow). c.loop-route.rows ++ map joined left) (sym c.in-Some.ensures.steps.0)
    ∙ c.loop-route.invariant config held stand
