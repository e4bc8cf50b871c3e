use Rattle.std.proofs.Common.{List, map, ap, sym, ◌∙◌}
use Rattle.std.proofs.lemmas.Result.{IfOk-weaker}
use Rattle.std.specs.Option.{option_copied}
use Rattle.view_types.specs.declared.server_view.RouteRow.{RouteRow}
use Rattle.mark_rules.specs.Rows.{routes_behind, with_authz}
use Rattle.inbound_views.specs.Standing.{kept_authz, kept_routes}
use Rattle.inbound_views.proofs.views.InboundViews.server_routes.Goals as goal

pub returns-in_ok-routes-in-Some : goal.returns-in_ok-routes-in-Some
returns-in_ok-routes-in-Some c =
    let self = c.args.self.now in
    let ns = c.args.ns.now in
    IfOk-weaker c.joined_routes.result _ _
    (λ rows are config held stand.
    are config held stand ∙ ap (λ (routes : List RouteRow). map (with_authz (kept_authz self config held) ns) routes)
    (c.in_ok-routes-in-Some.ensures config held stand ∙ ap (kept_routes self held) c.in_ok-routes_key-in-Some.ensures
    ∙ sym (ap (routes_behind (kept_routes self held) ns) (ap option_copied c.in-Some.is))))
    c.joined_routes.ensures
