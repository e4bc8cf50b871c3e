use Rattle.std.proofs.Common.{Option, Some, sym, ap, ◌∙◌}
use Rattle.std.specs.Prelude.{option_map}
use Rattle.view_types.specs.declared.view.View.TheVariants as view
use Rattle.mark_rules.specs.declared.keys.ServerKey.{ServerKey}
use Rattle.row_views.specs.Queries.{view_at}
use Rattle.row_views.proofs.Ids.{has_where}
use Rattle.row_views.proofs.Truncated.{same_views}
use Rattle.mesh_base.specs.contracts.key.ObjKeyOrd.TheImpl.Laws as key_laws
use Rattle.mark_rules.specs.contracts.keys.RouteKeyOrd.TheImpl.Laws as route_laws
use Rattle.authz_index.specs.AuthzKeys.{authz_keys_exact}
use Rattle.route_index.specs.RouteKeys.{route_keys_exact}
use Rattle.inbound_views.specs.PortRows.{query_for}
use Rattle.inbound_views.proofs.Joined.{joined_is, key_cmp, route_cmp}
use Rattle.inbound_views.proofs.views.InboundViewsQueryViews.view.Goals as goal

pub joined-requires : goal.joined-requires
joined-requires c = sym c.in-Some.ensures

pub returns-in_ok-joined-in-Some : goal.returns-in_ok-joined-in-Some
returns-in_ok-joined-in-Some c = λ config held at_keys lawful old.
    let self = c.args.self.now in
    let id = c.args.id in
    same_views _ _ old (λ joined.
    ap (λ seen. Some (view.Server seen)) (c.in_ok-joined-in-Some.ensures config held joined.kept)
    ∙ joined_is self config held id (λ key has. has_where route_cmp route_laws.total-law route_keys_exact self.routes.used.by_key key id (joined.kept.routes.rows.ids key id ∙ has)) (λ key has. has_where key_cmp key_laws.total-law authz_keys_exact self.authz.used.by_key key id (joined.kept.authz.rows.ids key id ∙ has))
    (joined.routes id) (joined.authz id) c.in-Some.key.now (sym c.in-Some.ensures) at_keys lawful)

pub returns-in-None : goal.returns-in-None
returns-in-None c = λ config held at_keys lawful old.
    sym (ap (λ (asked : Option ServerKey). view_at config held (option_map query_for asked)) (sym c.in-None.ensures))
