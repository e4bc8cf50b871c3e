use Rattle.std.proofs.Common.{◌≡◌, ◌++◌, map}
use Rattle.view_types.specs.Objects.{ObjectMap}
use Rattle.view_types.specs.declared.config.Config.{Config}
use Rattle.mark_rules.specs.Rows.{with_authz}
use Rattle.inbound_views.specs.Standing.{kept_authz}
use Rattle.inbound_views.specs.contracts.views.InboundViewsKeepsRows.TheImpl.{ghosts}
use Rattle.inbound_views.proofs.views.InboundViews.joined_routes.Given as goal

-- With the routes that are left they are all.
abbrev pub invariant-loop-route : goal.invariant-loop-route
invariant-loop-route l = (config : Config) (held : ObjectMap) → ghosts.stand l.self config held
    → l.rows ++ map (with_authz (kept_authz l.self config held) l.ns) l.route-iterator.rest.items ≡ map (with_authz (kept_authz l.self config held) l.ns) l.fn.routes
