use Rattle.std.proofs.Common.{◌≡◌, take}
use Rattle.std.specs.List.{flat_map}
use Rattle.view_types.specs.Objects.{ObjectMap}
use Rattle.view_types.specs.declared.config.Config.{Config}
use Rattle.inbound_views.specs.PortRows.{authz_of_server}
use Rattle.inbound_views.specs.Standing.{kept_routes}
use Rattle.inbound_views.specs.contracts.views.InboundViewsKeepsRows.TheImpl.{ghosts}
use Rattle.inbound_views.proofs.views.InboundViews.authz_behind.Given as goal

-- the keys behind the Servers so far
abbrev pub invariant-loop-server : goal.invariant-loop-server
invariant-loop-server l = (config : Config) (held : ObjectMap) → ghosts.stand l.self config held → l.keys ≡ flat_map (authz_of_server (kept_routes l.self held)) (take l.server-index l.servers)
