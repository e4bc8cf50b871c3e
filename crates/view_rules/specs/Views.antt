-- The view of a query.
use Rattle.std.specs.Prelude.{Option, option_map}
use Rattle.view_types.specs.Objects.{ObjectMap}
use Rattle.view_types.specs.Ports.{by_rows}
use Rattle.view_types.specs.declared.config.Config.{Config}
use Rattle.view_types.specs.declared.query.Query.{Query}
use Rattle.view_types.specs.declared.query.Query.TheVariants.{Get, Profile, Port, Traffic, PortRows}
use Rattle.view_types.specs.declared.view.View.{View}
use Rattle.view_types.specs.declared.view.View.TheVariants.{Endpoints, Profile as TargetProfile, Server, Outbound, ServerRows}
use Rattle.view_rules.specs.Endpoints.{endpoints}
use Rattle.view_rules.specs.Inbound.{inbound}
use Rattle.view_rules.specs.Outbound.{outbound}
use Rattle.view_rules.specs.Profiles.{profile}

-- the view of a query over these objects
abbrev pub view_of : Config → ObjectMap → Query → View
view_of config held (Get ns name port ctx) = Endpoints (endpoints config held ns name port)
view_of config held (Profile target ctx) = TargetProfile (profile config held target ctx.ns)
view_of config held (Port ns pod port) = Server (inbound config held ns pod port)
view_of config held (Traffic target) = Outbound (outbound config held target)
view_of config held (PortRows ns pod port) = ServerRows (inbound config held ns pod port)

-- the view of a query, from that of a query for the same rows: sent by rows, if so requested
abbrev pub as_asked : Query → View → View
as_asked (PortRows ns pod port) view = by_rows view
as_asked _ view = view

-- the view of a query over the objects of an earlier time, if there was one
abbrev pub view_before : Config → Query → Option ObjectMap → Option View
view_before config query before = option_map (λ held. view_of config held query) before
