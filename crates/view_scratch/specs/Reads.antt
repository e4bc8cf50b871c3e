-- The marks whose objects are looked up for a part of a view.
use Rattle.std.specs.Prelude.{◌++◌, ℕ, List, [], ◌∷◌, Option, Some, None, flat_map}
use Rattle.view_types.specs.Objects.{ObjectMap}
use Rattle.view_types.specs.declared.mark.Mark.{Mark}
use Rattle.view_types.specs.declared.mark.Mark.TheVariants.{RouteOn}
use Rattle.view_types.specs.declared.route.ParentKind.TheVariants as parent
use Rattle.view_types.specs.declared.route.Rule.{Rule}
use Rattle.view_types.specs.declared.server.ServerSpec.{ServerSpec}
use Rattle.view_rules.specs.PolicyLaws.{server_key}
use Rattle.view_rules.specs.Routes.{attached_routes, is_server_parent, route_key}
use Rattle.mark_rules.specs.Reads.{authz_reads, backend_marks}

-- the Services that the backends of a rule name
abbrev pub rule_marks : Rule → List Mark
rule_marks rule = flat_map backend_marks rule.backends

-- the routes of a Server, its authorizations, and those of each route
abbrev pub server_marks : ObjectMap → List ℕ → List ℕ → List Mark
server_marks held ns name =
    RouteOn ns parent.Server name
    ∷ (authz_reads held (server_key ns name) ++ flat_map (λ route. authz_reads held (route_key route)) (attached_routes held ns (is_server_parent name)))

-- those of the Server of a port, if it has one
abbrev pub port_marks : ObjectMap → Option ServerSpec → List Mark
port_marks held None = []
port_marks held (Some server) = server_marks held server.meta.ns server.meta.name
