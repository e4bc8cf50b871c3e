-- The port of a simulated request, and the authorizations of its routes.
use Rattle.std.specs.Prelude.{◌≡◌, ℕ, List}
use Rattle.view_types.specs.Objects.{ObjectMap}
use Rattle.view_types.specs.declared.config.Config.{Config}
use Rattle.view_types.specs.declared.request.Request.{Request}
use Rattle.view_types.specs.declared.server_view.AuthzRow.{AuthzRow}
use Rattle.view_types.specs.declared.server_view.RouteRow.{RouteRow}
use Rattle.mark_rules.specs.declared.keys.ServerKey.{ServerKey}
use Rattle.inbound_views.specs.BarePorts.{authz_of_route, route_cost}

abbrev pub port_of : Request → ServerKey
port_of request = record { ns = request.ns; pod = request.pod; port = request.port }

module _ {Views : Type 0} (stand : Views → Config → ObjectMap → Type 0) (views : Views) (held : ObjectMap) (ns : List ℕ) where
  -- The views stand for these objects, and the function gives the authorizations of each route of the namespace.
  pub record GivesOfRoutes (authz : RouteRow → List AuthzRow) : Type 0 where
    pub config : Config
    pub stands : stand views config held
    pub each : (route : RouteRow) → authz route ≡ authz_of_route config held ns route

  -- They stand, and the function gives what these authorizations read.
  pub record CostsOfRoutes (cost : RouteRow → ℕ) : Type 0 where
    pub config : Config
    pub stands : stand views config held
    pub each : (route : RouteRow) → cost route ≡ route_cost held ns route
