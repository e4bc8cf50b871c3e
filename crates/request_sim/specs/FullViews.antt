-- Views of ports whose routes get their authorizations from elsewhere, and the decision on them.
use Rattle.std.specs.Prelude.{◌≡◌, ◌≤◌, ◌+◌, ◌&&◌, ℕ, if◌then◌else◌, List, [], Option, Some, None, map, option_map}
use Rattle.std.specs.List.{slice_get}
use Rattle.view_types.specs.declared.config.Config.{Config}
use Rattle.view_types.specs.declared.request.HttpRequest.{HttpRequest}
use Rattle.view_types.specs.declared.request.Request.{Request}
use Rattle.view_types.specs.declared.server_view.AuthzRow.{AuthzRow}
use Rattle.view_types.specs.declared.server_view.RouteRow.{RouteRow}
use Rattle.view_types.specs.declared.server_view.ServerRow.{ServerRow}
use Rattle.view_types.specs.declared.server_view.ServerView.{ServerView}
use Rattle.view_types.specs.declared.server_view.ServerView.TheVariants.{Absent, Present}
use Rattle.view_types.specs.declared.verdict.Verdict.{Verdict}
use Rattle.view_types.specs.declared.verdict.Verdict.TheVariants.{NoWorkload}
use Rattle.route_match.specs.Matching.{Pat, best, row_shape}
use Rattle.request_rules.specs.Verdicts.{asks_routes}
use Rattle.request_sim.specs.Decision.{by_route, by_server, has_rows, route_found}

-- ---- the routes of a view

abbrev pub routes_in : ServerView → List RouteRow
routes_in Absent = []
routes_in (Present server) = server.routes

-- it is one of the list
abbrev pub IsOneOf : List RouteRow → RouteRow → Type 0
IsOneOf routes route = (place : ℕ) × (slice_get routes place ≡ Some route)

-- At most as many objects are looked up as for one of these routes.
abbrev pub LooksUpOne : (RouteRow → Type 0) → (RouteRow → ℕ) → ℕ → ℕ → Type 0
LooksUpOne IsOne cost old new = (most : ℕ) → ((route : RouteRow) → IsOne route → cost route ≤ most) → new ≤ old + most

module _ (authz : RouteRow → List AuthzRow) where
  -- ---- the view, each of whose routes has the authorizations that the function gives

  abbrev pub full_route : RouteRow → RouteRow
  full_route route = record route { authz = authz route }

  abbrev pub full_row : ServerRow → ServerRow
  full_row server = record server { routes = map full_route server.routes }

  abbrev pub full_view : ServerView → ServerView
  full_view Absent = Absent
  full_view (Present server) = Present (full_row server)

  -- ---- the decision on it, which needs the authorizations of the matched route alone

  abbrev pub by_http_alone : Config → Pat → Request → ServerRow → Option HttpRequest → Verdict
  by_http_alone config pat request server None = by_server config request server
  by_http_alone config pat request server (Some http) =
      if has_rows server.routes && asks_routes server.protocol
      then by_route config request server (option_map full_route (route_found server.routes (best pat http (map row_shape server.routes))))
      else by_server config request server

  abbrev pub decision_alone : Config → Pat → Request → ServerView → Verdict
  decision_alone config pat request Absent = NoWorkload
  decision_alone config pat request (Present server) = by_http_alone config pat request server request.http
