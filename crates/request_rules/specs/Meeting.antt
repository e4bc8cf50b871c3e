-- When routes are used for a request, and which match with a refused regular expression it may meet.
use Rattle.std.specs.Prelude.{◌≡◌, ◌++◌, ℕ, true, List, Some, codes, map}
use Rattle.std.specs.List.{slice_get}
use Rattle.view_types.specs.Objects.{ObjectMap}
use Rattle.view_types.specs.declared.pod.Pod.{Pod}
use Rattle.view_types.specs.declared.request.HttpRequest.{HttpRequest}
use Rattle.view_types.specs.declared.request.Request.{Request}
use Rattle.view_types.specs.declared.route.Route.{Route}
use Rattle.view_types.specs.declared.server.ServerSpec.{ServerSpec}
use Rattle.view_rules.specs.PodRows.{pod_held}
use Rattle.view_rules.specs.Routes.{attached_routes, is_server_parent}
use Rattle.view_rules.specs.Servers.{chosen_server}
use Rattle.route_match.specs.Asking.{PatternFacts}
use Rattle.route_match.specs.Faults.{NamesMatch}
use Rattle.request_rules.specs.Verdicts.{asks_routes, is_more_than_none, shape_of}

-- `namespace/name`
abbrev pub route_text : List ℕ → List ℕ → List ℕ
route_text ns name = ns ++ (codes "/" ++ name)

abbrev pub routes_of : ObjectMap → ServerSpec → List Route
routes_of held server = attached_routes held server.meta.ns (is_server_parent server.meta.name)

-- Routes are used for the request: it is HTTP, to a port of a Pod that is held, whose Server has routes and a protocol that permits them.
pub record RoutesCount (held : ObjectMap) (request : Request) : Type 0 where
  pub pod : Pod
  pub pod_is : pod_held held (Some (request.ns, request.pod)) ≡ Some pod
  pub server : ServerSpec
  pub server_is : chosen_server held request.ns pod request.port ≡ Some server
  pub has_routes : is_more_than_none (routes_of held server) ≡ true
  pub protocol_asks : asks_routes server.protocol ≡ true
  pub http : HttpRequest
  pub http_is : request.http ≡ Some http

-- Routes are used for the request, and the match at these indexes needs a regular expression that is refused.
pub record MayMeet (held : ObjectMap) (facts : PatternFacts) (request : Request) (text : List ℕ) (rule item : ℕ) : Type 0 where
  pub counts : RoutesCount held request
  pub place : ℕ
  pub route : Route
  pub route_is : slice_get (routes_of held counts.server) place ≡ Some route
  pub text_is : text ≡ route_text route.meta.ns route.meta.name
  pub named : NamesMatch facts counts.http (map shape_of (routes_of held counts.server)) place rule item
