-- A fault that names a match of a view's routes names one that the request may meet.
use Rattle.std.proofs.Common.{◌≡◌, ℕ, ◌<◌, true, List, [], ◌∷◌, ◌++◌, append_assoc, codes, length, map, Some, None, Option, Result, Ok, Err, IfOk, refl, sym, ap, subst, ◌∙◌}
use Rattle.std.specs.Prelude.{IfErr}
use Rattle.std.specs.List.{slice_get}
use Rattle.std.specs.Option.{option_map}
use Rattle.std.proofs.lemmas.Option.{slice_get-map, slice_get_within}
use Rattle.std.proofs.lemmas.List.{length-map}
use Rattle.net_cidr.specs.Texts.{FitsIp}
use Rattle.view_types.specs.Objects.{AtKeys, ObjectMap}
use Rattle.view_types.specs.declared.config.Config.{Config}
use Rattle.view_types.specs.declared.pod.Pod.{Pod}
use Rattle.view_types.specs.declared.request.HttpRequest.{HttpRequest}
use Rattle.view_types.specs.declared.request.Request.{Request}
use Rattle.view_types.specs.declared.route.Route.{Route}
use Rattle.view_types.specs.declared.server.ServerSpec.{ServerSpec}
use Rattle.view_types.specs.declared.server_view.RouteRow.{RouteRow}
use Rattle.view_types.specs.declared.server_view.ServerRow.{ServerRow}
use Rattle.view_types.specs.declared.server_view.ServerView.{ServerView}
use Rattle.view_types.specs.declared.server_view.ServerView.TheVariants.{Absent, Present}
use Rattle.view_types.specs.declared.verdict.Verdict.{Verdict}
use Rattle.view_rules.specs.Inbound.{inbound, inbound_at, inbound_route, port_row, server_row}
use Rattle.view_rules.specs.PodRows.{pod_held}
use Rattle.view_rules.specs.Servers.{chosen_server}
use Rattle.route_match.specs.Asking.{PatternFacts}
use Rattle.route_match.specs.Faults.{IsNamed, NamesMatch}
use Rattle.route_match.specs.declared.fault.MatchFault.{MatchFault}
use Rattle.route_match.specs.declared.fault.MatchFault.TheVariants.{Refused}
use Rattle.route_match.specs.Matching.{Pat, Shape, row_shape}
use Rattle.request_rules.specs.Laws.{RowsShowTheirMatches}
use Rattle.request_rules.specs.Meeting.{MayMeet, route_text, routes_of}
use Rattle.request_rules.specs.Verdicts.{asks_routes, is_more_than_none}
use Rattle.request_sim.specs.Decision.{decision}
use Rattle.request_sim.specs.Faults.{DecisionsAreVerdicts, IsOfRows, IsOfServer, IsOfView, NamesCounted, NamesRow, Simulated}
use Rattle.request_sim.specs.declared.fault.SimFault.{SimFault}
use Rattle.request_sim.specs.declared.fault.SimFault.TheVariants.{Memory, Pattern}
use Rattle.request_sim.proofs.Applying.{route_is_here, server_is_here}

-- ---- the objects

made_from : (f : Route → RouteRow) (found : Option Route) (row : RouteRow) → option_map f found ≡ Some row → (route : Route) × (found ≡ Some route) × (f route ≡ row)
made_from f None row e = absurd (cc e)
made_from f (Some route) row e = (route, refl, cc e)

some_there : (routes : List Route) (k : ℕ) (route : Route) → slice_get routes k ≡ Some route → is_more_than_none routes ≡ true
some_there [] k route at = absurd (cc at)
some_there (first ∷ routes) k route at = refl

-- the fault names a match of the routes of a port where they count
abbrev pub InView : PatternFacts → Request → ServerView → List ℕ → ℕ → ℕ → Type 0
InView facts request Absent text rule item = ⊥
InView facts request (Present server) text rule item = NamesCounted facts request.ns server request.http text rule item

module _ (shapes : RowsShowTheirMatches) (config : Config) (held : ObjectMap) (request : Request) (facts : PatternFacts) (text : List ℕ) (rule item : ℕ) where
  at_server : (pod : Pod) → pod_held held (Some (request.ns, request.pod)) ≡ Some pod → (server : ServerSpec) → chosen_server held request.ns pod request.port ≡ Some server
      → NamesCounted facts request.ns (server_row config held pod request.port server) request.http text rule item → MayMeet held facts request text rule item
  at_server pod pod_is server server_is counted =
      let names = counted.names in
      let routes = routes_of held server in
      let from = made_from (inbound_route config held) (slice_get routes names.place) names.row (sym (slice_get-map (inbound_route config held) routes names.place) ∙ names.row_is) in
      let route = from.0 in
      let here : route.meta.ns ≡ request.ns = route_is_here held server names.place route from.1 ∙ server_is_here held request.ns pod request.port server server_is in
      let called : route.meta.name ≡ names.row.name = ap (λ (row : RouteRow). row.name) from.2 in
      record {
        counts = record {
          pod = pod;
          pod_is = pod_is;
          server = server;
          server_is = server_is;
          has_routes = some_there routes names.place route from.1;
          protocol_asks = counted.protocol_asks;
          http = counted.asked;
          http_is = counted.http_is;
        };
        place = names.place;
        route = route;
        route_is = from.1;
        text_is = names.text_is ∙ (λ i. route_text (sym here i) (sym called i));
        named = subst (λ shown. NamesMatch facts counted.asked shown names.place rule item) (shapes config held server) names.named;
      }

  at_port : (pod : Pod) → pod_held held (Some (request.ns, request.pod)) ≡ Some pod → (server : Option ServerSpec) → chosen_server held request.ns pod request.port ≡ server
      → NamesCounted facts request.ns (port_row config held pod request.port server) request.http text rule item → MayMeet held facts request text rule item
  at_port pod pod_is None server_is counted = absurd (cc counted.names.row_is)
  at_port pod pod_is (Some server) server_is counted = at_server pod pod_is server server_is counted

  at_pod : (pod : Option Pod) → pod_held held (Some (request.ns, request.pod)) ≡ pod → InView facts request (inbound_at config held request.ns request.port pod) text rule item
      → MayMeet held facts request text rule item
  at_pod None pod_is counted = absurd counted
  at_pod (Some pod) pod_is counted = at_port pod pod_is (chosen_server held request.ns pod request.port) refl counted

  pub may_meet : InView facts request (inbound config held request.ns request.pod request.port) text rule item → MayMeet held facts request text rule item
  may_meet counted = at_pod (pod_held held (Some (request.ns, request.pod))) refl counted

-- ---- what a simulation answers

in_view : (facts : PatternFacts) (request : Request) (view : ServerView) (text : List ℕ) (rule item : ℕ) → IsOfView facts request view (Pattern text rule item) → InView facts request view text rule item
in_view facts request Absent text rule item named = named
in_view facts request (Present server) text rule item named = named

abbrev IsDecision : Config → Option Pat → Request → ServerView → Result Verdict SimFault → Type 0
IsDecision config tells request view result = (pat : Pat) → tells ≡ Some pat → IfOk result (λ found. found ≡ decision config pat request view)

pub simulated : DecisionsAreVerdicts → RowsShowTheirMatches → (config : Config) (held : ObjectMap) → AtKeys held → (request : Request) → FitsIp request.client
    → (view : ServerView) → inbound config held request.ns request.pod request.port ≡ view → (facts : PatternFacts) (result : Result Verdict SimFault)
    → IsDecision config facts.tells request view result → IfErr result (IsOfView facts request view) → Simulated config held facts request result
simulated verdicts shapes config held at_keys request fits view is facts (Ok found) decided named = λ pat told.
    decided pat told ∙ ap (decision config pat request) (sym is) ∙ verdicts config held at_keys pat request fits
simulated verdicts shapes config held at_keys request fits view is facts (Err (Pattern text rule item)) decided named =
    may_meet shapes config held request facts text rule item (subst (λ (view : ServerView). InView facts request view text rule item) (sym is) (in_view facts request view text rule item named))
simulated verdicts shapes config held at_keys request fits view is facts (Err Memory) decided named = tt

-- a match of the rows of a Server whose protocol asks for routes
pub of_server : (facts : PatternFacts) (ns : List ℕ) (server : ServerRow) (http : HttpRequest) (fault : SimFault) (routes : List RouteRow) → routes ≡ server.routes → asks_routes server.protocol ≡ true
    → IsOfRows facts ns routes http fault → IsOfServer facts ns server (Some http) fault
of_server facts ns server http (Pattern text rule item) routes same asks names = record {
  protocol_asks = asks;
  asked = http;
  http_is = refl;
  names = subst (λ (routes : List RouteRow). NamesRow facts ns routes http text rule item) same names;
}
of_server facts ns server http Memory routes same asks names = tt

-- ---- a refusal of the best match

pub named_by : (facts : PatternFacts) (http : HttpRequest) (shapes : List Shape) {route rule item : ℕ} (fault : MatchFault) → fault ≡ Refused route rule item → IsNamed facts http shapes fault → NamesMatch facts http shapes route rule item
named_by facts http shapes fault is named = subst (IsNamed facts http shapes) is named

pub place_within : (routes : List RouteRow) (place : ℕ) (shape : Shape) → slice_get (map row_shape routes) place ≡ Some shape → place < length routes
place_within routes place shape at = let within = slice_get_within (map row_shape routes) place shape at in simp length-map at within

pub fault_of_row : (facts : PatternFacts) (ns : List ℕ) (routes : List RouteRow) (http : HttpRequest) (place : ℕ) (row : RouteRow) (rule item : ℕ) (front : List ℕ) (fault : SimFault)
    → slice_get routes place ≡ Some row → front ≡ ns ++ codes "/" → fault ≡ Pattern (front ++ row.name) rule item → NamesMatch facts http (map row_shape routes) place rule item → IsOfRows facts ns routes http fault
fault_of_row facts ns routes http place row rule item front fault at front_is is named =
    let text_is : front ++ row.name ≡ route_text ns row.name = ap (λ (text : List ℕ). text ++ row.name) front_is ∙ append_assoc ns (codes "/") row.name in
    let names : NamesRow facts ns routes http (front ++ row.name) rule item = record { place = place; row = row; row_is = at; text_is = text_is; named = named } in
    subst (IsOfRows facts ns routes http) (sym is) names
