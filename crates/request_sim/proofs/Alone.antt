-- The decision on a view needs the authorizations of the matched route alone.
use Rattle.std.proofs.Common.{◌≡◌, ◌&&◌, ℕ, List, [], ◌∷◌, map, Some, None, Option, refl, sym, ap, subst, ◌∙◌}
use Rattle.std.specs.Option.{option_map}
use Rattle.std.specs.Prelude.{if◌then◌else◌}
use Rattle.std.proofs.lemmas.Option.{slice_get-map}
use Rattle.view_types.specs.declared.config.Config.{Config}
use Rattle.view_types.specs.declared.request.HttpRequest.{HttpRequest}
use Rattle.view_types.specs.declared.request.Request.{Request}
use Rattle.view_types.specs.declared.server_view.AuthzRow.{AuthzRow}
use Rattle.view_types.specs.declared.server_view.RouteRow.{RouteRow}
use Rattle.view_types.specs.declared.server_view.ServerRow.{ServerRow}
use Rattle.view_types.specs.declared.server_view.ServerView.{ServerView}
use Rattle.view_types.specs.declared.server_view.ServerView.TheVariants.{Absent, Present}
use Rattle.route_match.specs.Asking.{PatternFacts}
use Rattle.route_match.specs.Faults.{NamesMatch}
use Rattle.route_match.specs.Matching.{Pat, Shape, best, row_shape}
use Rattle.route_match.specs.declared.best.Candidate.{Candidate}
use Rattle.request_rules.specs.Verdicts.{asks_routes}
use Rattle.request_sim.specs.Decision.{by_http, by_route, by_server, decision, has_rows, route_found}
use Rattle.request_sim.specs.Faults.{IsOfView, NamesRow}
use Rattle.request_sim.specs.FullViews.{by_http_alone, decision_alone, full_route, full_row, full_view}
use Rattle.request_sim.specs.declared.fault.SimFault.{SimFault}
use Rattle.request_sim.specs.declared.fault.SimFault.TheVariants.{Memory, Pattern}

module _ (authz : RouteRow → List AuthzRow) where
  -- ---- the routes

  shapes_stay : (routes : List RouteRow) → map row_shape (map (full_route authz) routes) ≡ map row_shape routes
  shapes_stay [] = refl
  shapes_stay (route ∷ routes) = ap (λ (shapes : List Shape). row_shape route ∷ shapes) (shapes_stay routes)

  as_many : (routes : List RouteRow) → has_rows (map (full_route authz) routes) ≡ has_rows routes
  as_many [] = refl
  as_many (route ∷ routes) = refl

  found_full : (routes : List RouteRow) (found : Option Candidate) → route_found (map (full_route authz) routes) found ≡ option_map (full_route authz) (route_found routes found)
  found_full routes None = refl
  found_full routes (Some found) = slice_get-map (full_route authz) routes found.route

  -- ---- the decision

  module _ (config : Config) (pat : Pat) (request : Request) where
    matched_full : (server : ServerRow) (http : HttpRequest)
        → by_route config request server (option_map (full_route authz) (route_found server.routes (best pat http (map row_shape server.routes))))
        ≡ by_route config request (full_row authz server) (route_found (map (full_route authz) server.routes) (best pat http (map row_shape (map (full_route authz) server.routes))))
    matched_full server http =
        ap (by_route config request server) (sym (found_full server.routes (best pat http (map row_shape server.routes))))
        ∙ by_row_alike (route_found (map (full_route authz) server.routes) (best pat http (map row_shape server.routes)))
        ∙ ap (λ shapes. by_route config request (full_row authz server) (route_found (map (full_route authz) server.routes) (best pat http shapes))) (sym (shapes_stay server.routes))
      where
        by_row_alike : (route : Option RouteRow) → by_route config request server route ≡ by_route config request (full_row authz server) route
        by_row_alike None = refl
        by_row_alike (Some route) = refl

    by_http_full : (server : ServerRow) (http : Option HttpRequest) → by_http_alone authz config pat request server http ≡ by_http config pat request (full_row authz server) http
    by_http_full server None = refl
    by_http_full server (Some http) =
        (λ i. if has_rows server.routes && asks_routes server.protocol then matched_full server http i else by_server config request server)
        ∙ ap (λ some. if some && asks_routes server.protocol
        then by_route config request (full_row authz server) (route_found (map (full_route authz) server.routes) (best pat http (map row_shape (map (full_route authz) server.routes))))
        else by_server config request server) (sym (as_many server.routes))

    pub decision_full : (view : ServerView) → decision_alone authz config pat request view ≡ decision config pat request (full_view authz view)
    decision_full Absent = refl
    decision_full (Present server) = by_http_full server request.http

  -- ---- faults

  module _ (facts : PatternFacts) (request : Request) where
    row_full : (ns : List ℕ) (routes : List RouteRow) (http : HttpRequest) (text : List ℕ) (rule item : ℕ) → NamesRow facts ns routes http text rule item → NamesRow facts ns (map (full_route authz) routes) http text rule item
    row_full ns routes http text rule item names = record {
      place = names.place;
      row = full_route authz names.row;
      row_is = slice_get-map (full_route authz) routes names.place ∙ ap (option_map (full_route authz)) names.row_is;
      text_is = names.text_is;
      named = subst (λ (shapes : List Shape). NamesMatch facts http shapes names.place rule item) (sym (shapes_stay routes)) names.named;
    }

    pub fault_full : (view : ServerView) (fault : SimFault) → IsOfView facts request view fault → IsOfView facts request (full_view authz view) fault
    fault_full Absent fault named = named
    fault_full (Present server) Memory named = tt
    fault_full (Present server) (Pattern text rule item) named = record {
      protocol_asks = named.protocol_asks;
      asked = named.asked;
      http_is = named.http_is;
      names = row_full request.ns server.routes named.asked text rule item named.names;
    }
