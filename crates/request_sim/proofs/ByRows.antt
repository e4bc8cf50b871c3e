-- The decision on an inbound view is the verdict over the objects of which it is the view.
use Rattle.std.proofs.Common.{◌≡◌, ℕ, ◌⊎◌, inl, inr, Bool, true, false, cond, ◌&&◌, ◌||◌, List, [], ◌∷◌, map, Some, None, Option, refl, sym, ap, ◌∙◌}
use Rattle.std.specs.FinMap.{values}
use Rattle.std.specs.List.{find}
use Rattle.std.specs.Option.{option_map}
use Rattle.std.specs.Ordering.{is_gt}
use Rattle.std.proofs.lemmas.Option.{slice_get-map}
use Rattle.net_cidr.specs.Texts.{FitsIp}
use Rattle.view_types.specs.Objects.{AtKeys, ObjectMap, meta_of}
use Rattle.view_types.specs.declared.config.Config.{Config}
use Rattle.view_types.specs.declared.object.Object.{Object}
use Rattle.view_types.specs.declared.pod.Pod.{Pod}
use Rattle.view_types.specs.declared.request.HttpRequest.{HttpRequest}
use Rattle.view_types.specs.declared.request.Request.{Request}
use Rattle.view_types.specs.declared.route.Route.{Route}
use Rattle.view_types.specs.declared.server.ServerSpec.{ServerSpec}
use Rattle.view_types.specs.declared.server_view.AuthzRow.{AuthzRow}
use Rattle.view_types.specs.declared.verdict.Decider.TheVariants.{Authz}
use Rattle.view_types.specs.declared.verdict.Verdict.{Verdict}
use Rattle.view_types.specs.declared.verdict.Verdict.TheVariants.{Allowed}
use Rattle.view_rules.specs.Inbound.{default_policy, default_protocol, default_row, inbound_at, inbound_route, inbound_routes, port_row, probe_paths, server_row, unless_routes}
use Rattle.view_rules.specs.PodRows.{pod_held}
use Rattle.view_rules.specs.Policies.{applies_to_route, applies_to_server, authz_rows}
use Rattle.view_rules.specs.AuthzOrder.{AuthzKey, authz_cmp, authz_key}
use Rattle.view_rules.specs.Routes.{route_key}
use Rattle.view_rules.specs.Servers.{chosen_server}
use Rattle.route_match.specs.Matching.{Pat, best, row_shape}
use Rattle.route_match.specs.declared.best.Candidate.{Candidate}
use Rattle.request_rules.specs.Admits.{admits}
use Rattle.request_rules.specs.Laws.{RowsAdmitAsTheirObjects, RowsShowTheirMatches}
use Rattle.request_rules.specs.Meeting.{routes_of}
use Rattle.request_rules.specs.Verdicts as objects
use Rattle.request_rules.specs.Verdicts.{applies_to_either, asks_routes, by_found, by_paths, by_policy, decided, is_more_than_none, route_at, shape_of}
use Rattle.request_sim.specs.Decision as rows
use Rattle.request_sim.specs.Decision.{by_row, decision, first_admitting, has_rows, lesser, route_found}
use Rattle.request_sim.specs.Faults.{DecisionsAreVerdicts}
use Rattle.request_sim.proofs.Applying.{here_of_route, here_of_server, route_is_here}
use Rattle.request_sim.proofs.FirstRow.{first_row}
use Rattle.request_sim.proofs.InPlace.{IsAuthz, first_of_either, place_of}
use Rattle.request_sim.proofs.TwoLists.{lesser_of}

lesser_place : (a b : Option AuthzRow) → option_map authz_key (lesser a b) ≡ lesser_of authz_cmp (option_map authz_key a) (option_map authz_key b)
lesser_place None b = refl
lesser_place (Some a) None = refl
lesser_place (Some a) (Some b) =
    elim (is_gt (authz_cmp (authz_key a) (authz_key b))) as (λ t. ◌≡◌ {A = Option AuthzKey} (Some (authz_key (cond t b a))) (Some (cond t (authz_key b) (authz_key a)))) [ true ↦ refl | false ↦ refl ]

either_or : (a b c : Bool) → ((a && c) || (b && c)) ≡ true → (a ≡ true) ⊎ (b ≡ true)
either_or true b c e = inl refl
either_or false true c e = inr refl
either_or false false c e = absurd (cc e)

both_or : (a b c : Bool) → ((a && c) || (b && c)) ≡ ((a || b) && c)
both_or true b true = refl
both_or true true false = refl
both_or true false false = refl
both_or false b c = refl

module _ (alike : RowsAdmitAsTheirObjects) (shapes : RowsShowTheirMatches) (config : Config) (held : ObjectMap) (at_keys : AtKeys held) (pat : Pat) (request : Request) (fits : FitsIp request.client) where
  -- ---- authorizations

  abbrev admits_it : Object → Bool
  admits_it o = admits config held request.client request.tls o

  abbrev by_place : Verdict → Option AuthzKey → Verdict
  by_place otherwise None = otherwise
  by_place otherwise (Some place) = Allowed (Authz place.0 place.1)

  row_decides : (otherwise : Verdict) (row : Option AuthzRow) → by_row otherwise row ≡ by_place otherwise (option_map authz_key row)
  row_decides otherwise None = refl
  row_decides otherwise (Some row) = refl

  object_decides : (otherwise : Verdict) (o : Option Object) → by_found otherwise o ≡ by_place otherwise (option_map place_of o)
  object_decides otherwise None = refl
  object_decides otherwise (Some o) = refl

  first_is : (applies : Object → Bool) → option_map authz_key (first_admitting request (authz_rows config held applies)) ≡ option_map place_of (find (λ o. applies o && admits_it o) (values held))
  first_is applies = first_row config held request.client request.tls (λ o row is. alike config held o row request.client fits request.tls is) applies (values held)

  -- what the probes of a port with these routes decide, else the policy
  abbrev by_probes : {A : Type 0} → Pod → ServerSpec → List A → Verdict
  by_probes pod server routes = by_paths config request server.protocol server.policy (unless_routes routes (probe_paths pod request.port))

  as_many : (routes : List Route) (paths : List (List ℕ)) → unless_routes (map (inbound_route config held) routes) paths ≡ unless_routes routes paths
  as_many [] paths = refl
  as_many (route ∷ routes) paths = refl

  on_server : (pod : Pod) (server : ServerSpec) → rows.by_server config request (server_row config held pod request.port server) ≡ objects.by_server_alone config held request pod server (routes_of held server)
  on_server pod server =
      let otherwise = by_probes pod server (inbound_routes config held server) in
      row_decides otherwise (first_admitting request (authz_rows config held (applies_to_server held server)))
      ∙ ap (by_place otherwise) (first_is (applies_to_server held server))
      ∙ sym (object_decides otherwise (find (λ o. applies_to_server held server o && admits_it o) (values held)))
      ∙ ap (λ paths. decided config held request (by_paths config request server.protocol server.policy paths) (applies_to_server held server))
      (as_many (routes_of held server) (probe_paths pod request.port))

  -- ---- those of a route, too

  module _ (pod : Pod) (server : ServerSpec) (route : Route) (here : route.meta.ns ≡ server.meta.ns) where
    abbrev of_server : Object → Bool
    of_server o = applies_to_server held server o && admits_it o

    abbrev of_route : Object → Bool
    of_route o = applies_to_route held (route_key route) o && admits_it o

    abbrev of_either : Object → Bool
    of_either o = applies_to_either held server route o && admits_it o

    within : (o : Object) → (of_server o || of_route o) ≡ true → IsAuthz o × ((meta_of o).ns ≡ server.meta.ns)
    within o e = elim (either_or (applies_to_server held server o) (applies_to_route held (route_key route) o) (admits_it o) e) [
      | inl is ↦ here_of_server held server o is
      | inr is ↦ let it = here_of_route held (route_key route) o is in (it.0, it.1 ∙ here)
    ]

    same_test : (λ (o : Object). of_server o || of_route o) ≡ of_either
    same_test = λ i o. both_or (applies_to_server held server o) (applies_to_route held (route_key route) o) (admits_it o) i

    first_of_both : option_map authz_key (lesser (first_admitting request (authz_rows config held (applies_to_server held server))) (first_admitting request (authz_rows config held (applies_to_route held (route_key route)))))
        ≡ option_map place_of (find of_either (values held))
    first_of_both =
        lesser_place (first_admitting request (authz_rows config held (applies_to_server held server))) (first_admitting request (authz_rows config held (applies_to_route held (route_key route))))
        ∙ (λ i. lesser_of authz_cmp (first_is (applies_to_server held server) i) (first_is (applies_to_route held (route_key route)) i))
        ∙ first_of_either server.meta.ns of_server of_route within held at_keys
        ∙ ap (λ (p : Object → Bool). option_map place_of (find p (values held))) same_test

    on_route : rows.by_route config request (server_row config held pod request.port server) (Some (inbound_route config held route))
        ≡ decided config held request (by_policy config request server.policy) (applies_to_either held server route)
    on_route =
        row_decides (by_policy config request server.policy) (lesser (first_admitting request (authz_rows config held (applies_to_server held server))) (first_admitting request (authz_rows config held (applies_to_route held (route_key route)))))
        ∙ ap (by_place (by_policy config request server.policy)) first_of_both
        ∙ sym (object_decides (by_policy config request server.policy) (find of_either (values held)))

  -- ---- routes

  by_route_found : (pod : Pod) (server : ServerSpec) (found : Option Route) → ((route : Route) → found ≡ Some route → route.meta.ns ≡ server.meta.ns)
      → rows.by_route config request (server_row config held pod request.port server) (option_map (inbound_route config held) found) ≡ objects.on_route config held request server found
  by_route_found pod server None here = refl
  by_route_found pod server (Some route) here = on_route pod server route (here route refl)

  found_shown : (routes : List Route) (found : Option Candidate) → route_found (map (inbound_route config held) routes) found ≡ option_map (inbound_route config held) (route_at routes found)
  found_shown routes None = refl
  found_shown routes (Some found) = slice_get-map (inbound_route config held) routes found.route

  found_is_here : (server : ServerSpec) (found : Option Candidate) (route : Route) → route_at (routes_of held server) found ≡ Some route → route.meta.ns ≡ server.meta.ns
  found_is_here server None route is = absurd (cc is)
  found_is_here server (Some found) route is = route_is_here held server found.route route is

  some_shown : (routes : List Route) → has_rows (map (inbound_route config held) routes) ≡ is_more_than_none routes
  some_shown [] = refl
  some_shown (route ∷ routes) = refl

  abbrev by_shapes : Pod → ServerSpec → HttpRequest → Verdict
  by_shapes pod server http =
      rows.by_route config request (server_row config held pod request.port server)
      (route_found (inbound_routes config held server) (best pat http (map row_shape (inbound_routes config held server))))

  by_best : (pod : Pod) (server : ServerSpec) (http : HttpRequest)
      → by_shapes pod server http ≡ objects.on_route config held request server (route_at (routes_of held server) (best pat http (map shape_of (routes_of held server))))
  by_best pod server http =
      let row = server_row config held pod request.port server in
      let found = best pat http (map shape_of (routes_of held server)) in
      ap (λ shown. rows.by_route config request row (route_found (inbound_routes config held server) (best pat http shown))) (shapes config held server)
      ∙ ap (rows.by_route config request row) (found_shown (routes_of held server) found)
      ∙ by_route_found pod server (route_at (routes_of held server) found) (found_is_here server found)

  by_server : (pod : Pod) (server : ServerSpec) (http : Option HttpRequest)
      → rows.by_http config pat request (server_row config held pod request.port server) http ≡ objects.by_routes config held pat request pod server (routes_of held server) http
  by_server pod server None = on_server pod server
  by_server pod server (Some http) = λ i. cond (some_shown (routes_of held server) i && asks_routes server.protocol) (by_best pod server http i) (on_server pod server i)

  -- ---- the port of a Pod

  without_server : (pod : Pod) (http : Option HttpRequest) → rows.by_http config pat request (default_row config pod request.port) http
      ≡ by_paths config request (default_protocol pod request.port) (default_policy config pod) (probe_paths pod request.port)
  without_server pod None = refl
  without_server pod (Some http) = refl

  at_port : (pod : Pod) (server : Option ServerSpec) → rows.by_http config pat request (port_row config held pod request.port server) request.http ≡ objects.by_server config held pat request pod server
  at_port pod None = without_server pod request.http
  at_port pod (Some server) = by_server pod server request.http

  pub at_pod : (pod : Option Pod) → decision config pat request (inbound_at config held request.ns request.port pod) ≡ objects.by_pod config held pat request pod
  at_pod None = refl
  at_pod (Some pod) = at_port pod (chosen_server held request.ns pod request.port)

pub decisions_are_verdicts : RowsAdmitAsTheirObjects → RowsShowTheirMatches → DecisionsAreVerdicts
decisions_are_verdicts alike shapes config held at_keys pat request fits = at_pod alike shapes config held at_keys pat request fits (pod_held held (Some (request.ns, request.pod)))
