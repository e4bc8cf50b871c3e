-- When a verdict neither allows nor denies.
use Rattle.std.proofs.Common.{◌≡◌, ℕ, Bool, true, false, ◌&&◌, find, if◌then◌else◌, List, [], ◌∷◌, map, Option, Some, None, refl, sym, ap, subst, ◌∙◌}
use Rattle.std.specs.Prelude.{MatchOption}
use Rattle.std.specs.FinMap.{values}
use Rattle.std.specs.List.{fold, slice_get}
use Rattle.std.specs.Option.{option_map}
use Rattle.std.proofs.lemmas.Bool.{and_from, and_parts}
use Rattle.std.proofs.lemmas.Option.{slice_get-map}
use Rattle.view_types.specs.Objects.{ObjectMap}
use Rattle.view_types.specs.declared.config.Config.{Config}
use Rattle.view_types.specs.declared.object.Object.{Object}
use Rattle.view_types.specs.declared.pod.Pod.{Pod}
use Rattle.view_types.specs.declared.policy.Policy.{Policy}
use Rattle.view_types.specs.declared.policy.Protocol.{Protocol}
use Rattle.view_types.specs.declared.request.HttpRequest.{HttpRequest}
use Rattle.view_types.specs.declared.request.Request.{Request}
use Rattle.view_types.specs.declared.route.Route.{Route}
use Rattle.view_types.specs.declared.server.ServerSpec.{ServerSpec}
use Rattle.view_types.specs.declared.verdict.Decider.TheVariants.{Default}
use Rattle.view_types.specs.declared.verdict.Verdict.{Verdict}
use Rattle.view_types.specs.declared.verdict.Verdict.TheVariants.{Allowed, Denied, NotFound, NoWorkload}
use Rattle.view_rules.specs.Inbound.{default_policy, default_protocol, probe_paths, unless_routes}
use Rattle.view_rules.specs.PodRows.{pod_held}
use Rattle.view_rules.specs.Policies.{applies_to_server}
use Rattle.view_rules.specs.Servers.{chosen_server}
use Rattle.route_match.specs.Matching.{AreCandidates, BestIsFirst, CandidatesAreThoseThatHold, IsCandidate, IsFirstOfTheBest, Pat, Shape, best, better, candidates}
use Rattle.route_match.specs.declared.best.Candidate.{Candidate}
use Rattle.request_rules.specs.Admits.{admits}
use Rattle.request_rules.specs.Laws.{IsUndecided, NoWorkloadWhereNoPod, NotFoundWhereNoMatchHolds}
use Rattle.request_rules.specs.Meeting.{RoutesCount, routes_of}
use Rattle.request_rules.specs.Verdicts.{applies_to_either, asks_routes, by_found, by_paths, by_pod, by_policy, by_probe, by_routes, by_server, by_server_alone, decided, is_more_than_none, on_route, policy_admits, probe_place, route_at, shape_of, verdict}

-- ---- a decision

module _ (config : Config) (held : ObjectMap) (request : Request) where
  policy_decides : (policy : Policy) (v : Verdict) → by_policy config request policy ≡ v → IsUndecided v → ⊥
  policy_decides policy v is undecided =
      elim (policy_admits config request.client request.tls policy) as (λ b. (if b then Allowed (Default policy) else Denied (Default policy)) ≡ v → ⊥) [
        | true ↦ λ is. subst IsUndecided (sym is) undecided
        | false ↦ λ is. subst IsUndecided (sym is) undecided
      ] is

  probe_decides : (policy : Policy) (place : Option ℕ) (v : Verdict) → by_probe config request policy place ≡ v → IsUndecided v → ⊥
  probe_decides policy None v is undecided = policy_decides policy v is undecided
  probe_decides policy (Some place) v is undecided = subst IsUndecided (sym is) undecided

  paths_decide : (protocol : Protocol) (policy : Policy) (paths : List (List ℕ)) (v : Verdict) → by_paths config request protocol policy paths ≡ v → IsUndecided v → ⊥
  paths_decide protocol policy paths = probe_decides policy (probe_place config request protocol paths request.http)

  -- it isn't undecided
  abbrev Decides : Verdict → Type 0
  Decides otherwise = (v : Verdict) → otherwise ≡ v → IsUndecided v → ⊥

  found_decides : (otherwise : Verdict) → Decides otherwise → (found : Option Object) → Decides (by_found otherwise found)
  found_decides otherwise decides None v is undecided = decides v is undecided
  found_decides otherwise decides (Some o) v is undecided = subst IsUndecided (sym is) undecided

  it_decides : (otherwise : Verdict) → Decides otherwise → (counts : Object → Bool) → Decides (decided config held request otherwise counts)
  it_decides otherwise decides counts = found_decides otherwise decides (find (λ o. counts o && admits config held request.client request.tls o) (values held))

  route_decides : (server : ServerSpec) (route : Route) → Decides (on_route config held request server (Some route))
  route_decides server route = it_decides (by_policy config request server.policy) (policy_decides server.policy) (applies_to_either held server route)

  alone_decides : (pod : Pod) (server : ServerSpec) (routes : List Route) → Decides (by_server_alone config held request pod server routes)
  alone_decides pod server routes =
      let paths = unless_routes routes (probe_paths pod request.port) in
      it_decides (by_paths config request server.protocol server.policy paths) (paths_decide server.protocol server.policy paths) (applies_to_server held server)

-- ---- the best match

none_best : (first : BestIsFirst) (pat : Pat) (http : HttpRequest) (shapes : List Shape) → best pat http shapes ≡ None → candidates pat http shapes ≡ []
none_best first pat http shapes none = subst (λ (b : Option Candidate). MatchOption b (candidates pat http shapes ≡ []) (IsFirstOfTheBest (candidates pat http shapes))) none (first pat http shapes)

best_of_none : (pat : Pat) (http : HttpRequest) (shapes : List Shape) → candidates pat http shapes ≡ [] → best pat http shapes ≡ None
best_of_none pat http shapes none = ap (fold better None) none

-- what stands in no list
none_stands : (cs : List Candidate) → cs ≡ [] → (k : ℕ) (c : Candidate) → slice_get cs k ≡ Some c → ⊥
none_stands [] is k c at = cc
none_stands (d ∷ ds) is k c at = absurd (cc is)

empty_where_none : (pat : Pat) (http : HttpRequest) (shapes : List Shape) (cs : List Candidate) → AreCandidates pat http shapes cs → ((c : Candidate) → IsCandidate pat http shapes c → ⊥) → cs ≡ []
empty_where_none pat http shapes [] are none = refl
empty_where_none pat http shapes (c ∷ cs) are none = absurd (none c (are.only 0 c refl))

some_from : {X Y : Type 0} (f : X → Y) (found : Option X) (y : Y) → option_map f found ≡ Some y → found ≡ None → ⊥
some_from f None y is none = cc
some_from f (Some x) y is none = cc

module _ (those : CandidatesAreThoseThatHold) (first : BestIsFirst) (pat : Pat) (http : HttpRequest) (routes : List Route) where
  abbrev shapes : List Shape
  shapes = map shape_of routes

  -- the route of a candidate is there
  is_there : (c : Candidate) → IsCandidate pat http shapes c → slice_get routes c.route ≡ None → ⊥
  is_there c is none = some_from shape_of (slice_get routes c.route) is.shape (sym (slice_get-map shape_of routes c.route) ∙ is.route_at) none

  no_route : (found : Option Candidate) → best pat http shapes ≡ found → route_at routes found ≡ None → (c : Candidate) → IsCandidate pat http shapes c → ⊥
  no_route None is none c candidate =
      let stands = (those pat http shapes).each c candidate in
      none_stands (candidates pat http shapes) (none_best first pat http shapes is) stands.0 c stands.1
  no_route (Some found) is none c candidate =
      let met : IsFirstOfTheBest (candidates pat http shapes) found =
      subst (λ (b : Option Candidate). MatchOption b (candidates pat http shapes ≡ []) (IsFirstOfTheBest (candidates pat http shapes))) is (first pat http shapes) in
      is_there found ((those pat http shapes).only met.place found met.stands) none

  from_none : ((c : Candidate) → IsCandidate pat http shapes c → ⊥) → route_at routes (best pat http shapes) ≡ None
  from_none none = ap (route_at routes) (best_of_none pat http shapes (empty_where_none pat http shapes (candidates pat http shapes) (those pat http shapes) none))

-- ---- the verdict

module _ (config : Config) (held : ObjectMap) (pat : Pat) (request : Request) where
  -- routes count and a route isn't found, or the verdict isn't undecided behind the Pod
  module _ (pod : Pod) (pod_is : pod_held held (Some (request.ns, request.pod)) ≡ Some pod) where
    abbrev Searched : Type 0
    Searched = (counts : RoutesCount held request) × (route_at (routes_of held counts.server) (best pat counts.http (map shape_of (routes_of held counts.server))) ≡ None)

    found_none : (server : ServerSpec) (route : Option Route) (v : Verdict) → on_route config held request server route ≡ v → IsUndecided v → (route ≡ None) × (v ≡ NotFound)
    found_none server None v is undecided = (refl, sym is)
    found_none server (Some route) v is undecided = absurd (route_decides config held request server route v is undecided)

    searched : (server : ServerSpec) → chosen_server held request.ns pod request.port ≡ Some server → (http : Option HttpRequest) → request.http ≡ http → (v : Verdict)
        → by_routes config held pat request pod server (routes_of held server) http ≡ v → IsUndecided v → Searched × (v ≡ NotFound)
    searched server server_is None http_is v is undecided = absurd (alone_decides config held request pod server (routes_of held server) v is undecided)
    searched server server_is (Some http) http_is v is undecided =
        let some = is_more_than_none (routes_of held server) in
        let route = route_at (routes_of held server) (best pat http (map shape_of (routes_of held server))) in
        elim (some && asks_routes server.protocol) as
        (λ b. (some && asks_routes server.protocol) ≡ b
        → (if b then on_route config held request server route else by_server_alone config held request pod server (routes_of held server)) ≡ v → Searched × (v ≡ NotFound)) [
          | true ↦ λ ask is.
              let both = and_parts some (asks_routes server.protocol) ask in
              let none = found_none server route v is undecided in
              ((record { pod = pod; pod_is = pod_is; server = server; server_is = server_is; has_routes = both.0; protocol_asks = both.1; http = http; http_is = http_is }, none.0), none.1)
          | false ↦ λ ask is. absurd (alone_decides config held request pod server (routes_of held server) v is undecided)
        ] refl is

    at_server : (server : Option ServerSpec) → chosen_server held request.ns pod request.port ≡ server → (v : Verdict) → by_server config held pat request pod server ≡ v → IsUndecided v → Searched × (v ≡ NotFound)
    at_server None server_is v is undecided =
        absurd (paths_decide config held request (default_protocol pod request.port) (default_policy config pod) (probe_paths pod request.port) v is undecided)
    at_server (Some server) server_is v is undecided = searched server server_is request.http refl v is undecided

  at_pod : (pod : Option Pod) → pod_held held (Some (request.ns, request.pod)) ≡ pod → (v : Verdict) → by_pod config held pat request pod ≡ v → v ≡ NotFound
      → (counts : RoutesCount held request) × (route_at (routes_of held counts.server) (best pat counts.http (map shape_of (routes_of held counts.server))) ≡ None)
  at_pod None pod_is v is not_found = absurd (cc (is, not_found))
  at_pod (Some pod) pod_is v is not_found =
      (at_server pod pod_is (chosen_server held request.ns pod request.port) refl v is (subst IsUndecided (sym not_found) tt)).0

  -- what comes of a request for which routes count
  counted : (counts : RoutesCount held request) → verdict config held pat request ≡ on_route config held request counts.server (route_at (routes_of held counts.server) (best pat counts.http (map shape_of (routes_of held counts.server))))
  counted counts =
      ap (by_pod config held pat request) counts.pod_is
      ∙ ap (by_server config held pat request counts.pod) counts.server_is
      ∙ ap (by_routes config held pat request counts.pod counts.server (routes_of held counts.server)) counts.http_is
      ∙ ap (λ b. if b then on_route config held request counts.server (route_at (routes_of held counts.server) (best pat counts.http (map shape_of (routes_of held counts.server))))
      else by_server_alone config held request counts.pod counts.server (routes_of held counts.server))
      (and_from (is_more_than_none (routes_of held counts.server)) (asks_routes counts.server.protocol) counts.has_routes counts.protocol_asks)

  no_pod : (pod : Option Pod) → pod_held held (Some (request.ns, request.pod)) ≡ pod → by_pod config held pat request pod ≡ NoWorkload → pod ≡ None
  no_pod None pod_is is = refl
  no_pod (Some pod) pod_is is =
      let end : NoWorkload ≡ NotFound = (at_server pod pod_is (chosen_server held request.ns pod request.port) refl NoWorkload is tt).1 in
      absurd (cc end)

pub not_found_where_no_match_holds : CandidatesAreThoseThatHold → BestIsFirst → NotFoundWhereNoMatchHolds
not_found_where_no_match_holds those first config held pat request = (
  λ is.
      let met = at_pod config held pat request (pod_held held (Some (request.ns, request.pod))) refl (verdict config held pat request) refl is in
      record { counts = met.0; none = no_route those first pat met.0.http (routes_of held met.0.server) (best pat met.0.http (map shape_of (routes_of held met.0.server))) refl met.1 },
  λ none.
      counted config held pat request none.counts
      ∙ ap (on_route config held request none.counts.server) (from_none those first pat none.counts.http (routes_of held none.counts.server) none.none),
)

pub no_workload_where_no_pod : NoWorkloadWhereNoPod
no_workload_where_no_pod config held pat request = (
  λ is. no_pod config held pat request (pod_held held (Some (request.ns, request.pod))) refl is,
  λ none. ap (by_pod config held pat request) none,
)
