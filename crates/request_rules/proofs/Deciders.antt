-- A verdict names what decides.
use Rattle.std.proofs.Common.{◌≡◌, ◌&&◌, ℕ, [], true, false, find, if◌then◌else◌, map, Option, Some, None, refl, subst}
use Rattle.std.specs.FinMap.{values}
use Rattle.view_types.specs.Objects.{AtKeys, ObjectMap}
use Rattle.view_types.specs.declared.config.Config.{Config}
use Rattle.view_types.specs.declared.object.Object.{Object}
use Rattle.view_types.specs.declared.pod.Pod.{Pod}
use Rattle.view_types.specs.declared.request.HttpRequest.{HttpRequest}
use Rattle.view_types.specs.declared.request.Request.{Request}
use Rattle.view_types.specs.declared.route.Route.{Route}
use Rattle.view_types.specs.declared.server.ServerSpec.{ServerSpec}
use Rattle.view_types.specs.declared.verdict.Decider.TheVariants.{Default}
use Rattle.view_types.specs.declared.verdict.Verdict.{Verdict}
use Rattle.view_types.specs.declared.verdict.Verdict.TheVariants.{Allowed, Denied}
use Rattle.view_rules.specs.Inbound.{default_policy, default_protocol, probe_paths, unless_routes}
use Rattle.view_rules.specs.PodRows.{pod_held}
use Rattle.view_rules.specs.Policies.{applies_to_server}
use Rattle.view_rules.specs.Servers.{chosen_server}
use Rattle.route_match.specs.Matching.{Pat, best}
use Rattle.request_rules.specs.Admits.{admits}
use Rattle.request_rules.specs.Laws as laws
use Rattle.request_rules.specs.Laws.{InForce, IsDecided, IsDecidedBy, IsLeftToPolicy, NoneAdmits, VerdictsNameTheirDecider, at_pod, at_port, at_server, on_server}
use Rattle.request_rules.specs.Meeting.{routes_of}
use Rattle.request_rules.specs.Verdicts as verdicts
use Rattle.request_rules.specs.Verdicts.{applies_to_either, asks_routes, by_found, by_pod, by_policy, by_probe, by_routes, by_server, by_server_alone, decided, is_more_than_none, policy_admits, probe_place, route_at, shape_of}
use Rattle.request_rules.proofs.FirstAdmitting.{least_admits, none_admits}
use Rattle.request_rules.proofs.Probes.{is_no_probe, is_probe, without_paths}

module _ (config : Config) (held : ObjectMap) (at_keys : AtKeys held) (request : Request) where
  -- where nobody who counts admits the client, and no probe
  policy_is_named : (force : InForce) → IsLeftToPolicy config held request force → IsDecidedBy config held request force (by_policy config request force.policy)
  policy_is_named force left =
      elim (policy_admits config request.client request.tls force.policy) as
      (λ b. policy_admits config request.client request.tls force.policy ≡ b
      → IsDecidedBy config held request force (if b then Allowed (Default force.policy) else Denied (Default force.policy))) [
        | true ↦ λ admitted. (refl, admitted, left)
        | false ↦ λ refused. (refl, refused, left)
      ] refl

  abbrev its_place : InForce → Option ℕ
  its_place force = probe_place config request force.protocol force.paths request.http

  -- where nobody who counts admits the client
  probe_is_named : (force : InForce) → NoneAdmits config held request force → (place : Option ℕ) → its_place force ≡ place → IsDecidedBy config held request force (by_probe config request force.policy place)
  probe_is_named force none None is = policy_is_named force (record { none_admits = none; no_probe = is_no_probe config request force request.http refl is })
  probe_is_named force none (Some place) is = (is_probe config request force request.http refl place is, none)

  decider_is_named : (force : InForce) → IsDecidedBy config held request force (decided config held request (by_probe config request force.policy (its_place force)) force.counts)
  decider_is_named force =
      let first : Option Object = find (λ o. force.counts o && admits config held request.client request.tls o) (values held) in
      elim first as (λ found. first ≡ found → IsDecidedBy config held request force (by_found (by_probe config request force.policy (its_place force)) found)) [
        | None ↦ λ none. probe_is_named force (none_admits config held at_keys force.counts request.client request.tls none) (its_place force) refl
        | Some o ↦ λ found. (o, least_admits config held at_keys force.counts request.client request.tls o found, refl)
      ] refl

  module _ (pat : Pat) where
    with_route : (server : ServerSpec) (route : Option Route) → IsDecided config held request (laws.on_route held server route) (verdicts.on_route config held request server route)
    with_route server None = tt
    with_route server (Some met) =
        let force : InForce = record { protocol = server.protocol; policy = server.policy; counts = applies_to_either held server met; paths = [] } in
        subst (λ (otherwise : Verdict). IsDecidedBy config held request force (decided config held request otherwise force.counts))
        (without_paths config request server.protocol server.policy request.http) (decider_is_named force)

    alone : (pod : Pod) (server : ServerSpec) → IsDecided config held request (on_server held pod request.port server) (by_server_alone config held request pod server (routes_of held server))
    alone pod server = decider_is_named (record {
      protocol = server.protocol;
      policy = server.policy;
      counts = applies_to_server held server;
      paths = unless_routes (routes_of held server) (probe_paths pod request.port);
    })

    with_routes : (pod : Pod) (server : ServerSpec) (http : Option HttpRequest)
        → IsDecided config held request (at_server held pat pod request.port server http) (by_routes config held pat request pod server (routes_of held server) http)
    with_routes pod server None = alone pod server
    with_routes pod server (Some http) =
        let route = route_at (routes_of held server) (best pat http (map shape_of (routes_of held server))) in
        elim (is_more_than_none (routes_of held server) && asks_routes server.protocol) as
        (λ b. IsDecided config held request
        (if b then laws.on_route held server route else on_server held pod request.port server)
        (if b then verdicts.on_route config held request server route else by_server_alone config held request pod server (routes_of held server))) [
          | true ↦ with_route server route
          | false ↦ alone pod server
        ]

    with_server : (pod : Pod) (server : Option ServerSpec) → IsDecided config held request (at_port config held pat request pod server) (by_server config held pat request pod server)
    with_server pod None =
        let force : InForce = record {
          protocol = default_protocol pod request.port;
          policy = default_policy config pod;
          counts = λ o. false;
          paths = probe_paths pod request.port;
        } in
        probe_is_named force (λ o is. absurd (cc is.passes)) (its_place force) refl
    with_server pod (Some server) = with_routes pod server request.http

    with_pod : (pod : Option Pod) → IsDecided config held request (at_pod config held pat request pod) (by_pod config held pat request pod)
    with_pod None = tt
    with_pod (Some pod) = with_server pod (chosen_server held request.ns pod request.port)

pub verdicts_name_their_decider : VerdictsNameTheirDecider
verdicts_name_their_decider config held at_keys pat request = with_pod config held at_keys request pat (pod_held held (Some (request.ns, request.pod)))
