-- The names of what is held have no LF. So none stands in the names of who decides on a request, nor in those of a route whose pattern a
-- simulation meets.
use Rattle.std.proofs.Common.{◌≡◌, ℕ, Bool, true, false, ◌&&◌, List, ◌++◌, Option, Some, None, IfSome, if◌then◌else◌, refl, sym, ap, subst, arith}
use Rattle.std.specs.Prelude.{◌==◌, codes, find, map}
use Rattle.std.specs.FinMap.{get, values}
use Rattle.std.specs.List.{AllByRecursion, filter, filter_map}
use Rattle.std.proofs.lemmas.Bool.Decides.{nat_tests}
use Rattle.mesh_base.specs.declared.key.ObjKey.{ObjKey}
use Rattle.mesh_base.proofs.KeyOrder.{keys_total}
use Rattle.line_run.specs.Rows.{NoBreak}
use Rattle.k8s_meta.specs.Lawful.{HasOnly, IsLawfulMeta}
use Rattle.k8s_meta.specs.Scalars.{is_label_byte, is_name_byte}
use Rattle.k8s_meta.specs.declared.meta.Meta.{Meta}
use Rattle.view_types.specs.Lawful.{IsLawful}
use Rattle.view_types.specs.Objects.{AtKeys, ObjectMap, meta_of}
use Rattle.view_types.specs.declared.config.Config.{Config}
use Rattle.view_types.specs.declared.object.Object.{Object}
use Rattle.view_types.specs.declared.object.Object.TheVariants as objects
use Rattle.view_types.specs.declared.pod.Pod.{Pod}
use Rattle.view_types.specs.declared.policy.Policy.{Policy}
use Rattle.view_types.specs.declared.policy.Protocol.{Protocol}
use Rattle.view_types.specs.declared.request.HttpRequest.{HttpRequest}
use Rattle.view_types.specs.declared.request.Request.{Request}
use Rattle.view_types.specs.declared.route.Parent.{Parent}
use Rattle.view_types.specs.declared.route.Route.{Route}
use Rattle.view_types.specs.declared.server.ServerSpec.{ServerSpec}
use Rattle.view_types.specs.declared.verdict.Decider.{Decider}
use Rattle.view_types.specs.declared.verdict.Decider.TheVariants.{Authz, Default, Probe}
use Rattle.view_types.specs.declared.verdict.Verdict.{Verdict}
use Rattle.view_types.specs.declared.verdict.Verdict.TheVariants.{Allowed, Denied, NotFound, NoWorkload}
use Rattle.view_rules.proofs.Among.{Among, from_found, from_kept}
use Rattle.view_rules.proofs.Attached.{places_exact, route_order_is_total}
use Rattle.view_rules.proofs.Firsts.{stands_at}
use Rattle.view_rules.proofs.Entries.{held_somewhere}
use Rattle.view_rules.proofs.KeptOnce.{order_has}
use Rattle.view_rules.specs.Inbound.{default_policy, default_protocol, probe_paths, unless_routes}
use Rattle.view_rules.specs.PodRows.{as_pod, pod_found, pod_key}
use Rattle.view_rules.specs.Policies.{applies_to_server}
use Rattle.view_rules.specs.PolicyLaws.{AreLawful}
use Rattle.view_rules.specs.Routes.{as_route, attached_routes, has_parent, is_server_parent, place_of}
use Rattle.view_rules.specs.Servers.{chosen_server}
use Rattle.route_match.specs.Matching.{Pat, best}
use Rattle.request_rules.specs.Admits.{admits}
use Rattle.request_rules.specs.Meeting.{MayMeet, route_text, routes_of}
use Rattle.request_rules.specs.Verdicts.{applies_to_either, asks_routes, by_found, by_paths, by_pod, by_policy, by_probe, by_routes, by_server, by_server_alone, decided, is_more_than_none, on_route, policy_admits, probe_place, route_at, shape_of, verdict}
use Rattle.request_sim.specs.declared.fault.SimFault.{SimFault}
use Rattle.request_sim.specs.declared.fault.SimFault.TheVariants as sim
use Rattle.feed_history.specs.MarkCauses.{MayBeMarked}
use Rattle.feed_history.specs.History.{State}
use Rattle.feed_history.specs.Marks.{MarkedRow}
use Rattle.feed_history.specs.Program.{Program}
use Rattle.feed_history.proofs.Lists.{all_among, all_weaker, found_is}
use Rattle.output_laws.proofs.PlainFaults.{HasPlainRoute}
use Rattle.output_laws.proofs.Without.{looked_through, no_break, without_both, without_break}
use Rattle.route_match.specs.Asking.{PatternFacts}

-- ---- what is held

label_byte : (b : ℕ) → is_label_byte b ≡ true → (b == 10) ≡ false
unfolding is_label_byte
label_byte b is = grind (arith, nat_tests)

name_byte : (b : ℕ) → is_name_byte b ≡ true → (b == 10) ≡ false
unfolding is_name_byte is_label_byte
name_byte b is = grind (arith, nat_tests)

-- bytes that pass a test that LF doesn't
unbroken : (passes : ℕ → Bool) → ((b : ℕ) → passes b ≡ true → (b == 10) ≡ false) → (text : List ℕ) → HasOnly passes text → NoBreak text
unbroken passes differ text only = no_break text (all_weaker (λ (b : ℕ). passes b ≡ true) (λ (b : ℕ). (b == 10) ≡ false) differ text only)

record IsPlainMeta (meta : Meta) : Type 0 where
  ns : NoBreak meta.ns
  name : NoBreak meta.name

plain_meta : (meta : Meta) → IsLawfulMeta meta → IsPlainMeta meta
plain_meta meta lawful = record { ns = unbroken is_label_byte label_byte meta.ns lawful.ns_bytes; name = unbroken is_name_byte name_byte meta.name lawful.name_bytes }

plain_object : (o : Object) → IsLawful o → IsPlainMeta (meta_of o)
plain_object (objects.Pod o) lawful = plain_meta o.meta lawful.meta
plain_object (objects.Service o) lawful = plain_meta o.meta lawful.meta
plain_object (objects.EndpointSlice o) lawful = plain_meta o.meta lawful.meta
plain_object (objects.ServiceProfile o) lawful = plain_meta o.meta lawful.meta
plain_object (objects.Server o) lawful = plain_meta o.meta lawful.meta
plain_object (objects.ServerAuthorization o) lawful = plain_meta o.meta lawful.meta
plain_object (objects.AuthorizationPolicy o) lawful = plain_meta o.meta lawful.meta
plain_object (objects.MeshTLSAuthentication o) lawful = plain_meta o.meta lawful.meta
plain_object (objects.NetworkAuthentication o) lawful = plain_meta o.meta lawful.meta
plain_object (objects.LinkerdRoute o) lawful = plain_meta o.meta lawful.meta
plain_object (objects.GatewayRoute o) lawful = plain_meta o.meta lawful.meta

values_are_lawful : (held : ObjectMap) → AreLawful held → AllByRecursion IsLawful (values held)
values_are_lawful held lawful = all_among IsLawful (values held) (λ o at. let place = held_somewhere keys_total held o at in lawful place.0 o place.1)

-- ---- who decides

-- no LF stands in the name of an authorization, nor in this namespace, where it is told
abbrev pub HasPlainNames : List ℕ → Decider → Type 0
HasPlainNames ns (Authz kind name) = NoBreak ns × NoBreak name
HasPlainNames ns (Default policy) = Unit {0}
HasPlainNames ns (Probe place) = Unit {0}

abbrev pub IsPlainVerdict : List ℕ → Verdict → Type 0
IsPlainVerdict ns (Allowed decider) = HasPlainNames ns decider
IsPlainVerdict ns (Denied decider) = HasPlainNames ns decider
IsPlainVerdict ns NotFound = Unit {0}
IsPlainVerdict ns NoWorkload = Unit {0}

module _ (config : Config) (held : ObjectMap) (lawful : AreLawful held) (pat : Pat) (request : Request) where
  module _ (plain : NoBreak request.ns) where
    policy_plain : (policy : Policy) → IsPlainVerdict request.ns (by_policy config request policy)
    policy_plain policy = elim (policy_admits config request.client request.tls policy) as (λ b. IsPlainVerdict request.ns (if b then Allowed (Default policy) else Denied (Default policy))) [ true ↦ tt | false ↦ tt ]

    probe_plain : (policy : Policy) (place : Option ℕ) → IsPlainVerdict request.ns (by_probe config request policy place)
    probe_plain policy None = policy_plain policy
    probe_plain policy (Some place) = tt

    paths_plain : (protocol : Protocol) (policy : Policy) (paths : List (List ℕ)) → IsPlainVerdict request.ns (by_paths config request protocol policy paths)
    paths_plain protocol policy paths = probe_plain policy (probe_place config request protocol paths request.http)

    decided_plain : (otherwise : Verdict) → IsPlainVerdict request.ns otherwise → (applies : Object → Bool) → IsPlainVerdict request.ns (decided config held request otherwise applies)
    decided_plain otherwise plain_otherwise applies = by_first (find passes (values held)) refl
      where
        passes : Object → Bool
        passes o = applies o && admits config held request.client request.tls o

        by_first : (found : Option Object) → find passes (values held) ≡ found → IsPlainVerdict request.ns (by_found otherwise found)
        by_first None is = plain_otherwise
        by_first (Some o) is = (plain, (plain_object o (found_is IsLawful passes (values held) o (values_are_lawful held lawful) is)).name)

    route_plain : (server : ServerSpec) (route : Option Route) → IsPlainVerdict request.ns (on_route config held request server route)
    route_plain server None = tt
    route_plain server (Some route) = decided_plain (by_policy config request server.policy) (policy_plain server.policy) (applies_to_either held server route)

    alone_plain : (pod : Pod) (server : ServerSpec) (routes : List Route) → IsPlainVerdict request.ns (by_server_alone config held request pod server routes)
    alone_plain pod server routes =
        let paths = unless_routes routes (probe_paths pod request.port) in
        decided_plain (by_paths config request server.protocol server.policy paths) (paths_plain server.protocol server.policy paths) (applies_to_server held server)

    routes_plain : (pod : Pod) (server : ServerSpec) (routes : List Route) (http : Option HttpRequest) → IsPlainVerdict request.ns (by_routes config held pat request pod server routes http)
    routes_plain pod server routes None = alone_plain pod server routes
    routes_plain pod server routes (Some http) =
        let route = route_at routes (best pat http (map shape_of routes)) in
        elim (is_more_than_none routes && asks_routes server.protocol)
        as (λ b. IsPlainVerdict request.ns (if b then on_route config held request server route else by_server_alone config held request pod server routes)) [
          | true ↦ route_plain server route
          | false ↦ alone_plain pod server routes
        ]

    server_plain : (pod : Pod) (server : Option ServerSpec) → IsPlainVerdict request.ns (by_server config held pat request pod server)
    server_plain pod None = paths_plain (default_protocol pod request.port) (default_policy config pod) (probe_paths pod request.port)
    server_plain pod (Some server) = routes_plain pod server (routes_of held server) request.http

    pod_plain : (pod : Option Pod) → IsPlainVerdict request.ns (by_pod config held pat request pod)
    pod_plain None = tt
    pod_plain (Some pod) = server_plain pod (chosen_server held request.ns pod request.port)

  -- The namespace is that of a Pod that is held, or none is told.
  pub verdict_plain : AtKeys held → IsPlainVerdict request.ns (verdict config held pat request)
  verdict_plain at_keys = by_object (get held key) refl
    where
      key : ObjKey
      key = pod_key request.ns request.pod

      by_object : (found : Option Object) → get held key ≡ found → IsPlainVerdict request.ns (by_pod config held pat request (pod_found found))
      by_object None is = tt
      by_object (Some o) is =
          let own : (meta_of o).ns ≡ request.ns = ap (λ (k : ObjKey). k.ns) (at_keys key o is) in
          pod_plain (subst NoBreak own (plain_object o (lawful key o is)).ns) (as_pod o)

-- ---- the route that a simulation met

route_in : (o : Object) → IsLawful o → (route : Route) → as_route o ≡ Some route → IsPlainMeta route.meta
route_in (objects.LinkerdRoute r) lawful route is = let same : r ≡ route = cc is in subst (λ (route : Route). IsPlainMeta route.meta) same (plain_meta r.meta lawful.meta)
route_in (objects.GatewayRoute r) lawful route is = let same : r ≡ route = cc is in subst (λ (route : Route). IsPlainMeta route.meta) same (plain_meta r.meta lawful.meta)
route_in _ lawful route is = absurd (cc is)

-- a route that is attached is held
attached_plain : (held : ObjectMap) → AreLawful held → (ns : List ℕ) (is_parent : Parent → Bool) (route : Route) → Among route (attached_routes held ns is_parent) → IsPlainMeta route.meta
attached_plain held lawful ns is_parent route at =
    let routes = filter_map as_route (values held) in
    let kept = from_kept (has_parent ns is_parent) routes route (order_has route_order_is_total places_exact place_of (filter (has_parent ns is_parent) routes) route at) in
    let found = from_found as_route (values held) route kept.0 in
    let place = held_somewhere keys_total held found.0 found.1 in
    route_in found.0 (lawful place.0 found.0 place.1) route found.2

text_plain : (meta : Meta) → IsPlainMeta meta → NoBreak (route_text meta.ns meta.name)
text_plain meta plain =
    no_break (route_text meta.ns meta.name)
    (without_both 10 meta.ns (codes "/" ++ meta.name) (without_break meta.ns plain.ns) (without_both 10 (codes "/") meta.name (looked_through 10 (codes "/") refl) (without_break meta.name plain.name)))

met_plain : (held : ObjectMap) → AreLawful held → (facts : PatternFacts) (request : Request) (text : List ℕ) (rule item : ℕ) → MayMeet held facts request text rule item → NoBreak text
met_plain held lawful facts request text rule item met =
    let at = stands_at (routes_of held met.counts.server) met.place met.route met.route_is in
    let plain = attached_plain held lawful met.counts.server.meta.ns (is_server_parent met.counts.server.meta.name) met.route at in
    subst NoBreak (sym met.text_is) (text_plain met.route.meta plain)

pub mark_plain : (program : Program) (now : State) → AreLawful now.objects → (facts : PatternFacts) (row : MarkedRow) (met : Option SimFault) → MayBeMarked program now facts row met
    → IfSome met HasPlainRoute
mark_plain program now lawful facts row None fair = tt
mark_plain program now lawful facts row (Some sim.Memory) fair = tt
mark_plain program now lawful facts row (Some (sim.Pattern route rule item)) fair = met_plain now.objects lawful facts fair.request route rule item fair.met
