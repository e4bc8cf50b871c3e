-- Outbound views stay where no mark of a change is asked for.
use Rattle.std.proofs.Common.{◌≡◌, ℕ, Bool, true, false, cond, not, ◌||◌, List, [], ◌∷◌, map, Some, None, Option, inl, inr, refl, sym, ap, subst, ◌∙◌}
use Rattle.std.specs.FinMap.{values}
use Rattle.std.specs.List.{filter, filter_map, flat_map}
use Rattle.std.specs.Option.{unwrap_or}
use Rattle.mesh_text.specs.Mesh.{opaque_ranges}
use Rattle.net_cidr.specs.declared.ip.Ip.{Ip}
use Rattle.view_types.specs.Objects.{ObjectMap}
use Rattle.view_types.specs.declared.config.Config.{Config}
use Rattle.view_types.specs.declared.mark.Mark.{Mark}
use Rattle.view_types.specs.declared.mark.Mark.TheVariants.{IpService, Obj, RouteOn}
use Rattle.view_types.specs.declared.object.Object.{Object}
use Rattle.view_types.specs.declared.outbound.OutboundView.TheVariants.{Absent, Service as ToService}
use Rattle.view_types.specs.declared.query.Target.{Target}
use Rattle.view_types.specs.declared.query.Target.TheVariants as target
use Rattle.view_types.specs.declared.route.BackendRef.{BackendRef}
use Rattle.view_types.specs.declared.route.ParentKind.TheVariants as parent
use Rattle.view_types.specs.declared.route.Route.{Route}
use Rattle.view_types.specs.declared.route.Rule.{Rule}
use Rattle.view_types.specs.declared.server_view.BackendRow.{BackendRow}
use Rattle.view_types.specs.declared.server_view.RouteRow.{RouteRow}
use Rattle.view_types.specs.declared.server_view.RuleRow.{RuleRow}
use Rattle.view_types.specs.declared.service.Service.{Service}
use Rattle.view_rules.specs.Endpoints.{service_held, service_key}
use Rattle.view_rules.specs.Outbound.{backend_row, exists, is_missing, outbound, outbound_route, outbound_routes, outbound_rule, to_address, to_found, to_pod, to_service}
use Rattle.k8s_meta.specs.PortSet.{is_within}
use Rattle.view_rules.specs.Profiles.{service_at}
use Rattle.view_rules.specs.Routes.{as_route, attached_routes, has_parent, is_service_parent, place_of}
use Rattle.view_rules.proofs.Among.{Among, from_kept}
use Rattle.view_rules.proofs.Attached.{places_exact, route_order_is_total}
use Rattle.view_rules.proofs.KeptOnce.{order_has}
use Rattle.mark_rules.specs.Changes.{Leads}
use Rattle.mark_rules.specs.Laws.{OutboundStays}
use Rattle.mark_rules.specs.Marks.{has_mark, marks_of, meets}
use Rattle.mark_rules.specs.Reads.{address_reads, backend_marks, backends_of, outbound_reads, routes_on, service_outbound_reads}
use Rattle.mark_rules.proofs.Addresses.{pod_at_stays, service_at_stays}
use Rattle.mark_rules.proofs.Endpoints.{service_stays}
use Rattle.mark_rules.proofs.MarkedObjects.{marked_stay}
use Rattle.mark_rules.proofs.MarkTests.{misses_each, misses_one, neither_first, neither_second, stay_each}
use Rattle.mark_rules.proofs.FilterLists.{kept_found_among}
use Rattle.mark_rules.proofs.Servers.{attached_stay}
use Rattle.mark_rules.proofs.SortsOfMarks.{only_service, route_has}

-- a function of the items alone
pub same_each : {A B : Type 0} (f g : A → B) (xs : List A) → ((x : A) → Among x xs → f x ≡ g x) → map f xs ≡ map g xs
same_each f g [] one = refl
same_each f g (x ∷ xs) one = λ i. one x (inl refl) i ∷ same_each f g xs (λ y at. one y (inr at)) i

-- the routes that are attached are among those with the mark
attached_among : (held : ObjectMap) (ns name : List ℕ) (port : ℕ) (route : Route) → Among route (attached_routes held ns (is_service_parent name port)) → Among route (routes_on held ns name)
attached_among held ns name port route at =
    let p = has_parent ns (is_service_parent name port) in
    let has_some = λ (o : Object). meets (RouteOn ns parent.Service name ∷ []) (marks_of o) in
    let kept = order_has route_order_is_total places_exact place_of (filter p (filter_map as_route (values held))) route at in
    let same = kept_found_among as_route p has_some (route_has ns parent.Service name (is_service_parent name port) (only_service name port)) (values held) in
    (from_kept p (routes_on held ns name) route (subst (Among route) same kept)).0

module _ {changed : List Mark} {before after : ObjectMap} (leads : Leads changed before after) where
  -- ---- routes

  missing_stays : (backend : BackendRef) → meets (backend_marks backend) changed ≡ false → is_missing before backend ≡ is_missing after backend
  missing_stays backend misses =
      elim (backend.service) as (λ b. meets (cond b (Obj (service_key backend.ns backend.name) ∷ []) []) changed ≡ false
      → (not b || not (exists (service_held before backend.ns backend.name))) ≡ (not b || not (exists (service_held after backend.ns backend.name)))) [
        | true ↦ λ e. ap (λ service. not true || not (exists service)) (service_stays leads backend.ns backend.name e)
        | false ↦ λ e. refl
      ] misses

  backend_stays : (backend : BackendRef) → meets (backend_marks backend) changed ≡ false → backend_row before backend ≡ backend_row after backend
  backend_stays backend misses =
      ap (λ (missing : Bool). record { ns = backend.ns; name = backend.name; port = unwrap_or backend.port 0; weight = backend.weight; missing = missing }) (missing_stays backend misses)

  rule_stays : (rule : Rule) → meets (flat_map backend_marks rule.backends) changed ≡ false → outbound_rule before rule ≡ outbound_rule after rule
  rule_stays rule misses =
      ap (λ (backends : List BackendRow). record { matches = rule.matches; filters = rule.filters; backends = backends; request_timeout = rule.request_timeout; backend_timeout = rule.backend_timeout })
      (stay_each changed backend_marks (backend_row before) (backend_row after) backend_stays rule.backends misses)

  route_stays : (route : Route) → meets (backends_of route) changed ≡ false → outbound_route before route ≡ outbound_route after route
  route_stays route misses =
      ap (λ (rules : List RuleRow). record { kind = route.kind; name = route.meta.name; created = route.meta.created; hosts = route.hosts; rules = rules; authz = [] })
      (stay_each changed (λ (rule : Rule). flat_map backend_marks rule.backends) (outbound_rule before) (outbound_rule after) rule_stays route.rules misses)

  -- ---- Services

  module _ (ns name : List ℕ) (misses : meets (service_outbound_reads before ns name) changed ≡ false) where
    abbrev of_routes : meets (RouteOn ns parent.Service name ∷ []) changed ≡ false
    of_routes = misses_one changed (RouteOn ns parent.Service name) (neither_first _ _ (neither_second (has_mark changed (Obj (service_key ns name))) _ misses))

    abbrev of_backends : meets (flat_map backends_of (routes_on before ns name)) changed ≡ false
    of_backends = neither_second (has_mark changed (RouteOn ns parent.Service name)) _ (neither_second (has_mark changed (Obj (service_key ns name))) _ misses)

    routes_stay : (port : ℕ) → outbound_routes before ns name port ≡ outbound_routes after ns name port
    routes_stay port =
        same_each (outbound_route before) (outbound_route after) (attached_routes before ns (is_service_parent name port))
        (λ route at. route_stays route (misses_each changed backends_of (routes_on before ns name) route (attached_among before ns name port route at) of_backends))
        ∙ ap (map (outbound_route after)) (attached_stay leads ns parent.Service name (is_service_parent name port) (only_service name port) of_routes)

    its_service : service_held before ns name ≡ service_held after ns name
    its_service = service_stays leads ns name (misses_one changed (Obj (service_key ns name)) (neither_first _ _ misses))

    found_stays : (port : ℕ) (found : Option Service) → to_found before ns name port found ≡ to_found after ns name port found
    found_stays port None = refl
    found_stays port (Some service) =
        ap (λ (routes : List RouteRow). cond service.external Absent (ToService ns name port (is_within (opaque_ranges service.meta) port) routes)) (routes_stay port)

    service_view_stays : (port : ℕ) → to_service before ns name port ≡ to_service after ns name port
    service_view_stays port = found_stays port (service_held before ns name) ∙ ap (to_found after ns name port) its_service

    service_reads_stay : service_outbound_reads before ns name ≡ service_outbound_reads after ns name
    service_reads_stay =
        ap (λ os. Obj (service_key ns name) ∷ RouteOn ns parent.Service name ∷ flat_map backends_of (filter_map as_route os)) (marked_stay leads (RouteOn ns parent.Service name ∷ []) of_routes)

  -- ---- addresses

  at_address : (config : Config) (ip : Ip) (port : ℕ) (found : Option Service) → meets (address_reads (service_outbound_reads before) ip found) changed ≡ false
      → (to_address config before ip port found ≡ to_address config after ip port found) × (address_reads (service_outbound_reads before) ip found ≡ address_reads (service_outbound_reads after) ip found)
  at_address config ip port None misses = (ap (λ pod. to_pod config pod ip port) (pod_at_stays leads ip misses), refl)
  at_address config ip port (Some service) misses = (service_view_stays service.meta.ns service.meta.name misses port, service_reads_stay service.meta.ns service.meta.name misses)

  of_target : (config : Config) (t : Target) → meets (outbound_reads before t) changed ≡ false → (outbound config after t ≡ outbound config before t) × (outbound_reads after t ≡ outbound_reads before t)
  of_target config (target.Service ns name port) misses = (sym (service_view_stays ns name misses port), sym (service_reads_stay ns name misses))
  of_target config (target.Address ip port) misses =
      let found = service_at_stays leads ip (misses_one changed (IpService ip) (neither_first _ _ misses)) in
      let same = at_address config ip port (service_at before ip) (neither_second (has_mark changed (IpService ip)) _ misses) in (
        sym (same.0 ∙ ap (to_address config after ip port) found),
        sym (ap (λ marks. IpService ip ∷ marks) same.1 ∙ ap (λ found. IpService ip ∷ address_reads (service_outbound_reads after) ip found) found),
      )

pub outbound_stays : OutboundStays
outbound_stays config key changed before after leads misses = of_target leads config key misses
