-- The outbound view of lawful objects can be sent: its names are those of the query or of a held Service, its routes those of
-- held objects, and its endpoint is a row of a held Pod.
use Rattle.std.proofs.Common.{ℕ, ◌<◌, Bool, true, false, List, [], Option, Some, None, IfSome, refl, lit<, if◌then◌else◌}
use Rattle.std.specs.List.{AllByRecursion}
use Rattle.std.specs.Option.{unwrap_or}
use Rattle.k8s_meta.specs.Lawful.{IsSomePort}
use Rattle.mesh_text.specs.Mesh.{opaque_ranges}
use Rattle.net_cidr.specs.Texts.{FitsIp}
use Rattle.net_cidr.specs.declared.ip.Ip.{Ip}
use Rattle.view_types.specs.Lawful.{IsLawfulBackend, IsLawfulRule, IsLawfulService}
use Rattle.view_types.specs.Objects.{ObjectMap}
use Rattle.view_types.specs.declared.config.Config.{Config}
use Rattle.view_types.specs.declared.outbound.OutboundView.TheVariants.{Absent, Service as ToService}
use Rattle.view_types.specs.declared.query.Target.{Target}
use Rattle.view_types.specs.declared.query.Target.TheVariants as targets
use Rattle.view_types.specs.declared.route.BackendRef.{BackendRef}
use Rattle.view_types.specs.declared.route.Rule.{Rule}
use Rattle.view_types.specs.declared.service.Service.{Service}
use Rattle.view_rules.specs.Endpoints.{service_held}
use Rattle.view_rules.specs.Outbound.{backend_row, outbound, outbound_route, outbound_routes, outbound_rule, to_address, to_found}
use Rattle.k8s_meta.specs.PortSet.{is_within}
use Rattle.view_rules.specs.Profiles.{pod_at, service_at}
use Rattle.view_rules.specs.Routes.{attached_routes, is_service_parent}
use Rattle.proxy_proto.specs.Sendable.{IsOutboundRoute, IsSendableBackend, IsSendableOutbound, IsSendableRule}
use Rattle.watch_events.specs.Lawful.{IsLawfulServicePort, IsLawfulTarget}
use Rattle.feed_history.specs.Sendable.{IsLawfulConfig}
use Rattle.feed_history.proofs.Lists.{all_mapped}
use Rattle.history_laws.proofs.SendableProfiles.{service_at_is_lawful}
use Rattle.history_laws.proofs.SendableRoutes.{IsOfGroup, attached_are_lawful, route_is_sendable}
use Rattle.feed_history.specs.Lawful.{AreLawfulHeld}
use Rattle.history_laws.proofs.SendableRows.{pod_at_is_lawful, row_is_sendable}

port_fits : (port : Option ℕ) → IsSomePort port → unwrap_or port 0 < 65536
port_fits None is = lit< tt
port_fits (Some port) is = is

module _ (held : ObjectMap) (lawful : AreLawfulHeld held) where
  backend_is_sendable : (backend : BackendRef) → IsLawfulBackend backend → IsSendableBackend (backend_row held backend)
  backend_is_sendable backend is = record { ns = is.ns; name = is.name; port = port_fits backend.port is.port; weight = is.weight }

  rule_is_sendable : (rule : Rule) → IsLawfulRule rule → IsSendableRule (outbound_rule held rule)
  rule_is_sendable rule is = record {
    matches = is.matches;
    filters = is.filters;
    backends = all_mapped IsLawfulBackend IsSendableBackend (backend_row held) backend_is_sendable rule.backends is.backends;
    request = is.request;
    backend = is.backend;
  }

  routes_are_outbound : (ns name : List ℕ) (port : ℕ) → AllByRecursion IsOutboundRoute (outbound_routes held ns name port)
  routes_are_outbound ns name port = all_mapped IsOfGroup IsOutboundRoute (outbound_route held)
      (λ route is. record { sendable = route_is_sendable (outbound_rule held) rule_is_sendable [] tt route is; authz = refl })
      (attached_routes held ns (is_service_parent name port))
      (attached_are_lawful held lawful ns (is_service_parent name port))

  found_is_sendable : (ns name : List ℕ) (port : ℕ) → IsLawfulServicePort ns name port → (found : Option Service) → IsSendableOutbound (to_found held ns name port found)
  found_is_sendable ns name port is None = tt
  found_is_sendable ns name port is (Some service) = by_test service.external
    where
      by_test : (b : Bool) → IsSendableOutbound (if b then Absent else ToService ns name port (is_within (opaque_ranges service.meta) port) (outbound_routes held ns name port))
      by_test true = tt
      by_test false = record { ns_text = is.ns_text; name_text = is.name_text; port_number = is.small; each_route = routes_are_outbound ns name port }

  module _ (config : Config) (usual : IsLawfulConfig config) where
    address_is_sendable : (ip : Ip) (port : ℕ) → FitsIp ip → port < 65536 → (found : Option Service) → IfSome found IsLawfulService → IsSendableOutbound (to_address config held ip port found)
    address_is_sendable ip port ip_fits small (Some service) is =
        let meta = service.meta in
        found_is_sendable meta.ns meta.name port (record { ns_text = is.meta.ns_text; name_text = is.meta.name_text; small = small }) (service_held held meta.ns meta.name)
    address_is_sendable ip port ip_fits small None is = row_is_sendable config usual (pod_at held ip) (pod_at_is_lawful held lawful ip) ip port ip_fits small

    pub outbound_is_sendable : (target : Target) → IsLawfulTarget target → IsSendableOutbound (outbound config held target)
    outbound_is_sendable (targets.Service ns name port) is = found_is_sendable ns name port is (service_held held ns name)
    outbound_is_sendable (targets.Address ip port) is = address_is_sendable ip port is.0 is.1 (service_at held ip) (service_at_is_lawful held lawful ip)
