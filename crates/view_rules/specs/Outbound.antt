-- The destination of traffic to a target: the routes of a Service, a Pod, or an address without
-- owner.
use Rattle.std.specs.Prelude.{◌||◌, ℕ, Bool, false, if◌then◌else◌, List, [], Option, Some, None, map, not}
use Rattle.std.specs.Option.{unwrap_or}
use Rattle.k8s_meta.specs.PortSet.{is_within}
use Rattle.mesh_text.specs.Mesh.{opaque_ranges}
use Rattle.net_cidr.specs.declared.ip.Ip.{Ip}
use Rattle.view_types.specs.Objects.{ObjectMap}
use Rattle.view_types.specs.declared.config.Config.{Config}
use Rattle.view_types.specs.declared.outbound.OutboundView.{OutboundView}
use Rattle.view_types.specs.declared.outbound.OutboundView.TheVariants.{Absent, Forward, Service as ToService}
use Rattle.view_types.specs.declared.pod.Pod.{Pod}
use Rattle.view_types.specs.declared.query.Target.{Target}
use Rattle.view_types.specs.declared.query.Target.TheVariants as target
use Rattle.view_types.specs.declared.route.BackendRef.{BackendRef}
use Rattle.view_types.specs.declared.route.Route.{Route}
use Rattle.view_types.specs.declared.route.Rule.{Rule}
use Rattle.view_types.specs.declared.server_view.BackendRow.{BackendRow}
use Rattle.view_types.specs.declared.server_view.RouteRow.{RouteRow}
use Rattle.view_types.specs.declared.server_view.RuleRow.{RuleRow}
use Rattle.view_types.specs.declared.service.Service.{Service}
use Rattle.view_rules.specs.Endpoints.{service_held}
use Rattle.view_rules.specs.PodRows.{row_of}
use Rattle.view_rules.specs.Profiles.{pod_at, pod_ranges, service_at}
use Rattle.view_rules.specs.Routes.{attached_routes, is_service_parent, route_row}

-- ---- the routes of a Service

-- it is held and is not of the type ExternalName
abbrev pub exists : Option Service → Bool
exists None = false
exists (Some service) = not service.external

-- it is not a Service, or one that does not exist
abbrev pub is_missing : ObjectMap → BackendRef → Bool
is_missing held backend = not backend.service || not (exists (service_held held backend.ns backend.name))

abbrev pub backend_row : ObjectMap → BackendRef → BackendRow
backend_row held backend = record {
  ns = backend.ns;
  name = backend.name;
  port = unwrap_or backend.port 0;
  weight = backend.weight;
  missing = is_missing held backend;
}

abbrev pub outbound_rule : ObjectMap → Rule → RuleRow
outbound_rule held rule = record {
  matches = rule.matches;
  filters = rule.filters;
  backends = map (backend_row held) rule.backends;
  request_timeout = rule.request_timeout;
  backend_timeout = rule.backend_timeout;
}

-- Outbound views have no authorizations.
abbrev pub outbound_route : ObjectMap → Route → RouteRow
outbound_route held route = route_row (outbound_rule held) [] route

abbrev pub outbound_routes : ObjectMap → List ℕ → List ℕ → ℕ → List RouteRow
outbound_routes held ns name port = map (outbound_route held) (attached_routes held ns (is_service_parent name port))

abbrev pub to_found : ObjectMap → List ℕ → List ℕ → ℕ → Option Service → OutboundView
to_found held ns name port None = Absent
to_found held ns name port (Some service) =
    if service.external then Absent
    else ToService ns name port (is_within (opaque_ranges service.meta) port) (outbound_routes held ns name port)

abbrev pub to_service : ObjectMap → List ℕ → List ℕ → ℕ → OutboundView
to_service held ns name port = to_found held ns name port (service_held held ns name)

-- ---- addresses

abbrev pub to_pod : Config → Option Pod → Ip → ℕ → OutboundView
to_pod config pod ip port = Forward (row_of config pod ip port) (is_within (pod_ranges pod) port)

-- the Service takes precedence over a Pod
abbrev pub to_address : Config → ObjectMap → Ip → ℕ → Option Service → OutboundView
to_address config held ip port (Some service) = to_service held service.meta.ns service.meta.name port
to_address config held ip port None = to_pod config (pod_at held ip) ip port

-- the destination of traffic to the target, over these objects
abbrev pub outbound : Config → ObjectMap → Target → OutboundView
outbound config held (target.Service ns name port) = to_service held ns name port
outbound config held (target.Address ip port) = to_address config held ip port (service_at held ip)
