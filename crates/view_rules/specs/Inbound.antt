-- The policy of a port of a Pod: protocol, authorizations, routes of its Server, paths of its
-- probes.
use Rattle.std.specs.Prelude.{ℕ, ◌==◌, if◌then◌else◌, List, [], ◌∷◌, Option, Some, None, codes, filter_map, map, option_and_then}
use Rattle.std.specs.FinMap.{get}
use Rattle.std.specs.Option.{unwrap_or}
use Rattle.mesh_text.specs.PolicyWords.{policy_of}
use Rattle.view_types.specs.Objects.{ObjectMap}
use Rattle.view_types.specs.declared.config.Config.{Config}
use Rattle.view_types.specs.declared.pod.Pod.{Pod}
use Rattle.view_types.specs.declared.policy.Policy.{Policy}
use Rattle.view_types.specs.declared.policy.Protocol.{Protocol}
use Rattle.view_types.specs.declared.policy.Protocol.TheVariants.{Opaque, Unknown}
use Rattle.view_types.specs.declared.route.Route.{Route}
use Rattle.view_types.specs.declared.route.Rule.{Rule}
use Rattle.view_types.specs.declared.server.ServerSpec.{ServerSpec}
use Rattle.view_types.specs.declared.server_view.RouteRow.{RouteRow}
use Rattle.view_types.specs.declared.server_view.RuleRow.{RuleRow}
use Rattle.view_types.specs.declared.server_view.ServerRow.{ServerRow}
use Rattle.view_types.specs.declared.server_view.ServerView.{ServerView}
use Rattle.view_types.specs.declared.server_view.ServerView.TheVariants.{Absent, Present}
use Rattle.view_rules.specs.InOrder.{in_byte_order}
use Rattle.view_rules.specs.PodRows.{is_opaque, pod_held}
use Rattle.view_rules.specs.Policies.{applies_to_route, applies_to_server, authz_rows}
use Rattle.view_rules.specs.Routes.{attached_routes, is_server_parent, route_key, route_row}
use Rattle.view_rules.specs.Servers.{chosen_server}

-- ---- probes

abbrev pub path_at : ℕ → ℕ × List ℕ → Option (List ℕ)
path_at port probe = if probe.0 == port then Some probe.1 else None

-- the paths of the Pod's probes on the port, in byte order, each once
abbrev pub probe_paths : Pod → ℕ → List (List ℕ)
probe_paths pod port = in_byte_order (filter_map (path_at port) pod.probes)

-- probes are not used if there are routes
abbrev pub unless_routes : {A : Type 0} → List A → List (List ℕ) → List (List ℕ)
unless_routes [] paths = paths
unless_routes (route ∷ routes) paths = []

-- ---- without a Server

-- the policy that the Pod's annotation names, if it is one, or the configured one
abbrev pub default_policy : Config → Pod → Policy
default_policy config pod = unwrap_or (option_and_then policy_of (get pod.meta.notes (codes "config.linkerd.io/default-inbound-policy"))) config.default_policy

abbrev pub default_protocol : Pod → ℕ → Protocol
default_protocol pod port = if is_opaque pod port then Opaque else Unknown

abbrev pub default_row : Config → Pod → ℕ → ServerRow
default_row config pod port = record {
  protocol = default_protocol pod port;
  policy = default_policy config pod;
  server = None;
  authz = [];
  routes = [];
  probes = probe_paths pod port;
}

-- ---- with a Server

-- Inbound views have no backends and no timeouts.
abbrev pub inbound_rule : Rule → RuleRow
inbound_rule rule = record { matches = rule.matches; filters = rule.filters; backends = []; request_timeout = None; backend_timeout = None }

-- a route, with the policies that target it
abbrev pub inbound_route : Config → ObjectMap → Route → RouteRow
inbound_route config held route = route_row inbound_rule (authz_rows config held (applies_to_route held (route_key route))) route

abbrev pub inbound_routes : Config → ObjectMap → ServerSpec → List RouteRow
inbound_routes config held server = map (inbound_route config held) (attached_routes held server.meta.ns (is_server_parent server.meta.name))

abbrev pub server_row : Config → ObjectMap → Pod → ℕ → ServerSpec → ServerRow
server_row config held pod port server = record {
  protocol = server.protocol;
  policy = server.policy;
  server = Some server.meta.name;
  authz = authz_rows config held (applies_to_server held server);
  routes = inbound_routes config held server;
  probes = unless_routes (inbound_routes config held server) (probe_paths pod port);
}

-- ---- the view

abbrev pub port_row : Config → ObjectMap → Pod → ℕ → Option ServerSpec → ServerRow
port_row config held pod port None = default_row config pod port
port_row config held pod port (Some server) = server_row config held pod port server

abbrev pub inbound_at : Config → ObjectMap → List ℕ → ℕ → Option Pod → ServerView
inbound_at config held ns port None = Absent
inbound_at config held ns port (Some pod) = Present (port_row config held pod port (chosen_server held ns pod port))

-- the policy of the port of the Pod of the namespace and name, over these objects
abbrev pub inbound : Config → ObjectMap → List ℕ → List ℕ → ℕ → ServerView
inbound config held ns name port = inbound_at config held ns port (pod_held held (Some (ns, name)))
