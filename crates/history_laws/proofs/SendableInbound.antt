-- The inbound view of lawful objects can be sent: the name of its Server, its authorizations, its routes and its probes are those of
-- held objects.
use Rattle.std.proofs.Common.{ℕ, ◌==◌, Bool, true, false, List, [], ◌∷◌, Option, Some, None, IfSome, filter_map, if◌then◌else◌, refl}
use Rattle.std.specs.Cmp.Lexicographic.{nat_list_cmp_total}
use Rattle.std.specs.List.{AllByRecursion}
use Rattle.std.specs.Str.{IsUtf8}
use Rattle.view_types.specs.Lawful.{IsLawful, IsLawfulPod, IsLawfulRule, IsLawfulServer}
use Rattle.view_types.specs.Objects.{ObjectMap}
use Rattle.view_types.specs.declared.config.Config.{Config}
use Rattle.view_types.specs.declared.object.Object.{Object}
use Rattle.view_types.specs.declared.object.Object.TheVariants as objects
use Rattle.view_types.specs.declared.pod.Pod.{Pod}
use Rattle.view_types.specs.declared.route.Route.{Route}
use Rattle.view_types.specs.declared.route.Rule.{Rule}
use Rattle.view_types.specs.declared.server.ServerSpec.{ServerSpec}
use Rattle.view_rules.specs.Inbound.{inbound, inbound_at, inbound_route, inbound_routes, inbound_rule, path_at, port_row, probe_paths, unless_routes}
use Rattle.view_rules.specs.PodRows.{pod_held}
use Rattle.view_rules.specs.Policies.{applies_to_route, applies_to_server, authz_rows}
use Rattle.view_rules.specs.Routes.{attached_routes, is_server_parent, route_key}
use Rattle.view_rules.specs.Servers.{as_server, chosen_server, is_server_for, server_found}
use Rattle.proxy_proto.specs.Sendable.{IsInboundRoute, IsInboundRule, IsSendableRule, IsSendableServer, IsSendableServerRow}
use Rattle.feed_history.specs.Sendable.{IsLawfulConfig}
use Rattle.feed_history.proofs.Lists.{all_given, all_made, all_mapped}
use Rattle.history_laws.proofs.Ordered.{all_in_order}
use Rattle.history_laws.proofs.SendableAuthz.{authz_is_sendable}
use Rattle.history_laws.proofs.SendableRoutes.{IsOfGroup, attached_are_lawful, route_is_sendable}
use Rattle.feed_history.specs.Lawful.{AreLawfulHeld}
use Rattle.history_laws.proofs.SendableRows.{of_first, pod_is_lawful}

server_of_object : (o : Object) → IsLawful o → IfSome (as_server o) IsLawfulServer
server_of_object (objects.Server server) is = is
server_of_object _ is = tt

rule_is_sendable : (rule : Rule) → IsLawfulRule rule → IsSendableRule (inbound_rule rule)
rule_is_sendable rule is = record { matches = is.matches; filters = is.filters; backends = tt; request = tt; backend = tt }

-- ---- probes

path_is_text : (port : ℕ) (probe : ℕ × List ℕ) → IsUtf8 probe.1 → IfSome (path_at port probe) IsUtf8
path_is_text port probe is = by_test (probe.0 == port)
  where
    by_test : (b : Bool) → IfSome (if b then Some probe.1 else None) IsUtf8
    by_test true = is
    by_test false = tt

paths_are_texts : (pod : Pod) → IsLawfulPod pod → (port : ℕ) → AllByRecursion IsUtf8 (probe_paths pod port)
paths_are_texts pod lawful port =
    all_in_order nat_list_cmp_total (λ path. path) IsUtf8 (filter_map (path_at port) pod.probes)
    (all_given (λ (probe : ℕ × List ℕ). IsUtf8 probe.1) IsUtf8 (path_at port) (path_is_text port) pod.probes lawful.probes)

shown_are_texts : {A : Type 0} (routes : List A) (paths : List (List ℕ)) → AllByRecursion IsUtf8 paths → AllByRecursion IsUtf8 (unless_routes routes paths)
shown_are_texts [] paths all = all
shown_are_texts (route ∷ routes) paths all = tt

-- ---- rows

module _ (config : Config) (usual : IsLawfulConfig config) (held : ObjectMap) (lawful : AreLawfulHeld held) where
  route_is_inbound : (route : Route) → IsOfGroup route → IsInboundRoute (inbound_route config held route)
  route_is_inbound route is = let applies = applies_to_route held (route_key route) in record {
    sendable = route_is_sendable inbound_rule rule_is_sendable (authz_rows config held applies) (authz_is_sendable held lawful config usual applies) route is;
    rules = all_made IsInboundRule inbound_rule (λ rule. record { backends = refl; request = refl; backend = refl }) route.rules;
  }

  routes_are_inbound : (server : ServerSpec) → AllByRecursion IsInboundRoute (inbound_routes config held server)
  routes_are_inbound server = all_mapped IsOfGroup IsInboundRoute (inbound_route config held) route_is_inbound
      (attached_routes held server.meta.ns (is_server_parent server.meta.name))
      (attached_are_lawful held lawful server.meta.ns (is_server_parent server.meta.name))

  row_is_sendable : (pod : Pod) → IsLawfulPod pod → (port : ℕ) (found : Option ServerSpec) → IfSome found IsLawfulServer → IsSendableServerRow (port_row config held pod port found)
  row_is_sendable pod pods port None is = record { server = λ same. absurd (cc same); server_text = tt; authz = tt; routes = tt; probes = paths_are_texts pod pods port }
  row_is_sendable pod pods port (Some server) is = record {
    server = λ same. is.meta.name (cc same);
    server_text = is.meta.name_text;
    authz = authz_is_sendable held lawful config usual (applies_to_server held server);
    routes = routes_are_inbound server;
    probes = shown_are_texts (inbound_routes config held server) (probe_paths pod port) (paths_are_texts pod pods port);
  }

  at_pod : (ns : List ℕ) (port : ℕ) (found : Option Pod) → IfSome found IsLawfulPod → IsSendableServer (inbound_at config held ns port found)
  at_pod ns port None is = tt
  at_pod ns port (Some pod) is =
      row_is_sendable pod is port (chosen_server held ns pod port)
      (of_first held lawful (λ found. IfSome (server_found found) IsLawfulServer) tt server_of_object (is_server_for ns pod port))

  pub inbound_is_sendable : (ns pod : List ℕ) (port : ℕ) → IsSendableServer (inbound config held ns pod port)
  inbound_is_sendable ns pod port = at_pod ns port (pod_held held (Some (ns, pod))) (pod_is_lawful held lawful (Some (ns, pod)))
