-- The Server of a port and the routes of a Server stay where no mark of a change is asked for.
use Rattle.std.proofs.Common.{◌≡◌, ℕ, Bool, false, List, [], ◌∷◌, map, Some, None, Option, refl, sym, ap, ◌∙◌}
use Rattle.std.specs.Prelude.{option_map}
use Rattle.view_types.specs.Objects.{ObjectMap}
use Rattle.view_types.specs.declared.config.Config.{Config}
use Rattle.view_types.specs.declared.mark.Mark.{Mark}
use Rattle.view_types.specs.declared.mark.Mark.TheVariants.{RouteOn, ServersIn}
use Rattle.view_types.specs.declared.pod.Pod.{Pod}
use Rattle.view_types.specs.declared.route.Parent.{Parent}
use Rattle.view_types.specs.declared.route.ParentKind.{ParentKind}
use Rattle.view_types.specs.declared.route.ParentKind.TheVariants as parent
use Rattle.view_rules.specs.InOrder.{in_order_by}
use Rattle.view_rules.specs.PodRows.{pod_found, pod_held, pod_key}
use Rattle.view_rules.specs.Routes.{as_route, attached_routes, has_parent, is_server_parent, place_of, route_cmp}
use Rattle.view_rules.specs.Servers.{chosen_server, is_server_for, server_found}
use Rattle.mark_rules.specs.Changes.{Leads}
use Rattle.mark_rules.specs.Laws.{RoutesStay, ServersStay}
use Rattle.mark_rules.specs.Marks.{meets}
use Rattle.mark_rules.specs.Reads.{server_reads}
use Rattle.mark_rules.specs.Rows.{bare_route, part_of, server_part}
use Rattle.mark_rules.specs.declared.keys.ServerKey.{ServerKey}
use Rattle.mark_rules.proofs.MarkedObjects.{first_stays, held_stays, kept_found_stay}
use Rattle.mark_rules.proofs.MarkTests.{neither_first, neither_second}
use Rattle.mark_rules.proofs.SortsOfMarks.{IsOnly, only_server, route_has, server_has}

module _ {changed : List Mark} {before after : ObjectMap} (leads : Leads changed before after) where
  -- the Server that is chosen
  pub chosen_stays : (ns : List ℕ) (pod : Pod) (number : ℕ) → meets (ServersIn ns ∷ []) changed ≡ false → chosen_server before ns pod number ≡ chosen_server after ns pod number
  chosen_stays ns pod number misses = ap server_found (first_stays leads (ServersIn ns ∷ []) misses (is_server_for ns pod number) (server_has ns pod number))

  -- routes with a parent
  pub attached_stay : (ns : List ℕ) (kind : ParentKind) (name : List ℕ) (is_parent : Parent → Bool) → IsOnly kind name is_parent → meets (RouteOn ns kind name ∷ []) changed ≡ false
      → attached_routes before ns is_parent ≡ attached_routes after ns is_parent
  attached_stay ns kind name is_parent only misses =
      ap (in_order_by route_cmp place_of) (kept_found_stay leads (RouteOn ns kind name ∷ []) misses as_route (has_parent ns is_parent) (route_has ns kind name is_parent only))

  module _ (config : Config) (key : ServerKey) (misses : meets (server_reads key) changed ≡ false) where
    part_stays : (found : Option Pod)
        → option_map (λ pod. part_of config pod key.port (chosen_server before key.ns pod key.port)) found ≡ option_map (λ pod. part_of config pod key.port (chosen_server after key.ns pod key.port)) found
    part_stays None = refl
    part_stays (Some pod) = ap (λ server. Some (part_of config pod key.port server)) (chosen_stays key.ns pod key.port (neither_second _ _ misses))

    its_pod : pod_held before (Some (key.ns, key.pod)) ≡ pod_held after (Some (key.ns, key.pod))
    its_pod = ap pod_found (held_stays leads (pod_key key.ns key.pod) (neither_first _ _ misses))

    row_stays : server_part config after key ≡ server_part config before key
    row_stays = sym (part_stays (pod_held before (Some (key.ns, key.pod))) ∙ ap (option_map (λ pod. part_of config pod key.port (chosen_server after key.ns pod key.port))) its_pod)

pub servers_stay : ServersStay
servers_stay config key changed before after leads misses = (row_stays leads config key misses, refl)

pub routes_stay : RoutesStay
routes_stay key changed before after leads misses = (ap (map bare_route) (sym (attached_stay leads key.ns parent.Server key.server (is_server_parent key.server) (only_server key.server) misses)), refl)
