-- What the port of a Pod costs is the cost of its rows.
use Rattle.std.proofs.Common.{◌≡◌, ℕ, ◌+◌, ◌≤◌, Bool, List, [], ◌∷◌, ◌++◌, map, inl, inr, Option, Some, None, refl, sym, ap, ◌∙◌, arith}
use Rattle.std.specs.Cmp.Lexicographic.{bytes_decides}
use Rattle.std.specs.FinMap.{values}
use Rattle.std.specs.List.{filter, filter_map, flat_map}
use Rattle.std.specs.Prelude.{option_map}
use Rattle.std.proofs.lemmas.List.Folds.{flat_map-map}
use Rattle.mesh_base.specs.declared.key.ObjKey.{ObjKey}
use Rattle.view_types.specs.Objects.{AtKeys, ObjectMap}
use Rattle.view_types.specs.declared.config.Config.{Config}
use Rattle.view_types.specs.declared.mark.Mark.{Mark}
use Rattle.view_types.specs.declared.mark.Mark.TheVariants.{Obj, RouteOn, ServersIn}
use Rattle.view_types.specs.declared.object.Object.TheVariants as object
use Rattle.view_types.specs.declared.pod.Pod.{Pod}
use Rattle.view_types.specs.declared.query.Query.TheVariants as query
use Rattle.view_types.specs.declared.route.Parent.{Parent}
use Rattle.view_types.specs.declared.route.ParentKind.TheVariants as parent
use Rattle.view_types.specs.declared.route.Route.{Route}
use Rattle.view_types.specs.declared.server.ServerSpec.{ServerSpec}
use Rattle.view_types.specs.declared.server_view.RouteRow.{RouteRow}
use Rattle.view_rules.specs.PodRows.{pod_held, pod_key}
use Rattle.view_rules.specs.PolicyLaws.{server_key}
use Rattle.view_rules.specs.Routes.{as_route, attached_routes, has_parent, is_server_parent, place_of, route_key}
use Rattle.view_rules.specs.Servers.{chosen_server}
use Rattle.view_rules.proofs.Among.{Among, from_kept}
use Rattle.view_rules.proofs.Attached.{places_exact, route_order_is_total}
use Rattle.view_rules.proofs.Given.{both_hold}
use Rattle.view_rules.proofs.ServersOfPorts.{servers_are_the_least}
use Rattle.mark_rules.specs.Reads.{authz_reads, cost, count_at, query_reads, reads}
use Rattle.mark_rules.specs.Rows.{bare_route, key_of_row, keys_behind, name_in, part_of, server_routes}
use Rattle.mark_rules.specs.declared.keys.RowKey.TheVariants as row
use Rattle.mark_rules.proofs.Counts.{cost_append, cost_cons}
use Rattle.policy_rows.proofs.Merged.{each_among}
use Rattle.view_scratch.specs.Reads.{port_marks, server_marks}

flat_same : {X Y : Type 0} (f g : X → List Y) (xs : List X) → ((x : X) → Among x xs → f x ≡ g x) → flat_map f xs ≡ flat_map g xs
flat_same f g [] each = refl
flat_same f g (x ∷ xs) each = λ i. each x (inl refl) i ++ flat_same f g xs (λ y at. each y (inr at)) i

-- a Server's routes, after its authorizations
pub server_marks_cost : (held : ObjectMap) (ns name : List ℕ)
    → cost held (server_marks held ns name) ≡ cost held (authz_reads held (server_key ns name)) + cost held (RouteOn ns parent.Server name ∷ flat_map (λ route. authz_reads held (route_key route)) (attached_routes held ns (is_server_parent name)))
server_marks_cost held ns name =
    let routes = flat_map (λ (route : Route). authz_reads held (route_key route)) (attached_routes held ns (is_server_parent name)) in
    let all = cost_cons held (RouteOn ns parent.Server name) (authz_reads held (server_key ns name) ++ routes) in
    let parts = cost_append held (authz_reads held (server_key ns name)) routes in
    let part = cost_cons held (RouteOn ns parent.Server name) routes in
    omega (arith, all, parts, part)

module _ (config : Config) (held : ObjectMap) (own : AtKeys held) (ns : List ℕ) where
  in_namespace : (is_parent : Parent → Bool) (route : Route) → Among route (attached_routes held ns is_parent) → route.meta.ns ≡ ns
  in_namespace is_parent route at =
      let routes = filter_map as_route (values held) in
      let among = each_among route_order_is_total places_exact place_of (filter (has_parent ns is_parent) routes) route at in
      (bytes_decides route.meta.ns ns).0 (both_hold _ _ (from_kept (has_parent ns is_parent) routes route among).1).0

  behind : (name : List ℕ) → flat_map (reads config held) (keys_behind (server_routes held) ns (Some name)) ≡ server_marks held ns name
  behind name =
      let routes = attached_routes held ns (is_server_parent name) in
      ap (λ (marks : List Mark). RouteOn ns parent.Server name ∷ (authz_reads held (server_key ns name) ++ marks))
      (flat_map-map (reads config held) (λ (route : RouteRow). row.Authz (key_of_row ns route)) (map bare_route routes)
      ∙ flat_map-map (λ (route : RouteRow). authz_reads held (key_of_row ns route)) bare_route routes
      ∙ flat_same _ _ routes (λ route at. ap (λ (n : List ℕ). authz_reads held (record { kind = route.kind; ns = n; name = route.meta.name })) (sym (in_namespace (is_server_parent name) route at))))

  chosen_reads : (pod : Pod) (port : ℕ) (chosen : Option ServerSpec) → chosen_server held ns pod port ≡ chosen
      → flat_map (reads config held) (keys_behind (server_routes held) ns (name_in (Some (part_of config pod port chosen)))) ≡ port_marks held chosen
  chosen_reads pod port None is = refl
  chosen_reads pod port (Some server) is =
      let at = ((servers_are_the_least held own ns pod port).some server is).is.at_key in
      let here : server.meta.ns ≡ ns = ap (λ (k : ObjKey). k.ns) (own (server_key ns server.meta.name) (object.Server server) at) in
      behind server.meta.name ∙ ap (λ n. server_marks held n server.meta.name) (sym here)

  -- the Pod, the Servers of its namespace, and what is behind the Server of the port
  pub port_costs : (name : List ℕ) (port : ℕ) (pod : Pod) (chosen : Option ServerSpec) → pod_held held (Some (ns, name)) ≡ Some pod → chosen ≡ chosen_server held ns pod port
      → cost held (query_reads config held (query.Port ns name port)) ≡ count_at held (Obj (pod_key ns name)) + (count_at held (ServersIn ns) + cost held (port_marks held chosen))
  port_costs name port pod chosen is found =
      let behind_it : List Mark = flat_map (reads config held) (keys_behind (server_routes held) ns (name_in (option_map (λ pod. part_of config pod port (chosen_server held ns pod port)) (pod_held held (Some (ns, name)))))) in
      let same : behind_it ≡ port_marks held chosen =
      ap (λ (p : Option Pod). flat_map (reads config held) (keys_behind (server_routes held) ns (name_in (option_map (λ pod. part_of config pod port (chosen_server held ns pod port)) p)))) is
      ∙ chosen_reads pod port (chosen_server held ns pod port) refl ∙ ap (port_marks held) (sym found) in
      cost_cons held (Obj (pod_key ns name)) (ServersIn ns ∷ behind_it)
      ∙ ap (λ n. count_at held (Obj (pod_key ns name)) + n) (cost_cons held (ServersIn ns) behind_it ∙ ap (λ marks. count_at held (ServersIn ns) + cost held marks) same)

  -- it costs at least the Pod and the Servers
  pub pod_costs : (name : List ℕ) (port : ℕ) → count_at held (Obj (pod_key ns name)) + count_at held (ServersIn ns) ≤ cost held (query_reads config held (query.Port ns name port))
  pod_costs name port =
      let behind_it : List Mark = flat_map (reads config held) (keys_behind (server_routes held) ns (name_in (option_map (λ pod. part_of config pod port (chosen_server held ns pod port)) (pod_held held (Some (ns, name)))))) in
      let first = cost_cons held (Obj (pod_key ns name)) (ServersIn ns ∷ behind_it) in
      let second = cost_cons held (ServersIn ns) behind_it in
      omega (arith, first, second)
