-- The view of a query is joined of its rows.
use Rattle.std.proofs.Common.{◌≡◌, ℕ, List, [], ◌∷◌, map, Some, None, Option, refl, sym, ap, ◌∙◌}
use Rattle.std.specs.FinMap.{get}
use Rattle.std.specs.Prelude.{option_map}
use Rattle.mesh_base.specs.declared.key.Kind.{Kind}
use Rattle.mesh_base.specs.declared.key.Kind.TheVariants as kind
use Rattle.mesh_base.specs.declared.key.ObjKey.{ObjKey}
use Rattle.view_types.specs.Lawful.{IsLawful}
use Rattle.view_types.specs.Objects.{AtKeys, ObjectMap}
use Rattle.view_types.specs.declared.config.Config.{Config}
use Rattle.view_types.specs.declared.object.Object.{Object}
use Rattle.view_types.specs.declared.object.Object.TheVariants as object
use Rattle.view_types.specs.declared.pod.Pod.{Pod}
use Rattle.view_types.specs.declared.query.Query.TheVariants as query
use Rattle.view_types.specs.declared.route.Route.{Route}
use Rattle.view_types.specs.declared.server.ServerSpec.{ServerSpec}
use Rattle.view_types.specs.declared.server_view.AuthzRow.{AuthzRow}
use Rattle.view_types.specs.declared.server_view.ServerView.TheVariants.{Present}
use Rattle.view_types.specs.declared.view.View.TheVariants as view
use Rattle.view_rules.specs.Inbound.{inbound_at, inbound_route, inbound_routes, inbound_rule, port_row}
use Rattle.view_rules.specs.PodRows.{pod_held}
use Rattle.view_rules.specs.Policies.{applies_to_route, applies_to_server, authz_rows}
use Rattle.view_rules.specs.PolicyLaws.{AreLawful, server_key}
use Rattle.view_rules.specs.Routes.{as_route, attached_routes, is_server_parent, route_key, route_row}
use Rattle.view_rules.specs.Servers.{chosen_server}
use Rattle.view_rules.proofs.Among.{Among, contained}
use Rattle.view_rules.proofs.Attached.{routes_are_in_order}
use Rattle.view_rules.proofs.ServersOfPorts.{servers_are_the_least}
use Rattle.mark_rules.specs.Laws.{ViewsAreJoined}
use Rattle.mark_rules.specs.Rows.{authz_at, authz_row, bare_route, join_inbound, part_of, row_joined, server_routes, with_authz}
use Rattle.mark_rules.proofs.Outbound.{same_each}

mapped_twice : {A B C : Type 0} (f : B → C) (g : A → B) (xs : List A) → map f (map g xs) ≡ map (λ x. f (g x)) xs
mapped_twice f g [] = refl
mapped_twice f g (x ∷ xs) = ap (λ ys. f (g x) ∷ ys) (mapped_twice f g xs)

module _ (config : Config) (held : ObjectMap) (at_keys : AtKeys held) (lawful : AreLawful held) (ns : List ℕ) where
  -- the row of a route's authorizations, by the kind of the object that it stands in
  route_authz : (key : ObjKey) (o : Object) (route : Route) → IsLawful o → as_route o ≡ Some route → key.kind ≡ route.kind → authz_rows config held (applies_to_route held key) ≡ authz_row config held key
  route_authz key (object.LinkerdRoute own) route law is same =
      let here : own ≡ route = cc is in
      let linkerd : kind.LinkerdRoute ≡ key.kind = sym (same ∙ ap (λ (r : Route). r.kind) (sym here) ∙ law.same_kind) in
      ap (λ (k : Kind). authz_at config held key k (get held key)) linkerd
  route_authz key (object.GatewayRoute own) route law is same =
      let here : own ≡ route = cc is in
      let gateway : kind.GatewayRoute ≡ key.kind = sym (same ∙ ap (λ (r : Route). r.kind) (sym here) ∙ law.same_kind) in
      ap (λ (k : Kind). authz_at config held key k (get held key)) gateway
  route_authz key _ route law is same = absurd (cc is)

  route_joined : (name : List ℕ) (route : Route) → Among route (attached_routes held ns (is_server_parent name)) → inbound_route config held route ≡ with_authz (authz_row config held) ns (bare_route route)
  route_joined name route at =
      let is = ((routes_are_in_order held at_keys lawful ns (is_server_parent name)).same route).0 (contained (attached_routes held ns (is_server_parent name)) route at) in
      let key = ap (λ (n : List ℕ). record { kind = route.kind; ns = n; name = route.meta.name }) is.in_namespace in
      ap (λ (rows : List AuthzRow). route_row inbound_rule rows route)
      (route_authz (route_key route) is.object route (lawful (route_key route) is.object is.at_key) is.of_object refl ∙ ap (authz_row config held) key)

  routes_joined : (name : List ℕ) → map (inbound_route config held) (attached_routes held ns (is_server_parent name)) ≡ map (with_authz (authz_row config held) ns) (server_routes held (record { ns = ns; server = name }))
  routes_joined name =
      same_each (inbound_route config held) (λ route. with_authz (authz_row config held) ns (bare_route route)) (attached_routes held ns (is_server_parent name)) (route_joined name)
      ∙ sym (mapped_twice (with_authz (authz_row config held) ns) bare_route (attached_routes held ns (is_server_parent name)))

  chosen_joined : (pod : Pod) (port : ℕ) (chosen : Option ServerSpec) → chosen_server held ns pod port ≡ chosen
      → Present (port_row config held pod port chosen) ≡ join_inbound (server_routes held) (authz_row config held) ns (Some (part_of config pod port chosen))
  chosen_joined pod port None is = refl
  chosen_joined pod port (Some server) is =
      let at = ((servers_are_the_least held at_keys ns pod port).some server is).is.at_key in
      let here : server.meta.ns ≡ ns = ap (λ (k : ObjKey). k.ns) (at_keys (server_key ns server.meta.name) (object.Server server) at) in
      let authz : authz_rows config held (applies_to_server held server) ≡ authz_row config held (server_key ns server.meta.name) =
      ap (λ found. authz_at config held (server_key ns server.meta.name) kind.Server found) (sym at) in
      let routes : inbound_routes config held server ≡ map (with_authz (authz_row config held) ns) (server_routes held (record { ns = ns; server = server.meta.name })) =
      ap (λ n. map (inbound_route config held) (attached_routes held n (is_server_parent server.meta.name))) here ∙ routes_joined server.meta.name in
      λ i. Present (row_joined (part_of config pod port (Some server)) (authz i) (routes i))

  pod_joined : (port : ℕ) (found : Option Pod)
      → inbound_at config held ns port found ≡ join_inbound (server_routes held) (authz_row config held) ns (option_map (λ pod. part_of config pod port (chosen_server held ns pod port)) found)
  pod_joined port None = refl
  pod_joined port (Some pod) = chosen_joined pod port (chosen_server held ns pod port) refl

pub views_are_joined : ViewsAreJoined
views_are_joined config held at_keys lawful (query.Get ns name port ctx) = refl
views_are_joined config held at_keys lawful (query.Profile target ctx) = refl
views_are_joined config held at_keys lawful (query.Port ns pod port) = ap view.Server (pod_joined config held at_keys lawful ns port (pod_held held (Some (ns, pod))))
views_are_joined config held at_keys lawful (query.Traffic target) = refl
views_are_joined config held at_keys lawful (query.PortRows ns pod port) = ap view.ServerRows (pod_joined config held at_keys lawful ns port (pod_held held (Some (ns, pod))))
