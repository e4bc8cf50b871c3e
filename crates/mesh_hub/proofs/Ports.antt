-- The view of the port of a simulated request, from its rows.
use Rattle.std.proofs.Common.{◌≡◌, ◌≤◌, ◌+◌, ℕ, List, [], ◌∷◌, map, Option, Some, None, refl, sym, ap, subst, ◌∙◌, arith}
use Rattle.mesh_base.specs.declared.key.ObjKey.{ObjKey}
use Rattle.mesh_base.specs.declared.limits.Limits.{Limits}
use Rattle.view_types.specs.Objects.{AtKeys, ObjectMap}
use Rattle.view_types.specs.declared.config.Config.{Config}
use Rattle.view_types.specs.declared.query.Query.TheVariants.{Port}
use Rattle.view_types.specs.declared.request.Request.{Request}
use Rattle.view_types.specs.declared.server_view.AuthzRow.{AuthzRow}
use Rattle.view_types.specs.declared.server_view.RouteRow.{RouteRow}
use Rattle.view_types.specs.declared.server_view.ServerView.{ServerView}
use Rattle.view_types.specs.declared.server_view.ServerView.TheVariants.{Present}
use Rattle.view_types.specs.declared.view.View.TheVariants.{Server}
use Rattle.view_rules.specs.Inbound.{inbound, unless_routes}
use Rattle.view_rules.specs.PolicyLaws.{AreLawful}
use Rattle.mark_rules.specs.Rows.{ServerPart, authz_behind, authz_row, join_inbound, key_of_row, name_in, routes_behind, rows, server_joined, server_part, server_routes, with_authz}
use Rattle.mark_rules.specs.declared.keys.RouteKey.{RouteKey}
use Rattle.mark_rules.specs.declared.keys.ServerKey.{ServerKey}
use Rattle.mark_rules.proofs.ViewJoin.{views_are_joined}
use Rattle.object_store.specs.Held.{Held}
use Rattle.row_views.specs.Costs.{cost_of}
use Rattle.kept_views.specs.contracts.views.KeptViewsQueryViews.TheImpl.{ghosts as views}
use Rattle.kept_views.specs.declared.views.KeptViews.{KeptViews}
use Rattle.shared_endpoints.specs.declared.shared.SharedEndpoints.{SharedEndpoints}
use Rattle.subscriptions.specs.declared.subscribers.Subscribers.{Subscribers}
use Rattle.request_sim.specs.FullViews.{IsOneOf, LooksUpOne, full_view, routes_in}
use Rattle.inbound_views.specs.BarePorts.{authz_of_route, bare_port, bare_rows, join_bare, route_cost}
use Rattle.inbound_views.specs.Costs.{cost_of_authz}
use Rattle.inbound_views.proofs.Bare.{bare_whole, one_of_all}
use Rattle.mesh_hub.specs.LiveSubs.{Stand}
use Rattle.mesh_hub.specs.Ports.{port_of}

-- ---- the kept views

-- the views of the live subscriptions stand for the objects of the store
pub views_stand : (config : Config) (limits : Limits) (held : Held) (all : Subscribers SharedEndpoints KeptViews) (store : Held) (kept : KeptViews) → held ≡ store → all.views ≡ kept
    → Stand config limits held.objects all → views.stands kept config store.objects
views_stand config limits held all store kept same views_same stand =
    subst (λ (h : Held). views.stands kept config h.objects) same (subst (λ (v : KeptViews). views.stands v config held.objects) views_same stand.views)

-- ---- the view

as_many : (f : RouteRow → RouteRow) (routes : List RouteRow) (paths : List (List ℕ)) → unless_routes (map f routes) paths ≡ unless_routes routes paths
as_many f [] paths = refl
as_many f (route ∷ routes) paths = refl

full_joined : (routes : RouteKey → List RouteRow) (authz : ObjKey → List AuthzRow) (ns : List ℕ) (part : Option ServerPart)
    → join_inbound routes authz ns part ≡ full_view (λ route. authz (key_of_row ns route)) (join_bare routes authz ns part)
full_joined routes authz ns None = refl
full_joined routes authz ns (Some part) =
    let rows = routes_behind routes ns part.2 in
    ap (λ (paths : List (List ℕ)). Present (record { protocol = part.0; policy = part.1; server = part.2; authz = authz_behind authz ns part.2; routes = map (with_authz authz ns) rows; probes = paths }))
    (as_many (with_authz authz ns) rows part.3)

module _ (config : Config) (held : ObjectMap) (request : Request) where
  abbrev key : ServerKey
  key = port_of request

  -- with the authorizations of its routes, the view over these objects
  pub full_port : AtKeys held → AreLawful held → (view : ServerView) → view ≡ bare_port config held key
      → inbound config held request.ns request.pod request.port ≡ full_view (authz_of_route config held request.ns) view
  full_port at_keys lawful view is =
      let whole : Server (inbound config held request.ns request.pod request.port) ≡ Server (server_joined config held key) = views_are_joined config held at_keys lawful (Port request.ns request.pod request.port) in
      let joined : inbound config held request.ns request.pod request.port ≡ server_joined config held key = cc whole in
      joined ∙ full_joined (server_routes held) (authz_row config held) request.ns (server_part config held key) ∙ ap (full_view (authz_of_route config held request.ns)) (sym is)

  -- ---- what is looked up

  abbrev routes : List RouteRow
  routes = routes_behind (server_routes held) request.ns (name_in (server_part config held key))

  routes_are : (part : Option ServerPart) → routes_in (join_bare (server_routes held) (authz_row config held) request.ns part) ≡ routes_behind (server_routes held) request.ns (name_in part)
  routes_are None = refl
  routes_are (Some part) = refl

  -- the rows of the view, and the authorizations of one of its routes
  pub finds_one : (view : ServerView) → view ≡ bare_port config held key → (old mid new : ℕ) → mid ≤ old + cost_of config held (bare_rows config held key) → LooksUpOne (IsOneOf (routes_in view)) (route_cost held request.ns) mid new
      → new ≤ old + cost_of config held (rows config held (Port request.ns request.pod request.port))
  finds_one view is old mid new first one =
      let all = cost_of_authz held (map (key_of_row request.ns) routes) in
      let same : routes_in view ≡ routes = ap routes_in is ∙ routes_are (server_part config held key) in
      let each : (route : RouteRow) → IsOneOf (routes_in view) route → route_cost held request.ns route ≤ all = λ route of. let there = subst (λ (rs : List RouteRow). IsOneOf rs route) same of in one_of_all config held request.ns routes there.0 route there.1 in
      let second = one all each in
      let total = bare_whole config held key in
      omega (arith, first, second, total)
