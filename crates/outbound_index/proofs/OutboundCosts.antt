-- What the outbound view of a Service costs: to find the routes with the Service as a parent, and to show those that are attached.
use Rattle.std.proofs.Common.{◌≡◌, ℕ, ◌+◌, ◌≤◌, Bor, List, [], ◌∷◌, length, map, sym, ap, ◌∙◌, arith}
use Rattle.std.specs.FinMap.{get}
use Rattle.std.specs.List.{filter_map, flat_map}
use Rattle.std.proofs.lemmas.List.Folds.{flat_map-map}
use Rattle.mesh_base.specs.declared.key.ObjKey.{ObjKey}
use Rattle.view_types.specs.Objects.{ObjectMap}
use Rattle.view_types.specs.declared.mark.Mark.{Mark}
use Rattle.view_types.specs.declared.mark.Mark.TheVariants.{Obj, RouteOn}
use Rattle.view_types.specs.declared.route.ParentKind.TheVariants as parent
use Rattle.view_types.specs.declared.route.Route.{Route}
use Rattle.view_rules.specs.Endpoints.{service_key}
use Rattle.view_rules.specs.Routes.{attached_routes, has_parent, is_service_parent, place_of}
use Rattle.view_rules.proofs.Attached.{route_order_is_total}
use Rattle.mark_rules.specs.MarkLookups.{ServiceRoutesByMark}
use Rattle.mark_rules.specs.Reads.{backends_of, cost, count_at, routes_on, service_outbound_reads}
use Rattle.mark_rules.proofs.Counts.{cost_cons, objects_count}
use Rattle.policy_rows.specs.ByMark.{HoldMarked}
use Rattle.view_scratch.proofs.RouteSteps.{kept_costs}

-- the objects at the keys of a mark
pub found_within : (held : ObjectMap) (mark : Mark) (keys : List ObjKey) → HoldMarked held mark keys → (start found : ℕ) → found ≤ start + length (filter_map (get held) keys) → found ≤ start + count_at held mark
found_within held mark keys are start found first =
    let count = ap length are ∙ objects_count mark held in
    omega (arith, count, first)

-- the marks of the backends of these routes
abbrev pub backends_among : List (Bor Route) → List Mark
backends_among routes = flat_map (λ (route : Bor Route). backends_of route.now) routes

module _ (held : ObjectMap) (ns name : List ℕ) (start found : ℕ) (first : found ≤ start + count_at held (RouteOn ns parent.Service name)) where
  abbrev backends : List Mark
  backends = flat_map backends_of (routes_on held ns name)

  pub routes_within : found ≤ start + cost held (service_outbound_reads held ns name)
  routes_within =
      let all = cost_cons held (Obj (service_key ns name)) (RouteOn ns parent.Service name ∷ backends) in
      let more = cost_cons held (RouteOn ns parent.Service name) backends in
      omega (arith, all, more, first)

  pub view_within : ServiceRoutesByMark → (port : ℕ) (routes items : List (Bor Route)) → routes ≡ items → map (λ route. route.now) items ≡ attached_routes held ns (is_service_parent name port) → (shown : ℕ)
      → shown ≤ found + (count_at held (Obj (service_key ns name)) + cost held (backends_among routes)) → shown ≤ start + cost held (service_outbound_reads held ns name)
  view_within by_mark port routes items same are shown rest =
      let all = cost_cons held (Obj (service_key ns name)) (RouteOn ns parent.Service name ∷ backends) in
      let more = cost_cons held (RouteOn ns parent.Service name) backends in
      let seen =
      ap (λ rs. cost held (backends_among rs)) same
      ∙ ap (cost held) (sym (flat_map-map backends_of (λ (route : Bor Route). route.now) items))
      ∙ ap (λ rs. cost held (flat_map backends_of rs)) (are ∙ by_mark held ns name port) in
      let kept = kept_costs route_order_is_total place_of held backends_of (has_parent ns (is_service_parent name port)) (routes_on held ns name) in
      omega (arith, all, more, first, rest, seen, kept)
