-- The routes that are attached, in their order.
use Rattle.std.proofs.Common.{◌≡◌, ◌⊎◌, inl, inr, ℕ, Bool, true, false, List, [], Option, Some, None, refl, sym, ap, subst, ◌∙◌}
use Rattle.std.specs.Bool.{Decides}
use Rattle.std.specs.Cmp.{IsTotalOrder}
use Rattle.std.specs.Cmp.Lexicographic.{bytes_decides, nat_list_cmp_total, slice_cmp}
use Rattle.std.specs.FinMap.{IsAntisymmetric, get, values}
use Rattle.std.specs.List.{Any, filter, filter_map}
use Rattle.std.specs.Ordering.{nat_cmp, ordering_then}
use Rattle.std.proofs.lemmas.Bool.Decides.{Decides-and}
use Rattle.std.proofs.lemmas.Cmp.{nat_cmp_total, on_total, then_total}
use Rattle.std.proofs.lemmas.Map.Lookups.{exact_bytes, exact_pairs}
use Rattle.mesh_base.proofs.KeyOrder.{keys_total}
use Rattle.mesh_base.specs.declared.key.Kind.{Kind}
use Rattle.mesh_base.specs.declared.key.Kind.TheVariants as kind
use Rattle.view_types.specs.Lawful.{IsLawful}
use Rattle.view_types.specs.Objects.{AtKeys, ObjectMap, key_of}
use Rattle.view_types.specs.declared.object.Object.{Object}
use Rattle.view_types.specs.declared.object.Object.TheVariants as object
use Rattle.view_types.specs.declared.route.Parent.{Parent}
use Rattle.view_types.specs.declared.route.Route.{Route}
use Rattle.view_rules.specs.PolicyLaws.{AreLawful, IsAttached, RouteOrderIsTotal, RoutesAreInOrder}
use Rattle.view_rules.specs.Routes.{RoutePlace, as_route, attached_routes, created_cmp, has_parent, place_of, route_cmp, route_group, route_key}
use Rattle.view_rules.proofs.Among.{Among, among_found, among_from, among_kept, contained, from_found, from_kept, from_map}
use Rattle.view_rules.proofs.Entries.{held_somewhere, stands}
use Rattle.view_rules.proofs.KeptOnce.{order_has, order_keeps, order_rises}
use Rattle.view_rules.proofs.Tests.{any_decides, is_true_decides}

-- ---- the order

rank : Option (List ℕ) → ℕ
rank None = 1
rank (Some time) = 0

time_of : Option (List ℕ) → List ℕ
time_of None = []
time_of (Some time) = time

by_rank : (a b : Option (List ℕ)) → ordering_then (nat_cmp (rank a) (rank b)) (slice_cmp nat_cmp (time_of a) (time_of b)) ≡ created_cmp a b
unfolding rank time_of
by_rank None None = refl
by_rank None (Some b) = refl
by_rank (Some a) None = refl
by_rank (Some a) (Some b) = refl

created_total : IsTotalOrder created_cmp
created_total = subst IsTotalOrder (λ i a b. by_rank a b i) (then_total (on_total rank nat_cmp_total) (on_total time_of nat_list_cmp_total))

pub route_order_is_total : RouteOrderIsTotal
route_order_is_total =
    then_total (on_total (λ (p : RoutePlace). p.created) created_total)
    (then_total (on_total (λ (p : RoutePlace). p.name) nat_list_cmp_total) (on_total (λ (p : RoutePlace). p.group) nat_list_cmp_total))

created_exact : IsAntisymmetric created_cmp
created_exact None None e = refl
created_exact None (Some b) e = absurd (cc e)
created_exact (Some a) None e = absurd (cc e)
created_exact (Some a) (Some b) e = ap Some (exact_bytes a b e)

pub places_exact : IsAntisymmetric route_cmp
places_exact a b e =
    ap (λ (p : Option (List ℕ) × (List ℕ × List ℕ)). record { created = p.0; name = p.1.0; group = p.1.1 })
    (exact_pairs created_cmp _ created_exact (exact_pairs (slice_cmp nat_cmp) (slice_cmp nat_cmp) exact_bytes exact_bytes) (a.created, (a.name, a.group)) (b.created, (b.name, b.group)) e)

-- ---- routes that are held

abbrev IsRouteKind : Kind → Type 0
IsRouteKind k = (k ≡ kind.LinkerdRoute) ⊎ (k ≡ kind.GatewayRoute)

-- a route stands in an object of its own kind and key
record IsOwn (o : Object) (route : Route) : Type 0 where
  pub kind : IsRouteKind route.kind
  pub key : key_of o ≡ route_key route

is_own : (o : Object) (route : Route) → IsLawful o → as_route o ≡ Some route → IsOwn o route
is_own (object.LinkerdRoute r) route lawful e =
    let same : r ≡ route = cc e in
    subst (IsOwn (object.LinkerdRoute r)) same (record { kind = inl lawful.same_kind; key = ap (λ (k : Kind). record { kind = k; ns = r.meta.ns; name = r.meta.name }) (sym lawful.same_kind) })
is_own (object.GatewayRoute r) route lawful e =
    let same : r ≡ route = cc e in
    subst (IsOwn (object.GatewayRoute r)) same (record { kind = inr lawful.same_kind; key = ap (λ (k : Kind). record { kind = k; ns = r.meta.ns; name = r.meta.name }) (sym lawful.same_kind) })
is_own _ route lawful e = absurd (cc e)

groups_apart : route_group kind.LinkerdRoute ≡ route_group kind.GatewayRoute → ⊥
groups_apart e = let no : false ≡ true = (bytes_decides (route_group kind.LinkerdRoute) (route_group kind.GatewayRoute)).1 e in cc no

-- the group tells the kinds of routes apart
same_kinds : (j k : Kind) → IsRouteKind j → IsRouteKind k → route_group j ≡ route_group k → j ≡ k
same_kinds j k (inl a) (inl b) e = a ∙ sym b
same_kinds j k (inl a) (inr b) e = absurd (groups_apart (ap route_group (sym a) ∙ e ∙ ap route_group b))
same_kinds j k (inr a) (inl b) e = absurd (groups_apart (ap route_group (sym b) ∙ sym e ∙ ap route_group a))
same_kinds j k (inr a) (inr b) e = a ∙ sym b

same_routes : (a b : Object) (r s : Route) → Some a ≡ Some b → as_route a ≡ Some r → as_route b ≡ Some s → r ≡ s
same_routes a b r s e is is' = let both : Some r ≡ Some s = sym is ∙ ap as_route (cc e) ∙ is' in cc both

-- ---- routes with a parent that passes

module _ (ns : List ℕ) (is_parent : Parent → Bool) where
  parent_decides : (route : Route) → Decides (has_parent ns is_parent route) ((route.meta.ns ≡ ns) × Any (λ parent. is_parent parent ≡ true) route.parents)
  parent_decides route = Decides-and _ _ (bytes_decides route.meta.ns ns) (any_decides is_parent (λ parent. is_parent parent ≡ true) (λ parent. is_true_decides (is_parent parent)) route.parents)

  module _ (held : ObjectMap) (at_keys : AtKeys held) (lawful : AreLawful held) where
    abbrev candidates : List Route
    candidates = filter (has_parent ns is_parent) (filter_map as_route (values held))

    from_candidate : (route : Route) → Among route candidates → IsAttached held ns is_parent route
    from_candidate route h =
        let passes = from_kept (has_parent ns is_parent) (filter_map as_route (values held)) route h in
        let from = from_found as_route (values held) route passes.0 in
        let somewhere = held_somewhere keys_total held from.0 from.1 in
        let own = is_own from.0 route (lawful somewhere.0 from.0 somewhere.1) from.2 in
        let parent = (parent_decides route).0 passes.1 in
        record {
          object = from.0;
          at_key = ap (get held) (sym own.key ∙ at_keys somewhere.0 from.0 somewhere.1) ∙ somewhere.1;
          of_object = from.2;
          in_namespace = parent.0;
          parent = parent.1.1;
          among_parents = (parent.1.0, parent.1.2, parent.1.3);
          passes = parent.1.4;
        }

    candidate : (route : Route) → IsAttached held ns is_parent route → Among route candidates
    candidate route is =
        among_kept (has_parent ns is_parent) (filter_map as_route (values held)) route
        (among_found as_route (values held) is.object route (stands keys_total held (route_key route) is.object is.at_key) is.of_object)
        ((parent_decides route).1 (is.in_namespace, (is.among_parents.0, is.parent, is.among_parents.1, is.among_parents.2, is.passes)))

    -- two that are attached and stand at one place are one
    one_at_place : (r s : Route) → IsAttached held ns is_parent r → IsAttached held ns is_parent s → place_of r ≡ place_of s → r ≡ s
    one_at_place r s is is' e =
        let own = is_own is.object r (lawful (route_key r) is.object is.at_key) is.of_object in
        let own' = is_own is'.object s (lawful (route_key s) is'.object is'.at_key) is'.of_object in
        let kinds = same_kinds r.kind s.kind own.kind own'.kind (ap (λ (p : RoutePlace). p.group) e) in
        let names : r.meta.name ≡ s.meta.name = ap (λ (p : RoutePlace). p.name) e in
        let spaces : r.meta.ns ≡ s.meta.ns = is.in_namespace ∙ sym is'.in_namespace in
        let keys : route_key r ≡ route_key s = λ i. record { kind = kinds i; ns = spaces i; name = names i } in
        same_routes is.object is'.object r s (sym is.at_key ∙ ap (get held) keys ∙ is'.at_key) is.of_object is'.of_object

    is_listed : (route : Route) → IsAttached held ns is_parent route → Among route (attached_routes held ns is_parent)
    is_listed route is =
        let at = from_map place_of (attached_routes held ns is_parent) (place_of route) (order_keeps route_order_is_total places_exact place_of candidates route (candidate route is)) in
        let other = from_candidate at.0 (order_has route_order_is_total places_exact place_of candidates at.0 at.1) in
        subst (λ route. Among route (attached_routes held ns is_parent)) (one_at_place at.0 route other is at.2) at.1

pub routes_are_in_order : RoutesAreInOrder
routes_are_in_order held at_keys lawful ns is_parent = record {
  rise = order_rises route_order_is_total places_exact place_of (candidates ns is_parent held at_keys lawful);
  same = λ route. (
    λ h. from_candidate ns is_parent held at_keys lawful route
        (order_has route_order_is_total places_exact place_of (candidates ns is_parent held at_keys lawful) route (among_from (attached_routes held ns is_parent) route h)),
    λ is. contained (attached_routes held ns is_parent) route (is_listed ns is_parent held at_keys lawful route is),
  );
}
