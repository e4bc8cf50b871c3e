-- The keys of the objects with the mark of a Server's routes are those of the routes that are attached to it.
use Rattle.std.proofs.Common.{◌≡◌, ◌&&◌, ◌||◌, ℕ, Bool, true, false, cond, List, [], ◌∷◌, map, Option, Some, None, inl, inr, refl, sym, ap, subst, ◌∙◌}
use Rattle.std.specs.Cmp.Lexicographic.{bytes_decides}
use Rattle.std.specs.FinMap.{get}
use Rattle.std.specs.List.{list_any}
use Rattle.std.specs.Str.{bytes_eq}
use Rattle.std.proofs.Math.Bool.{or-false}
use Rattle.std.proofs.lemmas.List.Folds.{list_any-from_Any}
use Rattle.mesh_base.specs.declared.key.Kind.{Kind}
use Rattle.mesh_base.specs.declared.key.ObjKey.{ObjKey}
use Rattle.net_cidr.specs.declared.ip.Ip.{Ip}
use Rattle.view_types.specs.Lawful.{IsLawful}
use Rattle.view_types.specs.Objects.{AtKeys, ObjectMap, key_of}
use Rattle.view_types.specs.declared.mark.Mark.{Mark}
use Rattle.view_types.specs.declared.mark.Mark.TheVariants.{IpPod, IpService, PolicyOn, RouteOn}
use Rattle.view_types.specs.declared.object.Object.{Object}
use Rattle.view_types.specs.declared.object.Object.TheVariants as object
use Rattle.view_types.specs.declared.route.Parent.{Parent}
use Rattle.view_types.specs.declared.route.ParentKind.{ParentKind}
use Rattle.view_types.specs.declared.route.ParentKind.TheVariants as parent
use Rattle.view_types.specs.declared.route.Route.{Route}
use Rattle.view_rules.specs.Endpoints.{service_of}
use Rattle.view_rules.specs.PolicyLaws.{AreLawful, IsAttached}
use Rattle.view_rules.specs.Routes.{as_route, attached_routes, has_parent, is_server, is_server_parent, route_key}
use Rattle.view_rules.proofs.Among.{Among, among_from, among_map, contained, from_map}
use Rattle.view_rules.proofs.Attached.{routes_are_in_order}
use Rattle.view_rules.proofs.Entries.{equal}
use Rattle.mark_rules.specs.MarkLookups.{is_marked, keys_at}
use Rattle.mark_rules.specs.Marks.{has_mark, has_own_addresses, label_marks, marks_of, parent_mark, route_marks, same_mark, targets_own}
use Rattle.mark_rules.specs.Rows.{bare_route, key_of_row}
use Rattle.mark_rules.proofs.MarkLookups.{keys_by_mark}
use Rattle.mark_rules.proofs.MarkOrder.{marks_exact}
use Rattle.mark_rules.proofs.SortsOfMarks.{only_server, route_has}

-- the parts of the mark of routes
abbrev ns_in : Mark → List ℕ
ns_in (RouteOn ns kind name) = ns
ns_in _ = []

abbrev kind_in : Mark → ParentKind
kind_in (RouteOn ns kind name) = kind
kind_in _ = parent.Server

abbrev name_in : Mark → List ℕ
name_in (RouteOn ns kind name) = name
name_in _ = []

module _ (held : ObjectMap) (ns name : List ℕ) where
  abbrev wanted : Mark
  wanted = RouteOn ns parent.Server name

  -- ---- an object with the mark is a route that is attached

  passes : (p : Parent) → p.kind ≡ parent.Server → p.name ≡ name → is_server_parent name p ≡ true
  passes p of_server named = ap (λ k. is_server k && bytes_eq p.name name) of_server ∙ (bytes_decides p.name name).1 named

  parent_told : (own : List ℕ) (parents : List Parent) → has_mark (map (parent_mark own) parents) wanted ≡ true → (own ≡ ns) × ((p : Parent) × Among p parents × (is_server_parent name p ≡ true))
  parent_told own [] has = absurd (cc has)
  parent_told own (p ∷ ps) has =
      elim (same_mark wanted (parent_mark own p)) as (λ b. same_mark wanted (parent_mark own p) ≡ b → (b || has_mark (map (parent_mark own) ps) wanted) ≡ true → (own ≡ ns) × ((q : Parent) × Among q (p ∷ ps) × (is_server_parent name q ≡ true))) [
        | true ↦ λ t has.
            let same : wanted ≡ parent_mark own p = marks_exact wanted (parent_mark own p) (equal _ t) in
            (sym (ap ns_in same), (p, inl refl, passes p (sym (ap kind_in same)) (sym (ap name_in same))))
        | false ↦ λ t has. let rest = parent_told own ps has in (rest.0, (rest.1.0, inr rest.1.1, rest.1.2))
      ] refl has

  -- marks that are not among one list or the other
  absent : {A : Type 0} (b : Bool) (marks others : List Mark) → has_mark marks wanted ≡ false → has_mark others wanted ≡ false → has_mark (cond b marks others) wanted ≡ true → A
  absent true marks others e f has = absurd (let no : true ≡ false = sym has ∙ e in cc no)
  absent false marks others e f has = absurd (let no : true ≡ false = sym has ∙ f in cc no)

  no_pods : (addrs : List Ip) → has_mark (map IpPod addrs) wanted ≡ false
  no_pods [] = refl
  no_pods (a ∷ as') = no_pods as'

  no_services : (addrs : List Ip) → has_mark (map IpService addrs) wanted ≡ false
  no_services [] = refl
  no_services (a ∷ as') = no_services as'

  no_label : {A : Type 0} (own : List ℕ) (label : Option (List ℕ)) → has_mark (label_marks own label) wanted ≡ true → A
  no_label own None has = absurd (cc has)
  no_label own (Some service) has = absurd (cc has)

  abbrev IsRouteAt : ObjKey → Type 0
  IsRouteAt key = (r : Route) × (route_key r ≡ key) × IsAttached held ns (is_server_parent name) r

  attached : (o : Object) (r : Route) → as_route o ≡ Some r → route_key r ≡ key_of o → get held (key_of o) ≡ Some o → has_mark (route_marks r) wanted ≡ true → IsRouteAt (key_of o)
  attached o r is own at has =
      let told = parent_told r.meta.ns r.parents has in (
        r,
        own,
        record {
          object = o;
          at_key = ap (get held) own ∙ at;
          of_object = is;
          in_namespace = told.0;
          parent = told.1.0;
          among_parents = contained r.parents told.1.0 told.1.1;
          passes = told.1.2;
        },
      )

  route_told : (o : Object) → IsLawful o → get held (key_of o) ≡ Some o → has_mark (marks_of o) wanted ≡ true → IsRouteAt (key_of o)
  route_told (object.LinkerdRoute r) lawful at has =
      attached (object.LinkerdRoute r) r refl (ap (λ (k : Kind). record { kind = k; ns = r.meta.ns; name = r.meta.name }) lawful.same_kind) at has
  route_told (object.GatewayRoute r) lawful at has =
      attached (object.GatewayRoute r) r refl (ap (λ (k : Kind). record { kind = k; ns = r.meta.ns; name = r.meta.name }) lawful.same_kind) at has
  route_told (object.Pod p) lawful at has = absent (has_own_addresses p) (map IpPod p.addrs) [] (no_pods p.addrs) refl has
  route_told (object.Service s) lawful at has = absent s.external [] (map IpService s.addrs) refl (no_services s.addrs) has
  route_told (object.EndpointSlice s) lawful at has = no_label s.meta.ns (service_of s) has
  route_told (object.AuthorizationPolicy a) lawful at has = absent (targets_own a) (PolicyOn a.meta.ns a.target.kind a.target.name ∷ []) [] refl refl has
  route_told _ lawful at has = absurd (cc has)

  -- ---- keys

  abbrev key_shown : Route → ObjKey
  key_shown route = key_of_row ns (bare_route route)

  its_key : (r : Route) → r.meta.ns ≡ ns → key_shown r ≡ route_key r
  its_key r here = ap (λ (own : List ℕ). record { kind = r.kind; ns = own; name = r.meta.name }) (sym here)

  module _ (at_keys : AtKeys held) (lawful : AreLawful held) where
    abbrev shown : List ObjKey
    shown = map key_shown (attached_routes held ns (is_server_parent name))

    found_shown : (key : ObjKey) (found : Option Object) → get held key ≡ found → is_marked wanted found ≡ true → Among key shown
    found_shown key None is has = absurd (cc has)
    found_shown key (Some o) is has =
        let own = at_keys key o is in
        let told = route_told o (lawful key o is) (ap (get held) own ∙ is) has in
        let r = told.0 in
        let at = among_from (attached_routes held ns (is_server_parent name)) r (((routes_are_in_order held at_keys lawful ns (is_server_parent name)).same r).1 told.2) in
        subst (λ k. Among k shown) (its_key r told.2.in_namespace ∙ told.1 ∙ own) (among_map key_shown (attached_routes held ns (is_server_parent name)) r at)

    -- the key of an object with the mark is that of a route that is attached
    pub marked_shown : (key : ObjKey) → Among key (keys_at held wanted) → Among key shown
    marked_shown key at = found_shown key (get held key) refl (((keys_by_mark held at_keys wanted).each key).0 (contained (keys_at held wanted) key at))

    has_its_parent : (r : Route) → IsAttached held ns (is_server_parent name) r → has_parent ns (is_server_parent name) r ≡ true
    has_its_parent r is =
        ap (λ b. b && list_any (is_server_parent name) r.parents) ((bytes_decides r.meta.ns ns).1 is.in_namespace)
        ∙ list_any-from_Any (is_server_parent name) r.parents (is.among_parents.0, is.parent, is.among_parents.1, is.among_parents.2, is.passes)

    has_the_mark : (r : Route) (is : IsAttached held ns (is_server_parent name) r) → is_marked wanted (get held (route_key r)) ≡ true
    has_the_mark r is =
        ap (is_marked wanted) is.at_key
        ∙ sym (or-false (has_mark (marks_of is.object) wanted))
        ∙ route_has ns parent.Server name (is_server_parent name) (only_server name) is.object r is.of_object (has_its_parent r is)

    -- and the other way round
    pub shown_marked : (key : ObjKey) → Among key shown → Among key (keys_at held wanted)
    shown_marked key at =
        let from = from_map key_shown (attached_routes held ns (is_server_parent name)) key at in
        let r = from.0 in
        let is = ((routes_are_in_order held at_keys lawful ns (is_server_parent name)).same r).0 (contained (attached_routes held ns (is_server_parent name)) r from.1) in
        subst (λ k. Among k (keys_at held wanted)) (sym (its_key r is.in_namespace) ∙ from.2)
        (among_from (keys_at held wanted) (route_key r) (((keys_by_mark held at_keys wanted).each (route_key r)).1 (has_the_mark r is)))
