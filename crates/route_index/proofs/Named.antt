-- What stands at a place among the routes of a Server is what stands there among those of the place's name.
use Rattle.std.proofs.Common.{◌≡◌, ◌⊎◌, inl, inr, ℕ, Bool, true, false, cond, ◌&&◌, List, [], ◌∷◌, map, Option, Some, None, refl, sym, ap, ◌∙◌}
use Rattle.std.specs.Cmp.{tied_itself}
use Rattle.std.specs.Cmp.Lexicographic.{bytes_decides}
use Rattle.std.specs.FinMap.{find, get, values}
use Rattle.std.specs.List.{cons_option, filter, filter_map}
use Rattle.std.specs.Option.{option_and_then}
use Rattle.std.specs.Ordering.{eq_by_cmp, is_eq}
use Rattle.std.specs.Str.{bytes_eq}
use Rattle.std.proofs.lemmas.Bool.{and_parts}
use Rattle.mesh_base.proofs.KeyOrder.{keys_exact, keys_total}
use Rattle.mesh_base.specs.Keyed.{keyed}
use Rattle.mesh_base.specs.KeyOrder.{key_cmp}
use Rattle.mesh_base.specs.declared.key.Kind.{Kind}
use Rattle.mesh_base.specs.declared.key.Kind.TheVariants as kind
use Rattle.mesh_base.specs.declared.key.ObjKey.{ObjKey}
use Rattle.view_types.specs.Objects.{AtKeys, ObjectMap, key_of}
use Rattle.view_types.specs.declared.object.Object.{Object}
use Rattle.view_types.specs.declared.object.Object.TheVariants as object
use Rattle.view_types.specs.declared.route.Route.{Route}
use Rattle.view_types.specs.declared.server_view.RouteRow.{RouteRow}
use Rattle.view_rules.proofs.Attached.{places_exact, route_order_is_total}
use Rattle.view_rules.proofs.Entries.{equal}
use Rattle.view_rules.specs.Routes.{RoutePlace, as_route, has_parent, is_server_parent, place_of, route_cmp}
use Rattle.mark_rules.specs.Rows.{bare_route, server_routes}
use Rattle.mark_rules.specs.declared.keys.RouteKey.{RouteKey}
use Rattle.object_store.specs.Held.{key_with}
use Rattle.route_index.specs.Placed.{Rise, by_place, keys_named, row_place, rows_among, rows_named}
use Rattle.route_index.proofs.InPlace.{shown_at, shown_rise}
use Rattle.route_index.proofs.Twos.{found_at_two}

both_true : {X : Type 0} (a b : Bool) (x y : X) → cond (a && b) (Some x) None ≡ Some y → (a ≡ true) × (b ≡ true)
both_true true true x y e = (refl, refl)
both_true true false x y e = absurd (cc e)
both_true false b x y e = absurd (cc e)

module _ (key : RouteKey) where
  abbrev passes : Route → Bool
  passes = has_parent key.ns (is_server_parent key.server)

  pub among_rise : (objects : List Object) → Rise (rows_among key objects)
  among_rise objects = shown_rise route_cmp bare_route row_place route_order_is_total places_exact (filter passes (filter_map as_route objects))

  module _ (place : RoutePlace) where
    abbrev is_here : Route → Bool
    is_here route = eq_by_cmp route_cmp place (place_of route)

    -- what is shown of a route that stands at the place
    abbrev hit : Route → Option RouteRow
    hit route = cond (passes route && is_here route) (Some (bare_route route)) None

    abbrev hit_in : Object → Option RouteRow
    hit_in o = option_and_then hit (as_route o)

    abbrev first : List RouteRow → Option RouteRow
    first [] = None
    first (row ∷ rows) = Some row

    abbrev found : List Route → Option RouteRow
    found routes = find route_cmp place (keyed route_cmp row_place (λ row. row) (map bare_route (filter passes routes)))

    one_more : (route : Option Route) (routes : List Route) (hits : List RouteRow) → found routes ≡ first hits → found (cons_option route routes) ≡ first (cons_option (option_and_then hit route) hits)
    one_more None routes hits e = e
    one_more (Some route) routes hits e =
        elim (passes route) as (λ b. find route_cmp place (keyed route_cmp row_place (λ row. row) (map bare_route (cond b (route ∷ filter passes routes) (filter passes routes))))
        ≡ first (cons_option (cond (b && is_here route) (Some (bare_route route)) None) hits)) [
          | true ↦ elim (is_here route) as (λ b. cond b (Some (bare_route route)) (found routes) ≡ first (cons_option (cond b (Some (bare_route route)) None) hits)) [ true ↦ refl | false ↦ e ]
          | false ↦ e
        ]

    is_first : (objects : List Object) → found (filter_map as_route objects) ≡ first (filter_map hit_in objects)
    is_first [] = refl
    is_first (o ∷ os) = one_more (as_route o) (filter_map as_route os) (filter_map hit_in os) (is_first os)

    at_place : (objects : List Object) → get (by_place (rows_among key objects)) place ≡ first (filter_map hit_in objects)
    at_place objects = shown_at route_cmp bare_route row_place route_order_is_total places_exact (filter passes (filter_map as_route objects)) place ∙ is_first objects

    -- it has the name of the place
    told : (route : Route) (row : RouteRow) → hit route ≡ Some row → (route.meta.ns ≡ key.ns) × (route.meta.name ≡ place.name)
    told route row is =
        let both = both_true (passes route) (is_here route) (bare_route route) row is in
        ((bytes_decides route.meta.ns key.ns).0 (and_parts _ _ both.0).0, sym (ap (λ (p : RoutePlace). p.name) (places_exact place (place_of route) (equal _ both.1))))

    told_key : (o : Object) (row : RouteRow) → hit_in o ≡ Some row → (key_of o ≡ key_with kind.LinkerdRoute key.ns place.name) ⊎ (key_of o ≡ key_with kind.GatewayRoute key.ns place.name)
    told_key (object.LinkerdRoute route) row is = let same = told route row is in inl (λ i. record { kind = kind.LinkerdRoute; ns = same.0 i; name = same.1 i })
    told_key (object.GatewayRoute route) row is = let same = told route row is in inr (λ i. record { kind = kind.GatewayRoute; ns = same.0 i; name = same.1 i })
    told_key _ row is = absurd (cc is)

    no_hit : (o : Object) → (key_of o ≡ key_with kind.LinkerdRoute key.ns place.name → ⊥) → (key_of o ≡ key_with kind.GatewayRoute key.ns place.name → ⊥) → hit_in o ≡ None
    no_hit o linkerd gateway =
        elim (hit_in o) as (λ h. hit_in o ≡ h → h ≡ None) [
          | None ↦ λ t. refl
          | Some row ↦ λ t. elim (told_key o row t) [ inl is ↦ absurd (linkerd is) | inr is ↦ absurd (gateway is) ]
        ] refl

    module _ (held : ObjectMap) (own : AtKeys held) where
      other_key : (k q : ObjKey) (o : Object) → get held q ≡ Some o → eq_by_cmp key_cmp q k ≡ false → key_of o ≡ k → ⊥
      other_key k q o is apart same =
          let no : false ≡ true = sym apart ∙ ap (λ q. eq_by_cmp key_cmp q k) (sym (own q o is) ∙ same) ∙ ap is_eq (tied_itself keys_total k) in
          cc no

      -- the routes of the place's name tell what stands there
      pub at_named : get (by_place (server_routes held key)) place ≡ get (by_place (rows_named held key place.name)) place
      at_named =
          at_place (values held)
          ∙ ap first (found_at_two keys_total keys_exact held (key_with kind.LinkerdRoute key.ns place.name) (key_with kind.GatewayRoute key.ns place.name) refl hit_in
          (λ q o is linkerd gateway. no_hit o (other_key _ q o is linkerd) (other_key _ q o is gateway)))
          ∙ sym (at_place (filter_map (get held) (keys_named key.ns place.name)))

      -- and those of another name stand at other places
      module _ (name : List ℕ) (apart : bytes_eq name place.name ≡ false) where
        other_name : (k other : Kind) (o : Object) → get held (key_with k key.ns name) ≡ Some o → key_of o ≡ key_with other key.ns place.name → ⊥
        other_name k other o is same =
            let no : false ≡ true = sym apart ∙ (bytes_decides name place.name).1 (ap (λ (k : ObjKey). k.name) (sym (own (key_with k key.ns name) o is) ∙ same)) in
            cc no

        passed : (k : Kind) (o : Option Object) → get held (key_with k key.ns name) ≡ o → option_and_then hit_in o ≡ None
        passed k None is = refl
        passed k (Some o) is = no_hit o (other_name k kind.LinkerdRoute o is) (other_name k kind.GatewayRoute o is)

        skipped : (o : Option Object) (os : List Object) → option_and_then hit_in o ≡ None → filter_map hit_in (cons_option o os) ≡ filter_map hit_in os
        skipped None os none = refl
        skipped (Some o) os none = ap (λ h. cons_option h (filter_map hit_in os)) none

        pub none_named : get (by_place (rows_named held key name)) place ≡ None
        none_named =
            at_place (filter_map (get held) (keys_named key.ns name))
            ∙ ap first (skipped (get held (key_with kind.LinkerdRoute key.ns name)) _ (passed kind.LinkerdRoute _ refl) ∙ skipped (get held (key_with kind.GatewayRoute key.ns name)) [] (passed kind.GatewayRoute _ refl))
