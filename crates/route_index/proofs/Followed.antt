-- The routes that are kept of a Server, brought up to a change name by name.
use Rattle.std.proofs.Common.{◌≡◌, ℕ, ◌+◌, ◌<◌, ◌≤◌, Bool, true, false, cond, ◌||◌, not, List, [], ◌∷◌, get_or, length, drop, Option, Some, None, refl, sym, ap, subst, ◌∙◌, arith}
use Rattle.std.specs.Cmp.Lexicographic.{bytes_decides}
use Rattle.std.specs.FinMap.{get, get-retain_keys, values}
use Rattle.std.specs.List.{cons_option, count_by, filter, filter_map, list_any, sum_by}
use Rattle.std.specs.Option.{option_or}
use Rattle.std.specs.Ordering.{eq_by_cmp}
use Rattle.std.specs.Str.{bytes_eq}
use Rattle.std.proofs.lemmas.List.{drop_all, drop_more}
use Rattle.std.proofs.lemmas.List.Sums.{sum_by-cons}
use Rattle.mesh_base.proofs.KeyOrder.{keys_exact}
use Rattle.mesh_base.proofs.Keyed.{filtered, filtered_sorted}
use Rattle.mesh_base.specs.KeyOrder.{key_cmp}
use Rattle.mesh_base.specs.declared.key.Kind.{Kind}
use Rattle.mesh_base.specs.declared.key.Kind.TheVariants as kind
use Rattle.mesh_base.specs.declared.key.ObjKey.{ObjKey}
use Rattle.view_types.specs.Objects.{AtKeys, ObjectMap}
use Rattle.view_types.specs.declared.mark.Mark.{Mark}
use Rattle.view_types.specs.declared.mark.Mark.TheVariants.{Obj}
use Rattle.view_types.specs.declared.server_view.RouteRow.{RouteRow}
use Rattle.view_rules.proofs.Attached.{places_exact, route_order_is_total}
use Rattle.view_rules.proofs.Entries.{equal}
use Rattle.view_rules.specs.ByKey.{put_all}
use Rattle.view_rules.specs.Routes.{RoutePlace, route_cmp}
use Rattle.mark_rules.proofs.Counts.{one_if}
use Rattle.mark_rules.proofs.MarkedObjects.{held_stays}
use Rattle.mark_rules.proofs.MarkTests.{neither_first, neither_second}
use Rattle.mark_rules.specs.Changes.{Leads}
use Rattle.mark_rules.specs.Marks.{has_mark, same_mark}
use Rattle.mark_rules.specs.Rows.{server_routes}
use Rattle.mark_rules.specs.declared.keys.RouteKey.{RouteKey}
use Rattle.object_store.specs.Held.{key_with}
use Rattle.route_index.specs.Placed.{BringsUp, IsUp, Rise, by_place, is_route, keys_named, names, row_place, rows_among, rows_named}
use Rattle.route_index.proofs.InPlace.{all_at, same_rows}
use Rattle.route_index.proofs.Named.{among_rise, at_named, none_named}

-- ---- a name

or_none : {X : Type 0} (x : Option X) → option_or x None ≡ x
or_none None = refl
or_none (Some x) = refl

-- the routes of other names
abbrev pub others : List ℕ → List RouteRow → List RouteRow
others name rows = filter (λ row. not (bytes_eq name row.name)) rows

-- none is left out where none has the name
pub all_others : (name : List ℕ) (rows : List RouteRow) → list_any (λ row. bytes_eq name row.name) rows ≡ false → rows ≡ others name rows
all_others name [] none = refl
all_others name (row ∷ rows) none =
    let rest = list_any (λ (row : RouteRow). bytes_eq name row.name) rows in
    rw (neither_first (bytes_eq name row.name) rest none) (ap (λ rows. row ∷ rows) (all_others name rows (neither_second (bytes_eq name row.name) rest none)))

module _ (name : List ℕ) (old : List RouteRow) (rise : Rise old) where
  abbrev stays : RoutePlace → Bool
  stays place = not (bytes_eq name place.name)

  others_rise : Rise (others name old)
  others_rise = filtered_sorted route_order_is_total places_exact row_place (λ row. row) stays old rise

  others_at : (place : RoutePlace) → get (by_place (others name old)) place ≡ cond (stays place) (get (by_place old) place) None
  others_at place =
      ap (λ m. get m place) (filtered route_order_is_total places_exact row_place (λ row. row) stays old rise)
      ∙ get-retain_keys (by_place old) stays place (λ other tied. ap stays (sym (places_exact place other tied)))

module _ (held : ObjectMap) (own : AtKeys held) (key : RouteKey) where
  -- the routes of the name are put in the place of those that stood there
  pub name_up : (name : List ℕ) (old taken added new : List RouteRow) → taken ≡ others name old → added ≡ rows_named held key name
      → (Rise taken → by_place new ≡ put_all route_cmp row_place added (by_place taken)) → (Rise taken → Rise new) → BringsUp held key (bytes_eq name) old new
  name_up name old taken added new is found put rises = record {
    rise = λ rise. rises (subst Rise (sym is) (others_rise name old rise));
    up = λ rise place before.
        ap (λ m. get m place) (put (subst Rise (sym is) (others_rise name old rise)))
        ∙ (λ i. get (put_all route_cmp row_place (found i) (by_place (is i))) place)
        ∙ all_at route_order_is_total places_exact row_place (rows_named held key name) (among_rise key (filter_map (get held) (keys_named key.ns name))) (by_place (others name old)) place
        ∙ ap (option_or (get (by_place (rows_named held key name)) place)) (others_at name old rise place)
        ∙ elim (bytes_eq name place.name) as (λ b. bytes_eq name place.name ≡ b → option_or (get (by_place (rows_named held key name)) place) (cond (not b) (get (by_place old) place) None) ≡ get (by_place (server_routes held key)) place) [
          | true ↦ λ t. or_none _ ∙ ap (λ name. get (by_place (rows_named held key name)) place) ((bytes_decides name place.name).0 t) ∙ sym (at_named key place held own)
          | false ↦ λ t. ap (λ found. option_or found (get (by_place old) place)) (none_named key place held own name t) ∙ before t
        ] refl;
  }

module _ (held : ObjectMap) (key : RouteKey) where
  -- where no name passes, nothing has to be done
  pub none_up : (passes : List ℕ → Bool) (rows : List RouteRow) → ((name : List ℕ) → passes name ≡ false) → BringsUp held key passes rows rows
  none_up passes rows none = record { rise = λ rise. rise; up = λ rise place before. before (none place.name) }

  -- ---- one mark after the other

  module _ (changed : List Mark) where
    -- the places are up but those with the names of the marks that are left
    pub record AreUpBut (i : ℕ) (old now : List RouteRow) : Type 0 where
      pub rise : Rise old → Rise now
      pub up : Rise old → (place : RoutePlace) → (list_any (names key.ns place.name) changed ≡ false → IsUp held key old place)
          → list_any (names key.ns place.name) (drop i changed) ≡ false → IsUp held key now place

    pub none_less : (rows : List RouteRow) → AreUpBut 0 rows rows
    none_less rows = record { rise = λ rise. rise; up = λ rise place before rest. before rest }

    pub one_less : (i : ℕ) (mark : Mark) (old now new : List RouteRow) → i < length changed → mark ≡ get_or changed i mark → AreUpBut i old now → BringsUp held key (λ name. names key.ns name mark) now new → AreUpBut (i + 1) old new
    one_less i mark old now new lt at so_far step = record {
      rise = λ rise. step.rise (so_far.rise rise);
      up = λ rise place before rest. step.up (so_far.rise rise) place (λ lacks. so_far.up rise place before (
          ap (list_any (names key.ns place.name)) (drop_more changed i mark lt ∙ ap (λ x. x ∷ drop (i + 1) changed) (sym at))
          ∙ ap (λ b. b || list_any (names key.ns place.name) (drop (i + 1) changed)) lacks ∙ rest));
    }

    pub all_up : (i : ℕ) (old now : List RouteRow) → length changed ≤ i → AreUpBut i old now → BringsUp held key (λ name. list_any (names key.ns name) changed) old now
    all_up i old now le so_far = record { rise = so_far.rise; up = λ rise place before. so_far.up rise place before (ap (list_any (names key.ns place.name)) (drop_all i changed le)) }

-- ---- the names of a change

module _ (k : Kind) (route : is_route k ≡ true) (ns name : List ℕ) where
  own_mark : names ns name (Obj (key_with k ns name)) ≡ true
  own_mark = rw (route, (bytes_decides ns ns).1 refl, (bytes_decides name name).1 refl) refl

  lacks_mark : (mark : Mark) → names ns name mark ≡ false → same_mark (Obj (key_with k ns name)) mark ≡ false
  lacks_mark (Obj other) lacks =
      elim (eq_by_cmp key_cmp (key_with k ns name) other) as (λ b. eq_by_cmp key_cmp (key_with k ns name) other ≡ b → b ≡ false) [
        | true ↦ λ t. absurd (
            let no : true ≡ false = sym own_mark ∙ ap (λ k. names ns name (Obj k)) (keys_exact (key_with k ns name) other (equal _ t)) ∙ lacks in
            cc no)
        | false ↦ λ t. refl
      ] refl
  lacks_mark _ lacks = refl

  -- no mark is the key of the route where none has the name
  lacks_key : (marks : List Mark) → list_any (names ns name) marks ≡ false → has_mark marks (Obj (key_with k ns name)) ≡ false
  lacks_key [] lacks = refl
  lacks_key (mark ∷ marks) lacks = rw (lacks_mark mark (neither_first _ _ lacks)) (lacks_key marks (neither_second _ _ lacks))

module _ {changed : List Mark} {before after : ObjectMap} (leads : Leads changed before after) (key : RouteKey) where
  -- a name that isn't of the change has the same routes after it
  module _ (place : RoutePlace) (lacks : list_any (names key.ns place.name) changed ≡ false) where
    same_objects : filter_map (get before) (keys_named key.ns place.name) ≡ filter_map (get after) (keys_named key.ns place.name)
    same_objects = λ i.
        cons_option (held_stays leads (key_with kind.LinkerdRoute key.ns place.name) (lacks_key kind.LinkerdRoute refl key.ns place.name changed lacks) i)
        (cons_option (held_stays leads (key_with kind.GatewayRoute key.ns place.name) (lacks_key kind.GatewayRoute refl key.ns place.name changed lacks) i) [])

    place_stays : get (by_place (server_routes before key)) place ≡ get (by_place (server_routes after key)) place
    place_stays =
        at_named key place before leads.at_keys
        ∙ ap (λ objects. get (by_place (rows_among key objects)) place) same_objects
        ∙ sym (at_named key place after leads.keys_kept)

  pub followed : (old new : List RouteRow) → old ≡ server_routes before key → BringsUp after key (λ name. list_any (names key.ns name) changed) old new → new ≡ server_routes after key
  followed old new is brought =
      let rise = subst Rise (sym is) (among_rise key (values before)) in
      same_rows route_order_is_total places_exact row_place new (server_routes after key) (brought.rise rise) (among_rise key (values after))
      (λ place. brought.up rise place (λ lacks. ap (λ rows. get (by_place rows) place) is ∙ place_stays place lacks))

-- ---- marks

-- a mark that isn't of an object is no name's
pub no_name : (mark : Mark) → ((key : ObjKey) → mark ≡ Obj key → ⊥) → (ns name : List ℕ) → names ns name mark ≡ false
no_name (Obj key) apart ns name = absurd (apart key refl)
no_name _ apart ns name = refl

-- ---- steps

abbrev pub two_if : Bool → ℕ
two_if there = cond there 2 0

-- two for each that passes
pub twice : {A : Type 0} (p : A → Bool) (xs : List A) → sum_by (λ x. two_if (p x)) xs ≡ count_by p xs + count_by p xs
twice p [] = refl
twice p (x ∷ xs) =
    let two = sum_by-cons (λ x. two_if (p x)) x xs in
    let one = sum_by-cons (λ x. one_if (p x)) x xs in
    let rest = twice p xs in
    elim (p x) as (λ b. p x ≡ b → sum_by (λ x. two_if (p x)) (x ∷ xs) ≡ count_by p (x ∷ xs) + count_by p (x ∷ xs)) [
      | true ↦ λ t. let e = ap two_if t in let f = ap one_if t in omega (arith, two, one, rest, e, f)
      | false ↦ λ t. let e = ap two_if t in let f = ap one_if t in omega (arith, two, one, rest, e, f)
    ] refl
