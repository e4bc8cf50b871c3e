-- What is found in objects that are held rises by its places, where those rise as the objects' keys do.
use Rattle.std.proofs.Common.{◌≡◌, List, [], ◌∷◌, map, Option, Some, None, inl, inr, refl, sym, subst, ◌∙◌}
use lib.Dec.{T}
use Rattle.std.specs.List.{AllByRecursion, cons_option, filter_map}
use Rattle.std.specs.List.Sorted.{IsStrictlySortedBy}
use Rattle.std.specs.FinMap.{entries, entries_sorted, get, get-entries, is_sorted, values}
use Rattle.std.specs.FinMap.Entries.{below_all}
use Rattle.std.specs.declared.cmp.Ordering.{Ordering}
use Rattle.std.specs.declared.cmp.Ordering.TheVariants.{Less}
use Rattle.mesh_base.proofs.KeyOrder.{keys_total}
use Rattle.mesh_base.specs.KeyOrder.{key_cmp}
use Rattle.mesh_base.specs.declared.key.ObjKey.{ObjKey}
use Rattle.view_types.specs.Objects.{AtKeys, ObjectMap, key_of}
use Rattle.view_types.specs.declared.object.Object.{Object}
use Rattle.view_rules.proofs.Among.{Among}
use Rattle.view_rules.proofs.Entries.{first, found_entry, less, second}

abbrev pub Entry : Type 0
Entry = ObjKey × Object

-- each object stands at its own key
abbrev pub Fits : List Entry → Type 0
Fits es = AllByRecursion (λ (e : Entry). key_of e.1 ≡ e.0) es

pub entries_fit : (held : ObjectMap) → AtKeys held → (es : List Entry) → ((e : Entry) → Among e es → Among e (entries held)) → Fits es
entries_fit held at_keys [] part = tt
entries_fit held at_keys (e ∷ es) part =
    let found : get held e.0 ≡ Some e.1 = get-entries held e.0 ∙ found_entry keys_total (entries held) e (entries_sorted held) (part e (inl refl)) in
    (at_keys e.0 e.1 found, entries_fit held at_keys es (λ f at. part f (inr at)))

abbrev objects_in : List Entry → List Object
objects_in es = map (λ (e : Entry). e.1) es

module _ {X P : Type 0} (R : P → P → Ordering) (h : Object → Option X) (place : X → P)
    (level : (o p : Object) (x y : X) → h o ≡ Some x → h p ≡ Some y → key_cmp (key_of o) (key_of p) ≡ R (place x) (place y)) where
  places : List Entry → List P
  places es = map place (filter_map h (objects_in es))

  places_below : (o : Object) (x : X) → h o ≡ Some x → (es : List Entry) → T (below_all key_cmp (key_of o) es) → Fits es → AllByRecursion (λ p. R (place x) p ≡ Less) (places es)
  unfolding places
  places_below o x is [] below fits = tt
  places_below o x is (e ∷ es) below fits =
      let rest = places_below o x is es (second _ _ below) fits.1 in
      elim (h e.1) as (λ found. h e.1 ≡ found → AllByRecursion (λ p. R (place x) p ≡ Less) (map place (cons_option found (filter_map h (objects_in es))))) [
        | Some y ↦ λ at. (sym (level o e.1 x y is at) ∙ subst (λ k. key_cmp (key_of o) k ≡ Less) (sym fits.0) (less _ (first _ _ below)), rest)
        | None ↦ λ at. rest
      ] refl

  places_rise : (es : List Entry) → T (is_sorted key_cmp es) → Fits es → IsStrictlySortedBy R (places es)
  unfolding places IsStrictlySortedBy
  places_rise [] sorted fits = tt
  places_rise (e ∷ es) sorted fits =
      let rest = places_rise es (second _ _ sorted) fits.1 in
      elim (h e.1) as (λ found. h e.1 ≡ found → IsStrictlySortedBy R (map place (cons_option found (filter_map h (objects_in es))))) [
        | Some x ↦ λ is. (places_below e.1 x is es (subst (λ k. T (below_all key_cmp k es)) (sym fits.0) (first _ _ sorted)) fits.1, rest)
        | None ↦ λ is. rest
      ] refl

  pub found_in_order : (held : ObjectMap) → AtKeys held → IsStrictlySortedBy R (map place (filter_map h (values held)))
  unfolding places
  found_in_order held at_keys = places_rise (entries held) (entries_sorted held) (entries_fit held at_keys (entries held) (λ e at. at))
