-- In a namespace the order of keys is that of the kinds and names of authorizations.
use Rattle.std.proofs.Common.{◌≡◌, ℕ, Bool, true, ◌||◌, List, [], ◌∷◌, map, Some, Ordering, inl, inr, refl, sym, ap, ◌∙◌}
use lib.Dec.{T}
use Rattle.std.specs.Cmp.{tied_itself}
use Rattle.std.specs.Cmp.Lexicographic.{nat_list_cmp_total, slice_cmp}
use Rattle.std.specs.FinMap.{entries, entries_sorted, get, get-entries, is_sorted, values}
use Rattle.std.specs.FinMap.Entries.{below_all}
use Rattle.std.specs.List.{AllByRecursion, find}
use Rattle.std.specs.Option.{option_map}
use Rattle.std.specs.Ordering.{nat_cmp, ordering_then}
use Rattle.std.specs.declared.cmp.Ordering.TheVariants.{Less, Equal, Greater}
use Rattle.mesh_base.proofs.KeyOrder.{keys_total}
use Rattle.mesh_base.specs.KeyOrder.{key_cmp}
use Rattle.mesh_base.specs.declared.key.ObjKey.{ObjKey}
use Rattle.view_types.specs.Objects.{AtKeys, ObjectMap, key_of, kind_of, meta_of}
use Rattle.view_types.specs.declared.object.Object.{Object}
use Rattle.view_types.specs.declared.object.Object.TheVariants as object
use Rattle.view_rules.specs.AuthzOrder.{AuthzKey, authz_cmp}
use Rattle.view_rules.proofs.AuthzKeys.{authz_total}
use Rattle.view_rules.proofs.Among.{Among}
use Rattle.view_rules.proofs.Entries.{first, found_entry, less, second}
use Rattle.request_rules.specs.Verdicts.{authz_kind_of}
use Rattle.request_sim.proofs.TwoLists.{AreAbove, Rises, first_of_two, lesser_of}

-- the kind and name of an object
abbrev pub place_of : Object → AuthzKey
place_of o = (authz_kind_of (kind_of o), (meta_of o).name)

abbrev pub IsAuthz : Object → Type 0
IsAuthz (object.ServerAuthorization authorization) = Unit {0}
IsAuthz (object.AuthorizationPolicy policy) = Unit {0}
IsAuthz _ = ⊥

then_tied : (n m : Ordering) → n ≡ Equal → ordering_then n m ≡ Less → m ≡ Less
then_tied Less m tied e = absurd (cc tied)
then_tied Equal m tied e = e
then_tied Greater m tied e = absurd (cc tied)

same_tied : (a b : List ℕ) → a ≡ b → slice_cmp nat_cmp a b ≡ Equal
same_tied a b same = ap (slice_cmp nat_cmp a) (sym same) ∙ tied_itself nat_list_cmp_total a

in_place : (x y : Object) → IsAuthz x → IsAuthz y → (meta_of x).ns ≡ (meta_of y).ns → key_cmp (key_of x) (key_of y) ≡ Less → authz_cmp (place_of x) (place_of y) ≡ Less
in_place (object.ServerAuthorization a) (object.ServerAuthorization b) is is' here below = then_tied _ _ (same_tied a.meta.ns b.meta.ns here) below
in_place (object.ServerAuthorization a) (object.AuthorizationPolicy b) is is' here below = refl
in_place (object.ServerAuthorization a) _ is is' here below = absurd is'
in_place (object.AuthorizationPolicy a) (object.ServerAuthorization b) is is' here below = absurd (cc below)
in_place (object.AuthorizationPolicy a) (object.AuthorizationPolicy b) is is' here below = then_tied _ _ (same_tied a.meta.ns b.meta.ns here) below
in_place (object.AuthorizationPolicy a) _ is is' here below = absurd is'
in_place _ y is is' here below = absurd is

-- ---- the objects of a map

abbrev Entry : Type 0
Entry = ObjKey × Object

abbrev objects_in : List Entry → List Object
objects_in es = map (λ (e : Entry). e.1) es

-- each object stands at its own key
abbrev Fits : List Entry → Type 0
Fits es = AllByRecursion (λ (e : Entry). key_of e.1 ≡ e.0) es

entries_fit : (held : ObjectMap) → AtKeys held → (es : List Entry) → ((e : Entry) → Among e es → Among e (entries held)) → Fits es
entries_fit held at_keys [] part = tt
entries_fit held at_keys (e ∷ es) part =
    let found : get held e.0 ≡ Some e.1 = get-entries held e.0 ∙ found_entry keys_total (entries held) e (entries_sorted held) (part e (inl refl)) in
    (at_keys e.0 e.1 found, entries_fit held at_keys es (λ f at. part f (inr at)))

module _ (ns : List ℕ) (g h : Object → Bool) (within : (o : Object) → (g o || h o) ≡ true → IsAuthz o × ((meta_of o).ns ≡ ns)) where
  all_above : (k : ObjKey) (x : Object) → key_of x ≡ k → IsAuthz x → (meta_of x).ns ≡ ns → (es : List Entry) → T (below_all key_cmp k es) → Fits es
      → AreAbove authz_total place_of g h (place_of x) (objects_in es)
  all_above k x at is here [] below fits = tt
  all_above k x at is here (e ∷ es) below fits = (
    λ passes.
        let other = within e.1 passes in
        in_place x e.1 is other.0 (here ∙ sym other.1) ((λ i. key_cmp (at i) (fits.0 i)) ∙ less _ (first _ _ below)),
    all_above k x at is here es (second _ _ below) fits.1,
  )

  rises : (es : List Entry) → T (is_sorted key_cmp es) → Fits es → Rises authz_total place_of g h (objects_in es)
  rises [] sorted fits = tt
  rises (e ∷ es) sorted fits = (
    λ passes. let one = within e.1 passes in all_above e.0 e.1 fits.0 one.0 one.1 es (first _ _ sorted) fits.1,
    rises es (second _ _ sorted) fits.1,
  )

  -- of the first that passes each test, the lesser is the first that passes either
  pub first_of_either : (held : ObjectMap) → AtKeys held
      → lesser_of authz_cmp (option_map place_of (find g (values held))) (option_map place_of (find h (values held))) ≡ option_map place_of (find (λ o. g o || h o) (values held))
  first_of_either held at_keys =
      first_of_two authz_total place_of g h (values held) (rises (entries held) (entries_sorted held) (entries_fit held at_keys (entries held) (λ e at. at)))
