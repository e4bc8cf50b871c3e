-- The first object that passes a test, of those held, is the one with the least key.
use Rattle.std.proofs.Common.{◌≡◌, ◌≢◌, Bool, true, false, cond, List, [], ◌∷◌, map, Option, Some, None, inl, inr, refl, sym, ap, subst, ◌∙◌}
use lib.Dec.{T}
use Rattle.std.specs.Cmp.{tied_itself}
use Rattle.std.specs.FinMap.{entries, entries_sorted, get, is_sorted, values}
use Rattle.std.specs.List.{find}
use Rattle.std.specs.declared.cmp.Ordering.{Ordering}
use Rattle.std.specs.declared.cmp.Ordering.TheVariants.{Less, Greater}
use Rattle.k8s_meta.specs.declared.meta.Meta.{Meta}
use Rattle.mesh_base.proofs.KeyOrder.{keys_total}
use Rattle.mesh_base.specs.KeyOrder.{key_cmp}
use Rattle.view_types.specs.Objects.{AtKeys, ObjectMap, key_of}
use Rattle.view_types.specs.declared.object.Object.{Object}
use Rattle.view_rules.specs.Laws.{FindsLeast, IsLeastOf, name_cmp}
use Rattle.view_rules.proofs.Among.{Among}
use Rattle.view_rules.proofs.Entries.{below_at, entry_at, first, held_somewhere, second, stands}
use Rattle.view_rules.proofs.Firsts.{passes}
use Rattle.view_rules.proofs.FoundInOrder.{Entry, Fits, entries_fit}

fits_at : (es : List Entry) (e : Entry) → Fits es → Among e es → key_of e.1 ≡ e.0
fits_at [] e fits at = absurd at
fits_at (f ∷ fs) e fits at = elim at [ inl is ↦ subst (λ (e : Entry). key_of e.1 ≡ e.0) is fits.0 | inr rest ↦ fits_at fs e fits.1 rest ]

not_greater : (r : Ordering) → r ≡ Less → r ≢ Greater
not_greater r e g = cc

-- an object that is held and passes, and none that does comes before it
pub record IsFirstHeld (p : Object → Bool) (held : ObjectMap) (o : Object) : Type 0 where
  pub at_key : get held (key_of o) ≡ Some o
  pub passes : p o ≡ true
  pub least : (other : Object) → get held (key_of other) ≡ Some other → p other ≡ true → key_cmp (key_of o) (key_of other) ≢ Greater

-- the first that passes is among them and passes
pub first_passes : {X : Type 0} (p : X → Bool) (xs : List X) (x : X) → find p xs ≡ Some x → (p x ≡ true) × Among x xs
first_passes p [] x e = absurd (cc e)
first_passes p (y ∷ ys) x e =
    elim (p y) as (λ b. p y ≡ b → cond b (Some y) (find p ys) ≡ Some x → (p x ≡ true) × Among x (y ∷ ys)) [
      | true ↦ λ t e. let is : y ≡ x = cc e in (ap p (sym is) ∙ t, inl is)
      | false ↦ λ t e. let rest = first_passes p ys x e in (rest.0, inr rest.1)
    ] refl e

module _ (p : Object → Bool) where
  first_least : (es : List Entry) (o : Object) → T (is_sorted key_cmp es) → Fits es → find p (map (λ (e : Entry). e.1) es) ≡ Some o
      → (e : Entry) → Among e es → p e.1 ≡ true → key_cmp (key_of o) (key_of e.1) ≢ Greater
  first_least [] o sorted fits found e at is = absurd at
  first_least (f ∷ fs) o sorted fits found e at is =
      elim (p f.1) as (λ b. p f.1 ≡ b → cond b (Some f.1) (find p (map (λ (e : Entry). e.1) fs)) ≡ Some o → key_cmp (key_of o) (key_of e.1) ≢ Greater) [
        | true ↦ λ t found.
            let here : f.1 ≡ o = cc found in
            subst (λ o. key_cmp (key_of o) (key_of e.1) ≢ Greater) here (elim at [
              | inl same ↦ subst (λ (e : Entry). key_cmp (key_of f.1) (key_of e.1) ≢ Greater) same (λ g. let no = sym (tied_itself keys_total (key_of f.1)) ∙ g in cc)
              | inr rest ↦
                  let below : key_cmp f.0 e.0 ≡ Less = below_at keys_total f.0 fs e (first _ _ sorted) rest in
                  not_greater _ ((λ i. key_cmp (fits.0 i) (fits_at fs e fits.1 rest i)) ∙ below)
            ])
        | false ↦ λ t found. elim at [
          | inl same ↦ absurd (let no : false ≡ true = sym t ∙ ap (λ (e : Entry). p e.1) same ∙ is in cc no)
          | inr rest ↦ first_least fs o (second _ _ sorted) fits.1 found e rest is
        ]
      ] refl found

  module _ (held : ObjectMap) (at_keys : AtKeys held) where
    pub first_passing : (o : Object) → find p (values held) ≡ Some o → IsFirstHeld p held o
    first_passing o found =
        let first = first_passes p (values held) o found in
        let somewhere = held_somewhere keys_total held o first.1 in
        record {
          at_key = ap (get held) (at_keys somewhere.0 o somewhere.1) ∙ somewhere.1;
          passes = first.0;
          least = λ other at is.
              let e = entry_at keys_total held (key_of other) other at in
              subst (λ other. key_cmp (key_of o) (key_of other) ≢ Greater) e.2
              (first_least (entries held) o (entries_sorted held) (entries_fit held at_keys (entries held) (λ e at. at)) found e.0 e.1 (ap p e.2 ∙ is));
        }

    pub none_passing : find p (values held) ≡ None → (o : Object) → get held (key_of o) ≡ Some o → p o ≡ true → ⊥
    none_passing none o at is = passes p (λ (o : Object). o ∷ []) (values held) o (stands keys_total held (key_of o) o at) is none

    -- what such an object holds, where the test passes for those of one kind alone
    module _ {X : Type 0} (meta : X → Meta) (Is : X → Type 0) (make : X → Object) (as' : Option Object → Option X) (as_none : as' None ≡ None) (as_made : (x : X) → as' (Some (make x)) ≡ Some x)
        (level : (x y : X) → key_cmp (key_of (make x)) (key_of (make y)) ≡ name_cmp (meta x) (meta y))
        (told : (x : X) → Is x → (p (make x) ≡ true) × (get held (key_of (make x)) ≡ Some (make x)))
        (tells : (o : Object) → p o ≡ true → get held (key_of o) ≡ Some o → (x : X) × (make x ≡ o) × Is x) where
      is_least : (x : X) (o : Object) → find p (values held) ≡ Some o → as' (Some o) ≡ Some x → IsLeastOf meta Is x
      is_least x o found e =
          let first = first_passing o found in
          let y = tells o first.passes first.at_key in
          let same : y.0 ≡ x = cc (as_made y.0, ap (λ o. as' (Some o)) y.1, e) in
          subst (IsLeastOf meta Is) same (record {
            is = y.2;
            least = λ other is. subst (λ r. r ≢ Greater) (level y.0 other) (subst (λ o. key_cmp (key_of o) (key_of (make other)) ≢ Greater) (sym y.1) (first.least (make other) (told other is).1 (told other is).0));
          })

      is_found : (o : Object) → find p (values held) ≡ Some o → as' (Some o) ≡ None → ⊥
      is_found o found e =
          let first = first_passing o found in
          let y = tells o first.passes first.at_key in
          let no : Some y.0 ≡ None = sym (as_made y.0) ∙ ap (λ o. as' (Some o)) y.1 ∙ e in
          cc no

      pub finds_least : FindsLeast meta Is (as' (find p (values held)))
      finds_least = record {
        some = λ x. elim (find p (values held)) as (λ f. find p (values held) ≡ f → as' f ≡ Some x → IsLeastOf meta Is x) [
          | None ↦ λ t e. absurd (let no : None ≡ Some x = sym as_none ∙ e in cc no)
          | Some o ↦ λ t e. is_least x o t e
        ] refl;
        none = elim (find p (values held)) as (λ f. find p (values held) ≡ f → as' f ≡ None → (x : X) → Is x → ⊥) [
          | None ↦ λ t e x is. none_passing t (make x) (told x is).1 (told x is).0
          | Some o ↦ λ t e. absurd (is_found o t e)
        ] refl;
      }
