-- A list of a kind leads from the old objects to the new ones.
use Rattle.std.proofs.Common.{◌≡◌, ◌⊎◌, inl, inr, Bool, true, false, cond, List, [], ◌∷◌, ◌++◌, Some, Option, refl, sym, ap, subst, ◌∙◌}
use Rattle.std.specs.FinMap.{get, insert, remove, values}
use Rattle.std.specs.List.{flat_map}
use Rattle.std.proofs.lemmas.List.Concat.{flat_map-append}
use Rattle.std.specs.Option.{option_to_list}
use Rattle.std.specs.Ordering.{eq_by_cmp}
use Rattle.mesh_base.proofs.KeyOrder.{keys_exact, keys_total}
use Rattle.mesh_base.specs.KeyOrder.{key_cmp}
use Rattle.mesh_base.specs.declared.key.Kind.{Kind}
use Rattle.mesh_base.specs.declared.key.ObjKey.{ObjKey}
use Rattle.view_types.specs.Objects.{AtKeys, IsListOf, ObjectMap, key_of}
use Rattle.view_types.specs.declared.object.Object.{Object}
use Rattle.view_rules.proofs.Among.{Among, among_kept}
use Rattle.view_rules.proofs.Entries.{equal, stands}
use Rattle.view_types.specs.declared.mark.Mark.{Mark}
use Rattle.mark_rules.specs.Changes.{Covers, Leads}
use Rattle.mark_rules.specs.Marks.{each_once, marks_of, marks_of_all}
use Rattle.mark_rules.proofs.EachOnce.{all_are_covered}
use Rattle.mark_rules.proofs.ChangeLeads.{IsOneOf, leads_from, put_leads, taken_leads}
use Rattle.object_store.specs.Changes.{Takes}
use Rattle.object_store.specs.declared.change.Change.{Change}
use Rattle.object_store.specs.Relisted.{RelistLeads, is_of, item_at, of_kind, relisted}
use Rattle.object_store.proofs.PutAll.{relisted_by_key}

among_left : {X : Type 0} (xs ys : List X) (x : X) → Among x xs → Among x (xs ++ ys)
among_left [] ys x at = absurd at
among_left (z ∷ zs) ys x at = elim at [ inl e ↦ inl e | inr rest ↦ inr (among_left zs ys x rest) ]

among_right : {X : Type 0} (xs ys : List X) (x : X) → Among x ys → Among x (xs ++ ys)
among_right [] ys x at = at
among_right (z ∷ zs) ys x at = inr (among_right zs ys x at)

-- the item with a key has it, and is one of the items
item_is : (key : ObjKey) (items : List Object) (o : Object) → item_at key items ≡ Some o → (key_of o ≡ key) × Among o items
item_is key [] o is = absurd (cc is)
item_is key (x ∷ xs) o is =
    elim (eq_by_cmp key_cmp key (key_of x)) as (λ b. eq_by_cmp key_cmp key (key_of x) ≡ b → cond b (Some x) (item_at key xs) ≡ Some o → (key_of o ≡ key) × Among o (x ∷ xs)) [
      | true ↦ λ t is. let same : x ≡ o = cc is in (ap key_of (sym same) ∙ sym (keys_exact key (key_of x) (equal _ t)), inl same)
      | false ↦ λ t is. let rest = item_is key xs o is in (rest.0, inr rest.1)
    ] refl is

-- an object of the kind that is held is one of those of the kind
kind_listed : (held : ObjectMap) → AtKeys held → (kind : Kind) (key : ObjKey) → is_of kind key ≡ true → IsOneOf (of_kind kind held) (get held key)
kind_listed held own kind key of o is = among_kept (λ o. is_of kind (key_of o)) (values held) o (stands keys_total held key o is) (ap (is_of kind) (own key o is) ∙ of)

module _ (held : ObjectMap) (own : AtKeys held) (kind : Kind) (items : List Object) (list : IsListOf kind items) where
  abbrev after : ObjectMap
  after = relisted held kind items

  abbrev new_and_old : List Object
  new_and_old = of_kind kind after ++ of_kind kind held

  listed_own : (key : ObjKey) (o : Object) (b : Bool) → cond b (item_at key items) (get held key) ≡ Some o → key_of o ≡ key
  listed_own key o true is = (item_is key items o is).0
  listed_own key o false is = own key o is

  listed_at_keys : AtKeys after
  listed_at_keys key o is = listed_own key o (is_of kind key) (sym (relisted_by_key held kind items list key) ∙ is)

  listed_at : (key : ObjKey) (b : Bool) → is_of kind key ≡ b → get after key ≡ cond b (item_at key items) (get held key)
      → (get held key ≡ get after key) ⊎ (IsOneOf new_and_old (get held key) × IsOneOf new_and_old (get after key))
  listed_at key false of is = inl (sym is)
  listed_at key true of is = inr (
    λ o at. among_right (of_kind kind after) (of_kind kind held) o (kind_listed held own kind key of o at),
    λ o at. among_left (of_kind kind after) (of_kind kind held) o (kind_listed after listed_at_keys kind key of o at),
  )

pub relist_leads : RelistLeads
relist_leads changed held own kind items list covers =
    leads_from changed (new_and_old held own kind items list) covers own (listed_at_keys held own kind items list)
    (λ key. listed_at held own kind items list key (is_of kind key) refl (relisted_by_key held kind items list key))

-- ---- by the marks of the change

-- the marks that are gathered are those of the new objects and the old ones
pub marks_joined : (marks gathered start : List Mark) (slice new old listed : List Object) → marks ≡ each_once (gathered ++ flat_map marks_of old) → gathered ≡ start ++ flat_map marks_of slice → start ≡ [] → slice ≡ new → listed ≡ old
    → marks ≡ marks_of_all (new ++ listed)
marks_joined marks gathered start slice new old listed is all nothing here same =
    is ∙ ap (λ ms. each_once (ms ++ flat_map marks_of old)) (all ∙ (λ i. nothing i ++ flat_map marks_of (here i)))
    ∙ ap each_once (sym (flat_map-append marks_of new old)) ∙ ap (λ os. marks_of_all (new ++ os)) (sym same)

covered : (changed : List Mark) (objects : List Object) → changed ≡ marks_of_all objects → Covers changed objects
covered changed objects is = subst (λ marks. Covers marks objects) (sym is) (all_are_covered objects)

pub put_leads_by : (changed : List Mark) (held new : ObjectMap) (o : Object) → new ≡ insert held (key_of o) o → changed ≡ marks_of_all (o ∷ option_to_list (get held (key_of o))) → AtKeys held → Leads changed held new
put_leads_by changed held new o is marks own =
    subst (λ after. Leads changed held after) (sym is) (put_leads changed held own o (covered changed (o ∷ option_to_list (get held (key_of o))) marks))

pub taken_leads_by : (changed : List Mark) (held new : ObjectMap) (key : ObjKey) → new ≡ remove held key → changed ≡ marks_of_all (option_to_list (get held key)) → AtKeys held → Leads changed held new
taken_leads_by changed held new key is marks own =
    subst (λ after. Leads changed held after) (sym is) (taken_leads changed held own key (covered changed (option_to_list (get held key)) marks))

pub relist_leads_by : (changed : List Mark) (held new : ObjectMap) (kind : Kind) (items : List Object) → IsListOf kind items → new ≡ relisted held kind items
    → changed ≡ marks_of_all (of_kind kind new ++ of_kind kind held) → AtKeys held → Leads changed held new
relist_leads_by changed held new kind items list is marks own =
    subst (λ after. Leads changed held after) (sym is)
    (relist_leads changed held own kind items list (covered changed (of_kind kind (relisted held kind items) ++ of_kind kind held) (marks ∙ ap (λ after. marks_of_all (of_kind kind after ++ of_kind kind held)) is)))

-- the marks of a set
pub put_marks : (marks own : List Mark) (old listed : List Object) (o : Object) → marks ≡ each_once (own ++ flat_map marks_of old) → own ≡ marks_of o → listed ≡ old → marks ≡ marks_of_all (o ∷ listed)
put_marks marks own old listed o is mine same = is ∙ ap (λ ms. each_once (ms ++ flat_map marks_of old)) mine ∙ ap (λ os. marks_of_all (o ∷ os)) (sym same)

-- a removal, by its change
pub takes_by : (change : Change) (held new : ObjectMap) (key : ObjKey) (before : Option Object) → before ≡ get held key → new ≡ remove held key
    → change.old ≡ option_to_list before → change.new ≡ [] → change.marks ≡ marks_of_all (option_to_list before) → Takes held new key change
takes_by change held new key before found is old none marks =
    let was : change.old ≡ option_to_list (get held key) = old ∙ ap option_to_list found in
    record {
      objects = is;
      before = was;
      keys = none;
      marks = marks ∙ ap marks_of_all (sym old);
      leads = taken_leads_by change.marks held new key is (marks ∙ ap (λ found. marks_of_all (option_to_list found)) found);
    }
