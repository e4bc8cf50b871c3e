-- When a change leads from one map to another.
use Rattle.std.proofs.Common.{◌≡◌, ◌⊎◌, inl, inr, Bool, true, false, cond, List, [], ◌∷◌, Some, None, Option, refl, sym, ap, subst, ◌∙◌}
use Rattle.std.specs.FinMap.{get, get-insert, get-remove, insert, remove}
use Rattle.std.specs.List.{flat_map}
use Rattle.std.specs.Option.{option_to_list}
use Rattle.std.specs.Ordering.{eq_by_cmp}
use Rattle.std.proofs.lemmas.List.Folds.{list_any-append}
use Rattle.mesh_base.proofs.KeyOrder.{keys_exact, keys_total}
use Rattle.mesh_base.specs.KeyOrder.{key_cmp}
use Rattle.mesh_base.specs.declared.key.ObjKey.{ObjKey}
use Rattle.view_types.specs.Objects.{AtKeys, ObjectMap, key_of}
use Rattle.view_types.specs.declared.mark.Mark.{Mark}
use Rattle.view_types.specs.declared.object.Object.{Object}
use Rattle.view_rules.proofs.Among.{Among}
use Rattle.view_rules.proofs.Entries.{equal}
use Rattle.mark_rules.specs.Changes.{Covers, Leads, PutLeads, TakenLeads, if_marked}
use Rattle.mark_rules.specs.Marks.{has_mark, marks_of, same_mark}
use Rattle.mark_rules.proofs.MarkTests.{either_first, either_second}

-- a mark of one of the objects is a mark of all
of_all : (objects : List Object) (o : Object) (mark : Mark) → Among o objects → has_mark (marks_of o) mark ≡ true → has_mark (flat_map marks_of objects) mark ≡ true
of_all [] o mark at has = absurd at
of_all (p ∷ ps) o mark at has =
    list_any-append (same_mark mark) (marks_of p) (flat_map marks_of ps)
    ∙ elim at [
      | inl same ↦ either_first (has_mark (marks_of p) mark) (has_mark (flat_map marks_of ps) mark) (subst (λ q. has_mark (marks_of q) mark ≡ true) (sym same) has)
      | inr rest ↦ either_second (has_mark (marks_of p) mark) (has_mark (flat_map marks_of ps) mark) (of_all ps o mark rest has)
    ]

-- what is held, if anything, is one of the objects
abbrev pub IsOneOf : List Object → Option Object → Type 0
IsOneOf objects found = (o : Object) → found ≡ Some o → Among o objects

module _ (changed : List Mark) (objects : List Object) (covers : Covers changed objects) where
  unseen_by : (o : Object) (mark : Mark) (has : Bool) → has_mark (marks_of o) mark ≡ has → Among o objects → has_mark changed mark ≡ false → has ≡ false
  unseen_by o mark true is at misses = absurd (let no : true ≡ false = sym (covers mark (of_all objects o mark at is)) ∙ misses in cc no)
  unseen_by o mark false is at misses = refl

  unseen : (mark : Mark) (found : Option Object) → has_mark changed mark ≡ false → IsOneOf objects found → if_marked mark found ≡ None
  unseen mark None misses is = refl
  unseen mark (Some o) misses is = rw (unseen_by o mark (has_mark (marks_of o) mark) refl (is o refl) misses) refl

  -- At each key the same is held, or what was and what is held there is one of the objects whose marks are of the change.
  pub leads_from : {before after : ObjectMap} → AtKeys before → AtKeys after
      → ((key : ObjKey) → (get before key ≡ get after key) ⊎ (IsOneOf objects (get before key) × IsOneOf objects (get after key))) → Leads changed before after
  leads_from {before} {after} own kept each = record {
    at_keys = own;
    keys_kept = kept;
    same = λ mark key misses. elim (each key) as (λ _. if_marked mark (get before key) ≡ if_marked mark (get after key)) [
      | inl e ↦ ap (if_marked mark) e
      | inr both ↦ unseen mark (get before key) misses both.0 ∙ sym (unseen mark (get after key) misses both.1)
    ];
  }

is_listed : (found : Option Object) → IsOneOf (option_to_list found) found
is_listed None o is = absurd (cc is)
is_listed (Some p) o is = inl (cc is)

module _ (held : ObjectMap) (own : AtKeys held) (o : Object) where
  abbrev new_and_old : List Object
  new_and_old = o ∷ option_to_list (get held (key_of o))

  put_at : (key : ObjKey) (b : Bool) → eq_by_cmp key_cmp key (key_of o) ≡ b
      → (get held key ≡ cond b (Some o) (get held key)) ⊎ (IsOneOf new_and_old (get held key) × IsOneOf new_and_old (cond b (Some o) (get held key)))
  put_at key false e = inl refl
  put_at key true e = inr (
    subst (λ key. IsOneOf new_and_old (get held key)) (sym (keys_exact key (key_of o) (equal _ e))) (λ p is. inr (is_listed (get held (key_of o)) p is)),
    λ p is. inl (cc is),
  )

  put_own : (key : ObjKey) (p : Object) (b : Bool) → eq_by_cmp key_cmp key (key_of o) ≡ b → cond b (Some o) (get held key) ≡ Some p → key_of p ≡ key
  put_own key p true e is = let same : o ≡ p = cc is in ap key_of (sym same) ∙ sym (keys_exact key (key_of o) (equal _ e))
  put_own key p false e is = own key p is

  put_at_keys : AtKeys (insert held (key_of o) o)
  put_at_keys key p is = put_own key p (eq_by_cmp key_cmp key (key_of o)) refl (sym (get-insert keys_total held (key_of o) o key) ∙ is)

pub put_leads : PutLeads
put_leads changed held own o covers =
    leads_from changed (new_and_old held own o) covers own (put_at_keys held own o)
    (λ key. subst (λ (found : Option Object). (get held key ≡ found) ⊎ (IsOneOf (new_and_old held own o) (get held key) × IsOneOf (new_and_old held own o) found))
    (sym (get-insert keys_total held (key_of o) o key)) (put_at held own o key (eq_by_cmp key_cmp key (key_of o)) refl))

module _ (held : ObjectMap) (own : AtKeys held) (taken : ObjKey) where
  abbrev old : List Object
  old = option_to_list (get held taken)

  taken_at : (key : ObjKey) (b : Bool) → eq_by_cmp key_cmp key taken ≡ b → (get held key ≡ cond b None (get held key)) ⊎ (IsOneOf old (get held key) × IsOneOf old (cond b None (get held key)))
  taken_at key false e = inl refl
  taken_at key true e = inr (subst (λ key. IsOneOf old (get held key)) (sym (keys_exact key taken (equal _ e))) (is_listed (get held taken)), λ p is. absurd (cc is))

  taken_own : (key : ObjKey) (p : Object) (b : Bool) → cond b None (get held key) ≡ Some p → key_of p ≡ key
  taken_own key p true is = absurd (cc is)
  taken_own key p false is = own key p is

  taken_at_keys : AtKeys (remove held taken)
  taken_at_keys key p is = taken_own key p (eq_by_cmp key_cmp key taken) (sym (get-remove keys_total held taken key) ∙ is)

pub taken_leads : TakenLeads
taken_leads changed held own key covers =
    leads_from changed (old held own key) covers own (taken_at_keys held own key)
    (λ k. subst (λ (found : Option Object). (get held k ≡ found) ⊎ (IsOneOf (old held own key) (get held k) × IsOneOf (old held own key) found))
    (sym (get-remove keys_total held key k)) (taken_at held own key k (eq_by_cmp key_cmp k key) refl))
