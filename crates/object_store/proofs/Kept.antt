-- After a change that was followed, the keys that stand at places are again those of the objects that belong there.
use Rattle.std.proofs.Common.{◌≡◌, Bool, true, false, cond, not, ◌&&◌, ◌||◌, List, [], ◌∷◌, map, Some, None, Option, Result, Ok, Err, OnOk, inl, inr, refl, sym, ap, subst, ◌∙◌}
use Rattle.std.specs.Cmp.{tied_itself}
use Rattle.std.specs.FinMap.{get, get-insert, get-remove, values}
use Rattle.std.specs.List.{list_any}
use Rattle.std.specs.Option.{option_to_list}
use Rattle.std.specs.Ordering.{is_eq}
use Rattle.std.specs.Result.{is_err}
use Rattle.key_lists.specs.Keys.{is_key}
use Rattle.mesh_base.proofs.KeyOrder.{keys_exact, keys_total}
use Rattle.mesh_base.specs.declared.key.Kind.{Kind}
use Rattle.mesh_base.specs.declared.key.ObjKey.{ObjKey}
use Rattle.object_store.specs.Changes.{Puts, Takes}
use Rattle.object_store.specs.declared.change.Change.{Change}
use Rattle.object_store.specs.KeyLists.{FollowAt, Follows, StandAt, comes_at, has_other, is_kept, was_at}
use Rattle.object_store.specs.ServerKeys.{AreKept, ServersFollow, is_kept_for, requires_value}
use Rattle.object_store.specs.declared.store_keys.StoreKeys.{StoreKeys}
use Rattle.object_store.specs.Relisted.{Relists, is_of, item_at, of_kind}
use Rattle.object_store.proofs.PutAll.{relisted_by_key}
use Rattle.view_rules.proofs.Among.{Among, among_kept, among_map, from_kept, from_map}
use Rattle.view_rules.proofs.Entries.{equal, held_somewhere, stands}
use Rattle.view_types.specs.Objects.{AtKeys, IsListOf, ObjectMap, key_of}
use Rattle.view_types.specs.declared.object.Object.{Object}

-- ---- tests

pub alike : (a b : Bool) → (a ≡ true → b ≡ true) → (b ≡ true → a ≡ true) → a ≡ b
alike true b there back = sym (there refl)
alike false true there back = back refl
alike false false there back = refl

left_of : (a b : Bool) → (a && b) ≡ true → a ≡ true
left_of true b e = refl
left_of false b e = absurd (cc e)

pub right_of : (a b : Bool) → (a && b) ≡ true → b ≡ true
right_of true b e = e
right_of false b e = absurd (cc e)

both : (a b : Bool) → a ≡ true → b ≡ true → (a && b) ≡ true
both a b l r = ap (λ a. a && b) l ∙ r

-- what is touched is taken out and put in anew, and the rest stays
renewed : (new old before after touched : Bool) → new ≡ (touched && after) → old ≡ (touched && before) → (touched ≡ false → after ≡ before) → (new || (not old && before)) ≡ after
renewed new old before after true n o stays = (λ i. n i || (not (o i) && before)) ∙ done after before
  where
    done : (a b : Bool) → (a || (not b && b)) ≡ a
    done true b = refl
    done false true = refl
    done false false = refl
renewed new old before after false n o stays = (λ i. n i || (not (o i) && before)) ∙ sym (stays refl)

pub any_of : {X : Type 0} (p : X → Bool) (xs : List X) → list_any p xs ≡ true → (x : X) × Among x xs × (p x ≡ true)
any_of p [] e = absurd (cc e)
any_of p (x ∷ xs) e = elim (p x) as (λ b. p x ≡ b → (b || list_any p xs) ≡ true → (y : _) × Among y (x ∷ xs) × (p y ≡ true)) [
  | true ↦ λ t e. (x, inl refl, t)
  | false ↦ λ f e. let rest = any_of p xs e in (rest.0, inr rest.1, rest.2)
] refl e

or_true : (b : Bool) → (b || true) ≡ true
or_true true = refl
or_true false = refl

pub of_any : {X : Type 0} (p : X → Bool) (xs : List X) (x : X) → Among x xs → p x ≡ true → list_any p xs ≡ true
of_any p [] x at t = absurd at
of_any p (y ∷ ys) x at t = elim at [
  | inl is ↦ ap (λ b. b || list_any p ys) (ap p is ∙ t)
  | inr rest ↦ ap (λ b. p y || b) (of_any p ys x rest t) ∙ or_true (p y)
]

pub own_key : (k : ObjKey) → is_key k k ≡ true
own_key k = ap is_eq (tied_itself keys_total k)

pub key_is : (k key : ObjKey) → is_key k key ≡ true → k ≡ key
key_is k key e = keys_exact k key (equal _ e)

-- ---- the object at one key

module _ {X : Type 0} (belongs : X → Option Object → Bool) (none : (place : X) → belongs place None ≡ false) (held : ObjectMap) (own : AtKeys held) (place : X) (k : ObjKey) where
  lacks : belongs place None ≡ true → true ≡ false
  lacks has = sym has ∙ none place

  one_old : (key : ObjKey) (found : Option Object) → get held key ≡ found → (b : Bool) → is_key k key ≡ b → list_any (was_at belongs place k) (option_to_list found) ≡ (b && belongs place (get held k))
  one_old key None is true e = sym (ap (λ key. belongs place (get held key)) (key_is k key e) ∙ ap (belongs place) is ∙ none place)
  one_old key None is false e = refl
  one_old key (Some o) is b e =
      let at : is_key k (key_of o) ≡ b = ap (is_key k) (own key o is) ∙ e in
      (λ i. (belongs place (Some o) && at i) || false) ∙ settled b e
    where
      settled : (b : Bool) → is_key k key ≡ b → ((belongs place (Some o) && b) || false) ≡ (b && belongs place (get held k))
      settled true e = plain (belongs place (Some o)) ∙ sym (ap (λ key. belongs place (get held key)) (key_is k key e) ∙ ap (belongs place) is)
        where
          plain : (a : Bool) → ((a && true) || false) ≡ a
          plain true = refl
          plain false = refl
      settled false e = neither (belongs place (Some o))
        where
          neither : (a : Bool) → ((a && false) || false) ≡ false
          neither true = refl
          neither false = refl

  old_at : (key : ObjKey) → list_any (was_at belongs place k) (option_to_list (get held key)) ≡ (is_key k key && belongs place (get held k))
  old_at key = one_old key (get held key) refl (is_key k key) refl

  -- the objects of a kind
  old_of : (kind : Kind) → list_any (was_at belongs place k) (of_kind kind held) ≡ (is_of kind k && belongs place (get held k))
  old_of kind = alike _ _ (
      λ e.
      let any = any_of (was_at belongs place k) (of_kind kind held) e in
      let o = any.0 in
      let kept = from_kept (λ o. is_of kind (key_of o)) (values held) o any.1 in
      let somewhere = held_somewhere keys_total held o kept.0 in
      let has : belongs place (Some o) ≡ true = left_of _ _ any.2 in
      let is : k ≡ key_of o = key_is k (key_of o) (right_of (belongs place (Some o)) _ any.2) in
      let found : get held k ≡ Some o = ap (get held) (is ∙ own somewhere.0 o somewhere.1) ∙ somewhere.1 in
      both (is_of kind k) _ (ap (is_of kind) is ∙ kept.1) (ap (belongs place) found ∙ has)
      ) (λ e. held_old kind (get held k) refl (left_of _ _ e) (right_of (is_of kind k) _ e))
    where
      held_old : (kind : Kind) (found : Option Object) → get held k ≡ found → is_of kind k ≡ true → belongs place found ≡ true → list_any (was_at belongs place k) (of_kind kind held) ≡ true
      held_old kind None is of has = absurd (let no = lacks has in cc no)
      held_old kind (Some o) is of has =
          of_any (was_at belongs place k) (of_kind kind held) o
          (among_kept (λ o. is_of kind (key_of o)) (values held) o (stands keys_total held k o is) (ap (is_of kind) (own k o is) ∙ of))
          (both (belongs place (Some o)) _ has (ap (is_key k) (own k o is) ∙ own_key k))

  -- the keys of the objects of a kind
  new_of : (kind : Kind) → list_any (comes_at belongs held place k) (map key_of (of_kind kind held)) ≡ (is_of kind k && belongs place (get held k))
  new_of kind = alike _ _ (
      λ e.
      let any = any_of (comes_at belongs held place k) (map key_of (of_kind kind held)) e in
      let from = from_map key_of (of_kind kind held) any.0 any.1 in
      let kept = from_kept (λ o. is_of kind (key_of o)) (values held) from.0 from.1 in
      let is : k ≡ any.0 = key_is k any.0 (left_of (is_key k any.0) _ any.2) in
      both (is_of kind k) _ (ap (is_of kind) (is ∙ sym from.2) ∙ kept.1) (ap (λ key. belongs place (get held key)) is ∙ right_of (is_key k any.0) _ any.2)
      ) (λ e. held_new kind (get held k) refl (left_of _ _ e) (right_of (is_of kind k) _ e))
    where
      held_new : (kind : Kind) (found : Option Object) → get held k ≡ found → is_of kind k ≡ true → belongs place found ≡ true → list_any (comes_at belongs held place k) (map key_of (of_kind kind held)) ≡ true
      held_new kind None is of has = absurd (let no = lacks has in cc no)
      held_new kind (Some o) is of has =
          of_any (comes_at belongs held place k) (map key_of (of_kind kind held)) k
          (subst (λ key. Among key (map key_of (of_kind kind held))) (own k o is)
          (among_map key_of (of_kind kind held) o (among_kept (λ o. is_of kind (key_of o)) (values held) o (stands keys_total held k o is) (ap (is_of kind) (own k o is) ∙ of))))
          (both (is_key k k) _ (own_key k) (ap (belongs place) is ∙ has))

-- one key alone
new_at : {X : Type 0} (belongs : X → Option Object → Bool) (held : ObjectMap) (place : X) (k key : ObjKey) (b : Bool) → is_key k key ≡ b → ((b && belongs place (get held key)) || false) ≡ (b && belongs place (get held k))
new_at belongs held place k key true e = plain (belongs place (get held key)) ∙ sym (ap (λ key. belongs place (get held key)) (key_is k key e))
  where
    plain : (a : Bool) → (a || false) ≡ a
    plain true = refl
    plain false = refl
new_at belongs held place k key false e = refl

-- ---- changes

module _ {X : Type 0} (belongs : X → Option Object → Bool) (none : (place : X) → belongs place None ≡ false) (old new : ObjectMap) (before after : X → ObjKey → Bool) (change : Change)
    (follows : FollowAt belongs new before after change) (kept : StandAt belongs old before) where
  kept_by : (touched : ObjKey → Bool) → ((place : X) (k : ObjKey) → list_any (comes_at belongs new place k) change.new ≡ (touched k && belongs place (get new k)))
      → ((place : X) (k : ObjKey) → list_any (was_at belongs place k) change.old ≡ (touched k && belongs place (get old k)))
      → ((k : ObjKey) → touched k ≡ false → get new k ≡ get old k) → StandAt belongs new after
  kept_by touched news olds stays place k =
      follows place k ∙ ap (λ b. list_any (comes_at belongs new place k) change.new || (not (list_any (was_at belongs place k) change.old) && b)) (kept place k)
      ∙ renewed _ _ _ _ (touched k) (news place k) (olds place k) (λ no. ap (belongs place) (stays k no))

  puts_kept : (o : Object) → Puts old new o change → AtKeys old → StandAt belongs new after
  puts_kept o puts own =
      kept_by (λ k. is_key k (key_of o))
      (λ place k. ap (list_any (comes_at belongs new place k)) puts.keys ∙ new_at belongs new place k (key_of o) (is_key k (key_of o)) refl)
      (λ place k. ap (list_any (was_at belongs place k)) puts.before ∙ old_at belongs none old own place k (key_of o))
      (λ k no. ap (λ m. get m k) puts.objects ∙ get-insert keys_total old (key_of o) o k ∙ ap (λ b. cond b (Some o) (get old k)) no)

  takes_kept : (key : ObjKey) → Takes old new key change → AtKeys old → StandAt belongs new after
  takes_kept key takes own =
      kept_by (λ k. is_key k key)
      (λ place k. ap (list_any (comes_at belongs new place k)) takes.keys ∙ sym (ap (λ found. is_key k key && belongs place found) (left k) ∙ gone place k (is_key k key)))
      (λ place k. ap (list_any (was_at belongs place k)) takes.before ∙ old_at belongs none old own place k key)
      (λ k no. left k ∙ ap (λ b. cond b None (get old k)) no)
    where
      left : (k : ObjKey) → get new k ≡ cond (is_key k key) None (get old k)
      left k = ap (λ m. get m k) takes.objects ∙ get-remove keys_total old key k

      gone : (place : X) (k : ObjKey) (b : Bool) → (b && belongs place (cond b None (get old k))) ≡ false
      gone place k true = none place
      gone place k false = refl

  relists_kept : (kind : Kind) (items : List Object) → Relists old new kind items change → IsListOf kind items → AtKeys old → StandAt belongs new after
  relists_kept kind items relists list own =
      kept_by (is_of kind)
      (λ place k. ap (list_any (comes_at belongs new place k)) relists.keys ∙ new_of belongs none new (relists.leads own).keys_kept place k kind)
      (λ place k. ap (list_any (was_at belongs place k)) relists.before ∙ old_of belongs none old own place k kind)
      (λ k no. ap (λ m. get m k) relists.objects ∙ relisted_by_key old kind items list k ∙ ap (λ b. cond b (item_at k items) (get old k)) no)

-- ---- all keys that a store keeps

module _ (old new : ObjectMap) (before after : StoreKeys) (change : Change) (marked : Follows new before.marked after.marked change) (servers : ServersFollow new before.servers after.servers change)
    (kept : AreKept old before) where
  pub all_put : (o : Object) → Puts old new o change → AtKeys old → AreKept new after
  all_put o puts own = (
    puts_kept has_other (λ _. refl) old new (is_kept before.marked) (is_kept after.marked) change marked kept.0 o puts own,
    puts_kept requires_value (λ _. refl) old new (is_kept_for before.servers) (is_kept_for after.servers) change servers kept.1 o puts own,
  )

  pub all_taken : (key : ObjKey) → Takes old new key change → AtKeys old → AreKept new after
  all_taken key takes own = (
    takes_kept has_other (λ _. refl) old new (is_kept before.marked) (is_kept after.marked) change marked kept.0 key takes own,
    takes_kept requires_value (λ _. refl) old new (is_kept_for before.servers) (is_kept_for after.servers) change servers kept.1 key takes own,
  )

  pub all_relisted : (kind : Kind) (items : List Object) → Relists old new kind items change → IsListOf kind items → AtKeys old → AreKept new after
  all_relisted kind items relists list own = (
    relists_kept has_other (λ _. refl) old new (is_kept before.marked) (is_kept after.marked) change marked kept.0 kind items relists list own,
    relists_kept requires_value (λ _. refl) old new (is_kept_for before.servers) (is_kept_for after.servers) change servers kept.1 kind items relists list own,
  )

-- what holds unless there is an error
pub unless_err : {X E : Type 0} {P : Type 0} (r : Result X E) → is_err r ≡ false → OnOk r P → P
unless_err (Ok x) fine p = p
unless_err (Err e) fine p = absurd (cc fine)
