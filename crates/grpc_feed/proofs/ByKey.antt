-- What a list says, by key.
use Rattle.std.proofs.Common.{◌≡◌, ◌&&◌, ◌++◌, ℕ, Bool, true, false, cond, not, List, [], ◌∷◌, map, Option, Some, None, eqb, refl, sym, ap, ◌∙◌, arith}
use Rattle.std.specs.FinMap.{entries, get, get-entries, find, retain_keys, values}
use Rattle.std.specs.List.{AllByRecursion}
use Rattle.std.specs.Option.{option_or}
use Rattle.std.specs.Ordering.{eq_by_cmp}
use Rattle.std.proofs.lemmas.Bool.Decides.{nat_tests}
use Rattle.std.proofs.lemmas.List.Folds.{find-append}
use Rattle.mesh_base.specs.KeyOrder.{key_cmp, kind_place}
use Rattle.mesh_base.specs.declared.key.Kind.TheVariants.{GatewayRoute}
use Rattle.mesh_base.specs.declared.key.ObjKey.{ObjKey}
use Rattle.view_rules.proofs.FoundInOrder.{Entry, Fits, entries_fit}
use Rattle.view_types.specs.Objects.{AtKeys, ObjectMap, key_of}
use Rattle.view_types.specs.declared.object.Object.{Object}
use Rattle.object_store.specs.Relisted.{is_of, item_at}
use Rattle.object_store.proofs.PutAll.{get-put_all, keys_tied}
use Rattle.grpc_feed.specs.FeedKinds.{held_as, is_gateway_route, is_lowered, is_lowered_name}
use Rattle.grpc_feed.specs.FeedLines.{kept, stays}
use Rattle.grpc_feed.specs.Laws.{ListsByKey, objects_of, speaks_of}
use Rattle.grpc_feed.specs.declared.kinds.FeedKind.{FeedKind}
use Rattle.grpc_feed.specs.declared.kinds.FeedKind.TheVariants as kinds
use Rattle.grpc_feed.proofs.RouteMaps.{get-kept}

-- ---- objects at their keys

in_entries : (key : ObjKey) (es : List Entry) → Fits es → item_at key (map (λ (e : Entry). e.1) es) ≡ find key_cmp key es
in_entries key [] fits = refl
in_entries key (e ∷ es) fits =
    ap (λ (k : ObjKey). cond (eq_by_cmp key_cmp key k) (Some e.1) (item_at key (map (λ (e : Entry). e.1) es))) fits.0
    ∙ ap (cond (eq_by_cmp key_cmp key e.0) (Some e.1)) (in_entries key es fits.1)

in_values : (held : ObjectMap) → AtKeys held → (key : ObjKey) → item_at key (values held) ≡ get held key
in_values held at_keys key = in_entries key (entries held) (entries_fit held at_keys (entries held) (λ e at. at)) ∙ sym (get-entries held key)

kept_at_keys : (p : ObjKey → Bool) (held : ObjectMap) → AtKeys held → AtKeys (retain_keys held p)
kept_at_keys p held at_keys key object is =
    elim (p key) as (λ b. cond b (get held key) None ≡ Some object → key_of object ≡ key) [
      | true ↦ λ e. at_keys key object e
      | false ↦ λ e. absurd (cc e)
    ] (sym (get-kept p held key) ∙ is)

item_kept : (kind : FeedKind) (held : ObjectMap) → AtKeys held → (key : ObjKey) → item_at key (kept kind held) ≡ cond (stays kind key) (get held key) None
item_kept kind held at_keys key = in_values (retain_keys held (stays kind)) (kept_at_keys (stays kind) held at_keys) key ∙ get-kept (stays kind) held key

-- ---- keys that a list is about

differ_at : (test : ObjKey → Bool) (key : ObjKey) (o : Object) → test (key_of o) ≡ true → test key ≡ false → (rest : Option Object) → rest ≡ None
    → (tied : Bool) → eq_by_cmp key_cmp key (key_of o) ≡ tied → cond tied (Some o) rest ≡ None
differ_at test key o own other rest none true tied = let same : test key ≡ test (key_of o) = ap test (keys_tied key (key_of o) tied) in absurd (cc (sym other ∙ same ∙ own))
differ_at test key o own other rest none false tied = none

no_item : (test : ObjKey → Bool) (key : ObjKey) (os : List Object) → AllByRecursion (λ o. test (key_of o) ≡ true) os → test key ≡ false → item_at key os ≡ None
no_item test key [] all other = refl
no_item test key (o ∷ os) all other = differ_at test key o all.0 other (item_at key os) (no_item test key os all.1 other) (eq_by_cmp key_cmp key (key_of o)) refl

-- how the tests of a key stand to each other
record Tests (speaks own stay : Bool) : Type 0 where
  about : speaks ≡ true → (own ≡ true) × (stay ≡ false)
  others : speaks ≡ false → own ≡ true → stay ≡ true

route_tests : (route name : Bool) → Tests (route && name) route (route && not (route && name))
route_tests true true = record { about = λ is. (refl, refl); others = λ is own. absurd (cc is) }
route_tests true false = record { about = λ is. absurd (cc is); others = λ is own. refl }
route_tests false name = record { about = λ is. absurd (cc is); others = λ is own. absurd (cc own) }

held_tests : (own lowered gateway : Bool) → (own ≡ true → lowered ≡ true → gateway ≡ true) → Tests (own && not lowered) own (gateway && lowered)
held_tests true true gateway is = record { about = λ e. absurd (cc e); others = λ e own. rw (is refl refl) refl }
held_tests true false true is = record { about = λ e. (refl, refl); others = λ e own. absurd (cc e) }
held_tests true false false is = record { about = λ e. (refl, refl); others = λ e own. absurd (cc e) }
held_tests false lowered gateway is = record { about = λ e. absurd (cc e); others = λ e own. absurd (cc own) }

same_place : (a b c : ℕ) → eqb a b ≡ true → eqb a c ≡ true → eqb b c ≡ true
same_place a b c is are = grind (arith, nat_tests)

both_true : (a b : Bool) → (a && b) ≡ true → a ≡ true
both_true true b is = refl
both_true false b is = absurd (cc is)

tests : (kind : FeedKind) (key : ObjKey) → Tests (speaks_of kind key) (is_of (held_as kind) key) (stays kind key)
tests kinds.GrpcRoute key = route_tests (is_gateway_route key.kind) (is_lowered_name key.name)
tests (kinds.Held kind) key = held_tests (is_of kind key) (is_lowered key) (is_gateway_route kind)
    (λ own lowered. same_place (kind_place key.kind) (kind_place kind) (kind_place GatewayRoute) own (both_true (is_gateway_route key.kind) (is_lowered_name key.name) lowered))

-- ---- lists

or_same : (found : Option Object) → option_or found found ≡ found
or_same None = refl
or_same (Some o) = refl

or_none : (found : Option Object) → option_or found None ≡ found
or_none None = refl
or_none (Some o) = refl

left_alone : (own stay : Bool) (found : Option Object) → (own ≡ true → stay ≡ true) → option_or (cond stay found None) (cond (not own) found None) ≡ found
left_alone true stay found is = rw (is refl) (or_none found)
left_alone false true found is = or_same found
left_alone false false found is = refl

by_tests : (speaks own stay : Bool) (item found : Option Object) → Tests speaks own stay → (speaks ≡ false → item ≡ None)
    → option_or (option_or item (cond stay found None)) (cond (not own) found None) ≡ cond speaks item found
by_tests true own stay item found are none = rw ((are.about refl).0, (are.about refl).1) (or_none (option_or item None) ∙ or_none item)
by_tests false own stay item found are none = rw (none refl) (left_alone own stay found (are.others refl))

pub lists_by_key : ListsByKey
lists_by_key held at_keys kind items all key =
    let objects = objects_of items in
    get-put_all (objects ++ kept kind held) (retain_keys held (λ (k : ObjKey). not (is_of (held_as kind) k))) key
    ∙ ap (λ (found : Option Object). option_or (item_at key (objects ++ kept kind held)) found) (get-kept (λ (k : ObjKey). not (is_of (held_as kind) k)) held key)
    ∙ ap (λ (item : Option Object). option_or item (cond (not (is_of (held_as kind) key)) (get held key) None))
    (find-append (λ (o : Object). eq_by_cmp key_cmp key (key_of o)) objects (kept kind held) ∙ ap (option_or (item_at key objects)) (item_kept kind held at_keys key))
    ∙ by_tests (speaks_of kind key) (is_of (held_as kind) key) (stays kind key) (item_at key objects) (get held key) (tests kind key) (no_item (speaks_of kind) key objects all)
