-- The keys that are kept for a mark are those of the objects with it.
use Rattle.std.proofs.Common.{◌≡◌, Bool, true, false, cond, ◌&&◌, ◌||◌, List, [], ◌∷◌, Some, None, Option, refl, sym, ap, subst, ◌∙◌}
use lib.Dec.{T}
use Rattle.std.specs.FinMap as fin
use Rattle.std.specs.FinMap.{find, get, get-from_sorted, same_map}
use Rattle.std.specs.FinMap.Entries.{below_all}
use Rattle.std.specs.List.{AllByRecursion}
use Rattle.std.specs.List.Sorted.{IsStrictlySortedBy}
use Rattle.std.specs.Ordering.{is_lt}
use Rattle.std.specs.declared.cmp.Ordering.{Ordering}
use Rattle.std.specs.declared.cmp.Ordering.TheVariants.{Less}
use Rattle.key_lists.specs.Keys.{Rises, has_key, is_key}
use Rattle.mark_rules.specs.MarkLookups.{is_marked, keys_at}
use Rattle.mark_rules.specs.Marks.{has_mark, marks_of, other_marks}
use Rattle.mark_rules.proofs.MarkLookups.{keys_by_mark}
use Rattle.mesh_base.proofs.Keyed.{items_are_values}
use Rattle.mesh_base.proofs.KeyOrder.{keys_exact, keys_total}
use Rattle.mesh_base.specs.KeyOrder.{key_cmp}
use Rattle.mesh_base.specs.Keyed.{keyed, keyed_map}
use Rattle.mesh_base.specs.declared.key.ObjKey.{ObjKey}
use Rattle.object_store.specs.declared.mark_keys.MarkKeys.{MarkKeys}
use Rattle.object_store.specs.KeyLists.{AreKeysOf, has_other, is_of_key, kept_at}
use Rattle.object_store.proofs.Kept.{alike, any_of, key_is, of_any, own_key}
use Rattle.view_rules.proofs.Among.{among_from, contained}
use Rattle.view_types.specs.Objects.{AtKeys, ObjectMap}
use Rattle.view_types.specs.declared.mark.Mark.{Mark}
use Rattle.view_types.specs.declared.mark.Mark.TheVariants.{Obj, SlicesOf, ServersIn, ServerAuthzIn, PolicyOn, RouteOn, IpService, IpPod}
use Rattle.view_types.specs.declared.object.Object.{Object}

-- ---- lists that rise are the same where the same keys stand in them

abbrev as_map : List ObjKey → fin.FinMap key_cmp ObjKey
as_map keys = keyed_map key_cmp (λ k. k) (λ k. k) keys

found_key : (q : ObjKey) (keys : List ObjKey) → find key_cmp q (keyed key_cmp (λ k. k) (λ k. k) keys) ≡ cond (has_key q keys) (Some q) None
found_key q [] = refl
found_key q (x ∷ xs) = step (is_key q x) refl (found_key q xs)
  where
    step : (b : Bool) → is_key q x ≡ b → find key_cmp q (keyed key_cmp (λ k. k) (λ k. k) xs) ≡ cond (has_key q xs) (Some q) None
        → cond b (Some x) (find key_cmp q (keyed key_cmp (λ k. k) (λ k. k) xs)) ≡ cond (b || has_key q xs) (Some q) None
    step true e rest = ap Some (sym (key_is q x e))
    step false e rest = rest

get_key : (q : ObjKey) (keys : List ObjKey) → Rises keys → get (as_map keys) q ≡ cond (has_key q keys) (Some q) None
get_key q keys h = get-from_sorted key_cmp _ q h ∙ found_key q keys

same_keys : (a b : List ObjKey) → Rises a → Rises b → ((k : ObjKey) → has_key k a ≡ has_key k b) → a ≡ b
same_keys a b ra rb same =
    sym (items_are_values key_cmp (λ k. k) a ra)
    ∙ ap fin.values (same_map keys_total keys_exact (as_map a) (as_map b) (λ q. get_key q a ra ∙ ap (λ there. cond there (Some q) None) (same q) ∙ sym (get_key q b rb)))
    ∙ items_are_values key_cmp (λ k. k) b rb

-- ---- lists that rise, in the two ways to say so

pair : (a b : Bool) → T a → T b → T (a && b)
pair true b p q = q
pair false b p q = absurd p

to_below : (x : ObjKey) (xs : List ObjKey) → AllByRecursion (λ y. key_cmp x y ≡ Less) xs → T (below_all key_cmp x (keyed key_cmp (λ k. k) (λ k. k) xs))
to_below x [] a = tt
to_below x (y ∷ ys) a = pair (is_lt (key_cmp x y)) _ (subst (λ (o : Ordering). T (is_lt o)) (sym a.0) tt) (to_below x ys a.1)

to_rises : (xs : List ObjKey) → IsStrictlySortedBy key_cmp xs → Rises xs
unfolding IsStrictlySortedBy
to_rises [] s = tt
to_rises (x ∷ xs) s = pair (below_all key_cmp x (keyed key_cmp (λ k. k) (λ k. k) xs)) _ (to_below x xs s.0) (to_rises xs s.1)

-- ---- marks besides that of the key

besides : (mark : Mark) → is_of_key mark ≡ false → (o : Object) → has_mark (marks_of o) mark ≡ has_mark (other_marks o) mark
besides (Obj key) one o = absurd (cc one)
besides (SlicesOf ns service) one o = refl
besides (ServersIn ns) one o = refl
besides (ServerAuthzIn ns) one o = refl
besides (PolicyOn ns kind name) one o = refl
besides (RouteOn ns kind name) one o = refl
besides (IpService ip) one o = refl
besides (IpPod ip) one o = refl

marked_is : (mark : Mark) → is_of_key mark ≡ false → (found : Option Object) → is_marked mark found ≡ has_other mark found
marked_is mark one None = refl
marked_is mark one (Some o) = besides mark one o

module _ (held : ObjectMap) (own : AtKeys held) (keys : MarkKeys) (kept : AreKeysOf held keys) (mark : Mark) (one : is_of_key mark ≡ false) where
  stands_where : (k : ObjKey) → has_key k (keys_at held mark) ≡ has_other mark (get held k)
  stands_where k = alike _ _ (
      λ e.
      let any = any_of (is_key k) (keys_at held mark) e in
      subst (λ key. has_other mark (get held key) ≡ true) (sym (key_is k any.0 any.2))
      (sym (marked_is mark one (get held any.0)) ∙ ((keys_by_mark held own mark).each any.0).0 (contained (keys_at held mark) any.0 any.1))
      ) (λ e. of_any (is_key k) (keys_at held mark) k (among_from (keys_at held mark) k (((keys_by_mark held own mark).each k).1 (marked_is mark one (get held k) ∙ e))) (own_key k))

  pub kept_is : Rises (kept_at keys mark) → kept_at keys mark ≡ keys_at held mark
  kept_is rise = same_keys (kept_at keys mark) (keys_at held mark) rise (to_rises (keys_at held mark) (keys_by_mark held own mark).rise) (λ k. kept mark k ∙ sym (stands_where k))
