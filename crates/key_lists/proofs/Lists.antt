-- Keys in lists that rise.
use Rattle.std.proofs.Common.{◌≡◌, ℕ, ◌<◌, true, false, not, ◌&&◌, ◌||◌, length, List, [], ◌∷◌, ◌++◌, refl, sym, ap, ◌∙◌, arith}
use Rattle.std.specs.Cmp.{tied_itself}
use Rattle.std.specs.FinMap as fin
use Rattle.std.specs.List.{insert, remove}
use Rattle.std.specs.Option.{is_some}
use Rattle.std.specs.Ordering.{is_eq}
use Rattle.mesh_base.specs.declared.key.ObjKey.{ObjKey}
use Rattle.mesh_base.specs.KeyOrder.{key_cmp}
use Rattle.mesh_base.specs.Keyed.{keyed_map}
use Rattle.mesh_base.specs.Places.{IsHit, IsGap}
use Rattle.mesh_base.proofs.KeyOrder.{keys_exact, keys_total}
use Rattle.key_lists.specs.Keys.{has_key, is_key, Rises}
use Rattle.key_lists.proofs.Joined as joined
use Rattle.key_lists.proofs.Joined.{Meet}
use Rattle.key_lists.proofs.SortedLists as sorted

-- the keys of a list are those of its map
pub has_key_is : (k : ObjKey) (keys : List ObjKey) → Rises keys → has_key k keys ≡ is_some (fin.get (keyed_map key_cmp (λ k. k) (λ k. k) keys) k)
has_key_is k keys h = sorted.has_is keys_total keys_exact k keys h

module _ (keys : List ObjKey) (h : Rises keys) (key : ObjKey) (i : ℕ) where
  pub put_rises : IsGap (λ k. key_cmp k key) keys i → Rises (insert keys i key)
  put_rises = sorted.put_rises keys_total keys_exact keys h key i

  pub put_has : IsGap (λ k. key_cmp k key) keys i → (k : ObjKey) → has_key k (insert keys i key) ≡ (is_key k key || has_key k keys)
  put_has = sorted.put_has keys_total keys_exact keys h key i

  pub take_rises : IsHit (λ k. key_cmp k key) keys i → Rises (remove keys i)
  take_rises = sorted.take_rises keys_total keys_exact keys h key i

  pub take_has : IsHit (λ k. key_cmp k key) keys i → (k : ObjKey) → has_key k (remove keys i) ≡ (not (is_key k key) && has_key k keys)
  take_has = sorted.take_has keys_total keys_exact keys h key i

  -- a key that is there already
  pub had_has : IsHit (λ k. key_cmp k key) keys i → (k : ObjKey) → has_key k keys ≡ (is_key k key || has_key k keys)
  had_has = sorted.had_has keys_total keys_exact keys h key i

  -- a key that is not there
  pub lacks_has : IsGap (λ k. key_cmp k key) keys i → (k : ObjKey) → has_key k keys ≡ (not (is_key k key) && has_key k keys)
  lacks_has = sorted.lacks_has keys_total keys_exact keys h key i

-- two lists, joined where the last of the one comes before the first of the other
pub joined_rises : (xs ys : List ObjKey) → Rises xs → Rises ys → Meet keys_total xs ys → Rises (xs ++ ys)
joined_rises xs ys h g meet = joined.joined_rises keys_total xs ys h g meet

-- a list that has a key is not empty
pub has_some : (k : ObjKey) (keys : List ObjKey) → has_key k keys ≡ true → 0 < length keys
has_some k [] e = absurd (cc e)
has_some k (x ∷ xs) e = omega arith

pub filled : (new old other : List ObjKey) → ((k : ObjKey) → has_key k new ≡ (has_key k other || has_key k old)) → 0 < length other → 0 < length new
filled new old [] has some = absurd (omega (arith, some))
filled new old (x ∷ xs) has some = has_some x new (has x ∙ ap (λ b. (b || has_key x xs) || has_key x old) (ap is_eq (tied_itself keys_total x)))

-- a list without keys
pub none_has : (keys : List ObjKey) → ((k : ObjKey) → has_key k keys ≡ false) → keys ≡ []
none_has [] none = refl
none_has (x ∷ xs) none =
    let there : has_key x (x ∷ xs) ≡ true = ap (λ b. b || has_key x xs) (ap is_eq (tied_itself keys_total x)) in
    let no = sym there ∙ none x in cc
