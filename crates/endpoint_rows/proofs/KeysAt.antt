-- Keys at what lists have: a key is put to each item of a list, or taken from it, and lists by keys agree with keys at items.
use Rattle.std.proofs.Common.{◌≡◌, ◌&&◌, ◌||◌, not, cond, Bool, true, false, List, [], ◌∷◌, ◌++◌, Option, Ordering, refl, sym, ap, ◌∙◌}
use Rattle.std.proofs.lemmas.List.Folds.{list_any-append}
use Rattle.std.specs.BTreeMap as tree
use Rattle.std.specs.BTreeMap.{BTreeMap}
use Rattle.std.specs.Cmp.{IsTotalOrder, eq_by_cmp_equiv, tied_itself}
use Rattle.std.specs.List.{list_any}
use Rattle.std.specs.Ordering.{eq_by_cmp, is_eq}
use Rattle.key_lists.specs.Keys.{is_key, key_at}
use Rattle.mesh_base.proofs.KeyOrder.{keys_exact, keys_total}
use Rattle.mesh_base.specs.KeyOrder.{key_cmp}
use Rattle.mesh_base.specs.declared.key.ObjKey.{ObjKey}
use Rattle.view_rules.proofs.Entries.{equal}

pub own_key : (k : ObjKey) → is_key k k ≡ true
own_key k = ap is_eq (tied_itself keys_total k)

pub one_key : (k key : ObjKey) → is_key k key ≡ true → k ≡ key
one_key k key e = keys_exact k key (equal _ e)

-- ---- what is given at keys

module _ {V W : Type 0} (given : Option V → W) where
  spread : (b : Bool) (w m : Option V) → given (cond b w m) ≡ cond b (given w) (given m)
  spread true w m = refl
  spread false w m = refl

  pub put_at : (by new : BTreeMap ObjKey V) (key : ObjKey) (w : Option V) → ((q : ObjKey) → tree.get key_cmp new q ≡ cond (is_eq (key_cmp key q)) w (tree.get key_cmp by q))
      → (k : ObjKey) → given (tree.get key_cmp new k) ≡ cond (is_key k key) (given w) (given (tree.get key_cmp by k))
  put_at by new key w changed k =
      ap given (changed k ∙ ap (λ b. cond b w (tree.get key_cmp by k)) ((eq_by_cmp_equiv keys_total).symm key k))
      ∙ spread (is_key k key) w (tree.get key_cmp by k)

-- ---- a key at one more item

module _ {M : Type 0} {cmp : M → M → Ordering} (total : IsTotalOrder cmp) (item : M) (key : ObjKey) (by new : BTreeMap M (List ObjKey)) where
  turned : (m : M) → eq_by_cmp cmp item m ≡ eq_by_cmp cmp m item
  turned m = (eq_by_cmp_equiv total).symm item m

  pub turned_put : ((m : M) (k : ObjKey) → key_at cmp new m k ≡ ((eq_by_cmp cmp item m && is_key k key) || key_at cmp by m k))
      → (m : M) (k : ObjKey) → key_at cmp new m k ≡ ((eq_by_cmp cmp m item && is_key k key) || key_at cmp by m k)
  turned_put h m k = h m k ∙ ap (λ b. (b && is_key k key) || key_at cmp by m k) (turned m)

  pub turned_take : ((m : M) (k : ObjKey) → key_at cmp new m k ≡ (not (eq_by_cmp cmp item m && is_key k key) && key_at cmp by m k))
      → (m : M) (k : ObjKey) → key_at cmp new m k ≡ (not (eq_by_cmp cmp m item && is_key k key) && key_at cmp by m k)
  turned_take h m k = h m k ∙ ap (λ b. not (b && is_key k key) && key_at cmp by m k) (turned m)

put_more : (a b c d : Bool) → ((b && c) || ((a && c) || d)) ≡ (((a || b) && c) || d)
put_more true true true d = refl
put_more true true false d = refl
put_more true false true d = refl
put_more true false false d = refl
put_more false true true d = refl
put_more false true false d = refl
put_more false false true d = refl
put_more false false false d = refl

take_more : (a b c d : Bool) → (not (b && c) && (not (a && c) && d)) ≡ (not ((a || b) && c) && d)
take_more true true true d = refl
take_more true true false d = refl
take_more true false true d = refl
take_more true false false d = refl
take_more false true true d = refl
take_more false true false d = refl
take_more false false true d = refl
take_more false false false d = refl

none_left : (b : Bool) → (not (b && true) && b) ≡ false
none_left true = refl
none_left false = refl

all_left : (a b : Bool) → (not (a && false) && b) ≡ b
all_left true b = refl
all_left false b = refl

one_more : (b : Bool) → ((b && true) || false) ≡ b
one_more true = refl
one_more false = refl

no_more : (a b : Bool) → ((a && false) || b) ≡ b
no_more true b = refl
no_more false b = refl

nothing : (b : Bool) → (b || false) ≡ b
nothing true = refl
nothing false = refl

module _ {M X : Type 0} (cmp : M → M → Ordering) (of : X → M) where
  -- an item of the list is of the mark
  abbrev has : List X → M → Bool
  has xs m = list_any (λ x. eq_by_cmp cmp m (of x)) xs

  module _ (xs : List X) (x : X) (key : ObjKey) (start by new : BTreeMap M (List ObjKey)) where
    more : (m : M) → has (xs ++ x ∷ []) m ≡ (has xs m || eq_by_cmp cmp m (of x))
    more m = list_any-append (λ x. eq_by_cmp cmp m (of x)) xs (x ∷ []) ∙ ap (λ b. has xs m || b) (nothing (eq_by_cmp cmp m (of x)))

    pub one_put : ((m : M) (k : ObjKey) → key_at cmp by m k ≡ ((has xs m && is_key k key) || key_at cmp start m k))
        → ((m : M) (k : ObjKey) → key_at cmp new m k ≡ ((eq_by_cmp cmp m (of x) && is_key k key) || key_at cmp by m k))
        → (m : M) (k : ObjKey) → key_at cmp new m k ≡ ((has (xs ++ x ∷ []) m && is_key k key) || key_at cmp start m k)
    one_put so_far put m k =
        put m k ∙ ap (λ b. (eq_by_cmp cmp m (of x) && is_key k key) || b) (so_far m k)
        ∙ put_more (has xs m) (eq_by_cmp cmp m (of x)) (is_key k key) (key_at cmp start m k)
        ∙ ap (λ b. (b && is_key k key) || key_at cmp start m k) (sym (more m))

    pub one_taken : ((m : M) (k : ObjKey) → key_at cmp by m k ≡ (not (has xs m && is_key k key) && key_at cmp start m k))
        → ((m : M) (k : ObjKey) → key_at cmp new m k ≡ (not (eq_by_cmp cmp m (of x) && is_key k key) && key_at cmp by m k))
        → (m : M) (k : ObjKey) → key_at cmp new m k ≡ (not (has (xs ++ x ∷ []) m && is_key k key) && key_at cmp start m k)
    one_taken so_far gone m k =
        gone m k ∙ ap (λ b. not (eq_by_cmp cmp m (of x) && is_key k key) && b) (so_far m k)
        ∙ take_more (has xs m) (eq_by_cmp cmp m (of x)) (is_key k key) (key_at cmp start m k)
        ∙ ap (λ b. not (b && is_key k key) && key_at cmp start m k) (sym (more m))

  -- ---- one list taken out, or put, where keys agree with lists

  module _ (lists after : ObjKey → List X) (at new : M → ObjKey → Bool) (agree : (m : M) (k : ObjKey) → at m k ≡ has (lists k) m) (key : ObjKey) where
    pub taken_keys : ((k : ObjKey) → after k ≡ cond (is_key k key) [] (lists k)) → ((m : M) (k : ObjKey) → new m k ≡ (not (has (lists key) m && is_key k key) && at m k))
        → (m : M) (k : ObjKey) → new m k ≡ has (after k) m
    taken_keys changed gone m k =
        gone m k ∙ ap (λ b. not (has (lists key) m && is_key k key) && b) (agree m k)
        ∙ elim (is_key k key) as (λ b. is_key k key ≡ b → (not (has (lists key) m && b) && has (lists k) m) ≡ has (cond b [] (lists k)) m) [
          | true ↦ λ e. ap (λ k. not (has (lists key) m && true) && has (lists k) m) (one_key k key e) ∙ none_left (has (lists key) m)
          | false ↦ λ e. all_left (has (lists key) m) (has (lists k) m)
        ] refl
        ∙ ap (λ xs. has xs m) (sym (changed k))

    pub put_keys : (xs : List X) → lists key ≡ [] → ((k : ObjKey) → after k ≡ cond (is_key k key) xs (lists k)) → ((m : M) (k : ObjKey) → new m k ≡ ((has xs m && is_key k key) || at m k))
        → (m : M) (k : ObjKey) → new m k ≡ has (after k) m
    put_keys xs empty changed there m k =
        there m k ∙ ap (λ b. (has xs m && is_key k key) || b) (agree m k)
        ∙ elim (is_key k key) as (λ b. is_key k key ≡ b → ((has xs m && b) || has (lists k) m) ≡ has (cond b xs (lists k)) m) [
          | true ↦ λ e. ap (λ others. (has xs m && true) || has others m) (ap lists (one_key k key e) ∙ empty) ∙ one_more (has xs m)
          | false ↦ λ e. no_more (has xs m) (has (lists k) m)
        ] refl
        ∙ ap (λ xs. has xs m) (sym (changed k))
