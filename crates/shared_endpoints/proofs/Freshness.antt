-- Keys, each given once, whose streams change one after the other.
use Rattle.std.proofs.Common.{◌≡◌, ℕ, zero, suc, ◌<◌, ◌||◌, Bool, true, false, List, [], ◌∷◌, ◌++◌, Option, length, get_or, take, nat_eq, refl, sym, ap, subst, ◌∙◌, arith}
use Rattle.std.proofs.lemmas.Bool.{false≢true, or_from}
use Rattle.std.proofs.lemmas.List.Folds.{list_any-append}
use Rattle.std.specs.Cmp.{IsTotalOrder}
use Rattle.std.specs.FinMap.{IsAntisymmetric}
use Rattle.std.specs.List.{AllByRecursion, IsDistinct, list_any}
use Rattle.std.specs.Ordering.{eq_by_cmp}
use Rattle.std.specs.declared.cmp.Ordering.{Ordering}
use Rattle.view_diff.specs.Earlier.{Stood}
use Rattle.key_streams.specs.declared.streams.KeyStreams.{KeyStreams}
use Rattle.row_table.proofs.Keys.{has_more, is_same, turned}
use Rattle.row_table.specs.IndexRows.{has_key}
use Rattle.shared_endpoints.specs.Sharing.{ChangedAt, ChangesAt, has_at}

module _ {Key : Type 0} (cmp : Key → Key → Ordering) (total : IsTotalOrder cmp) (exact : IsAntisymmetric cmp) where
  all_apart : (x : Key) (keys : List Key) (i : ℕ) (d : Key) → AllByRecursion (λ y. eq_by_cmp cmp x y ≡ false) keys → i < length keys → eq_by_cmp cmp (get_or keys i d) x ≡ false
  all_apart x [] i d all lt = absurd (omega arith)
  all_apart x (y ∷ ys) zero d all lt = turned cmp total exact x y all.0
  all_apart x (y ∷ ys) (suc i) d all lt = all_apart x ys i d all.1 (omega arith)

  -- each isn't among those before it
  pub fresh_at : (keys : List Key) → IsDistinct (eq_by_cmp cmp) keys → (i : ℕ) (d : Key) → i < length keys → has_key cmp (take i keys) (get_or keys i d) ≡ false
  unfolding IsDistinct
  fresh_at [] once i d lt = absurd (omega arith)
  fresh_at (x ∷ xs) once zero d lt = refl
  fresh_at (x ∷ xs) once (suc i) d lt = or_from (eq_by_cmp cmp (get_or xs i d) x) (has_key cmp (take i xs) (get_or xs i d)) (all_apart x xs i d once.0 (omega arith)) (fresh_at xs once.1 i d (omega arith))

  module _ {F : Type 0} (notes : Key → List Stood) (start middle end : Key → Option (KeyStreams F)) (keys : List Key) (key : Key) (fresh : has_key cmp keys key ≡ false) (first : ChangesAt cmp (has_key cmp keys) notes start middle) where
    -- what no key has changed yet is as at the start
    pub as_start : middle key ≡ start key
    as_start = subst (λ (b : Bool). ChangedAt b (notes key) (start key) (middle key)) fresh (first key)

    -- one key more
    pub change_more : ChangesAt cmp (λ k. eq_by_cmp cmp k key) notes middle end → ChangesAt cmp (has_key cmp (keys ++ key ∷ [])) notes start end
    change_more second k =
        subst (λ (b : Bool). ChangedAt b (notes k) (start k) (end k)) (sym (has_more cmp keys (key ∷ []) k))
        (by (has_key cmp keys k) (eq_by_cmp cmp k key) (λ e. ap (has_key cmp keys) (is_same cmp total exact k key e) ∙ fresh) (first k) (second k))
      where
        by : (some more : Bool) → (more ≡ true → some ≡ false) → ChangedAt some (notes k) (start k) (middle k) → ChangedAt more (notes k) (middle k) (end k) → ChangedAt (some || (more || false)) (notes k) (start k) (end k)
        by true true apart f s = absurd (false≢true (sym (apart refl)))
        by true false apart f s = subst (λ (o : Option (KeyStreams F)). ChangedAt true (notes k) (start k) o) (sym s) f
        by false true apart f s = subst (λ (o : Option (KeyStreams F)). ChangedAt true (notes k) o (end k)) f s
        by false false apart f s = s ∙ f

  -- the ids of the streams of one key more
  pub ids_more : {F : Type 0} (start : Key → Option (KeyStreams F)) (keys : List Key) (key : Key) (n : ℕ) (ids more : List ℕ) (at : Bool) → list_any (nat_eq n) ids ≡ list_any (λ k. has_at (start k) n) keys
      → list_any (nat_eq n) more ≡ (list_any (nat_eq n) ids || at) → at ≡ has_at (start key) n → list_any (nat_eq n) more ≡ list_any (λ k. has_at (start k) n) (keys ++ key ∷ [])
  ids_more start keys key n ids more at so_far adds is =
      adds ∙ (λ i. so_far i || is i) ∙ last (list_any (λ k. has_at (start k) n) keys) (has_at (start key) n) ∙ sym (list_any-append (λ k. has_at (start k) n) keys (key ∷ []))
    where
      last : (a b : Bool) → (a || b) ≡ (a || (b || false))
      last true b = refl
      last false true = refl
      last false false = refl
