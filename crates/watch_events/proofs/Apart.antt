-- Keys none of which stands earlier are distinct.
use Rattle.std.proofs.Common.{◌≡◌, ℕ, suc, ◌+◌, ◌<◌, Bool, true, false, ◌||◌, cond, List, [], ◌∷◌, ◌++◌, get_or, length, map, take, drop, Option, Some, None, refl, sym, ap, ◌∙◌, subst, add-one, append_assoc, append-nil, if◌then◌else◌}
use Rattle.std.specs.Cmp.{IsEquivalence, IsTotalOrder, eq_by_cmp_equiv}
use Rattle.std.specs.List.{IsDistinct}
use Rattle.std.specs.Ordering.{eq_by_cmp}
use Rattle.std.specs.declared.cmp.Ordering.{Ordering}
use Rattle.std.proofs.lemmas.List.Folds.{list_any-append}
use Rattle.std.proofs.lemmas.Map.Keys.{IsDistinct-push}
use Rattle.std.proofs.Math.ListN.{get_or-map, length-map}
use Rattle.std.proofs.Math.Seq.{drop-cons, take-suc}
use Rattle.watch_events.specs.ListLines.{is_among, repeated_from}

none_repeated : (b : Bool) (n : ℕ) (rest : Option ℕ) → (if b then Some n else rest) ≡ None → (b ≡ false) × (rest ≡ None)
none_repeated true n rest e = absurd cc
none_repeated false n rest e = (refl, e)

module _ {K : Type 0} (same : K → K → Bool) (equiv : IsEquivalence same) where
  apart_after : (before : List K) (n : ℕ) (more : List K) → IsDistinct same before → repeated_from same before n more ≡ None → IsDistinct same (before ++ more)
  apart_after before n [] apart e = subst (IsDistinct same) (sym (append-nil before)) apart
  apart_after before n (key ∷ more) apart e =
      let here = none_repeated (is_among same before key) n (repeated_from same (before ++ key ∷ []) (suc n) more) e in
      subst (IsDistinct same) (append_assoc before (key ∷ []) more) (apart_after (before ++ key ∷ []) (suc n) more (IsDistinct-push equiv before key apart here.0) here.1)

  pub apart_unless_repeated : (keys : List K) → repeated_from same [] 0 keys ≡ None → IsDistinct same keys
  unfolding IsDistinct
  apart_unless_repeated keys e = apart_after [] 0 keys tt e

-- the search has come to the nth key, and the keys before it are those that a test tells
pub record IsSearched {K : Type 0} (same : K → K → Bool) (keys : List K) (n : ℕ) (test : K → Bool) : Type 0 where
  pub here : repeated_from same [] 0 keys ≡ repeated_from same (take n keys) n (drop n keys)
  pub told : (key : K) → test key ≡ is_among same (take n keys) key

either_key : (b c : Bool) → cond b true c ≡ (c || (b || false))
either_key true true = refl
either_key true false = refl
either_key false true = refl
either_key false false = refl

module _ {M K : Type 0} (same : K → K → Bool) (symm : (a b : K) → same a b ≡ same b a) (key_of : M → K)
    (items : List M) (n : ℕ) (o : M) (lt : n < length items) (is : o ≡ get_or items n o) (test : K → Bool) (here : IsSearched same (map key_of items) n test) where
  abbrev pub all : List K
  all = map key_of items

  within : n < length all
  within = subst (λ (k : ℕ). n < k) (sym (length-map items key_of)) lt

  key_is : get_or all n (key_of o) ≡ key_of o
  key_is = get_or-map key_of items n o ∙ ap key_of (sym is)

  one_step : repeated_from same (take n all) n (drop n all) ≡ (if is_among same (take n all) (key_of o) then Some n else repeated_from same (take n all ++ key_of o ∷ []) (suc n) (drop (suc n) all))
  one_step = ap (repeated_from same (take n all) n) (drop-cons all n (key_of o) within ∙ ap (λ (k : K). k ∷ drop (suc n) all) key_is)

  -- its key stands before it
  pub found : test (key_of o) ≡ true → Some n ≡ repeated_from same [] 0 all
  found e = sym (here.here ∙ one_step ∙ ap (λ (b : Bool). if b then Some n else repeated_from same (take n all ++ key_of o ∷ []) (suc n) (drop (suc n) all)) (sym (here.told (key_of o)) ∙ e))

  one_more : take n all ++ key_of o ∷ [] ≡ take (n + 1) all
  one_more = ap (λ (k : K). take n all ++ k ∷ []) (sym key_is) ∙ sym (take-suc all n (key_of o) within) ∙ ap (λ (k : ℕ). take k all) (sym (add-one n))

  -- it doesn't, and the search goes on
  pub goes_on : (new : K → Bool) → test (key_of o) ≡ false → ((q : K) → new q ≡ cond (same (key_of o) q) true (test q)) → IsSearched same all (n + 1) new
  goes_on new e puts = record {
    here = here.here ∙ one_step
        ∙ ap (λ (b : Bool). if b then Some n else repeated_from same (take n all ++ key_of o ∷ []) (suc n) (drop (suc n) all)) (sym (here.told (key_of o)) ∙ e)
        ∙ ap (λ (k : ℕ). repeated_from same (take n all ++ key_of o ∷ []) k (drop k all)) (sym (add-one n)) ∙ ap (λ (before : List K). repeated_from same before (n + 1) (drop (n + 1) all)) one_more;
    told = λ (q : K). puts q ∙ ap (λ (b : Bool). cond b true (test q)) (symm (key_of o) q) ∙ ap (cond (same q (key_of o)) true) (here.told q)
        ∙ either_key (same q (key_of o)) (is_among same (take n all) q) ∙ sym (list_any-append (same q) (take n all) (key_of o ∷ [])) ∙ ap (λ (before : List K). is_among same before q) one_more;
  }

-- equal keys are so both ways round, by a total order that tells the same keys
module _ {K : Type 0} (cmp : K → K → Ordering) (total : IsTotalOrder cmp) (same : K → K → Bool) (tells : (a b : K) → eq_by_cmp cmp a b ≡ same a b) where
  pub same_symm : (a b : K) → same a b ≡ same b a
  same_symm a b = sym (tells a b) ∙ (eq_by_cmp_equiv total).symm a b ∙ tells b a
