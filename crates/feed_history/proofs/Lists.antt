-- What holds of each item of a list that is made of other lists.
use Rattle.std.proofs.Common.{◌≡◌, ℕ, zero, suc, Bool, true, false, cond, List, [], ◌∷◌, ◌++◌, map, take, drop, Option, Some, None, IfSome, refl, subst, inl, inr}
use Rattle.std.specs.Prelude.{find, flat_map}
use Rattle.std.specs.List.{AllByRecursion, cons_option, filter, filter_map}
use Rattle.view_rules.proofs.Among.{Among}

module _ {X : Type 0} where
  pub all_weaker : (P Q : X → Type 0) → ((x : X) → P x → Q x) → (xs : List X) → AllByRecursion P xs → AllByRecursion Q xs
  all_weaker P Q weaker [] all = tt
  all_weaker P Q weaker (x ∷ xs) all = (weaker x all.0, all_weaker P Q weaker xs all.1)

  module _ (P : X → Type 0) where
    pub all_joined : (xs ys : List X) → AllByRecursion P xs → AllByRecursion P ys → AllByRecursion P (xs ++ ys)
    all_joined [] ys here rest = rest
    all_joined (x ∷ xs) ys here rest = (here.0, all_joined xs ys here.1 rest)

    pub all_if : (b : Bool) (xs : List X) → AllByRecursion P xs → AllByRecursion P (cond b xs [])
    all_if true xs all = all
    all_if false xs all = tt

    pub all_with : (found : Option X) (xs : List X) → IfSome found P → AllByRecursion P xs → AllByRecursion P (cons_option found xs)
    all_with None xs here rest = rest
    all_with (Some x) xs here rest = (here, rest)

    pub all_taken : (n : ℕ) (xs : List X) → AllByRecursion P xs → AllByRecursion P (take n xs)
    all_taken zero xs all = tt
    all_taken (suc n) [] all = tt
    all_taken (suc n) (x ∷ xs) all = (all.0, all_taken n xs all.1)

    pub all_left : (n : ℕ) (xs : List X) → AllByRecursion P xs → AllByRecursion P (drop n xs)
    all_left zero xs all = all
    all_left (suc n) [] all = tt
    all_left (suc n) (x ∷ xs) all = all_left n xs all.1

    pub all_kept : (test : X → Bool) (xs : List X) → AllByRecursion P xs → AllByRecursion P (filter test xs)
    all_kept test [] all = tt
    all_kept test (x ∷ xs) all = elim (test x) as (λ b. AllByRecursion P (cond b (x ∷ filter test xs) (filter test xs))) [ true ↦ (all.0, all_kept test xs all.1) | false ↦ all_kept test xs all.1 ]

    pub all_among : (xs : List X) → ((x : X) → Among x xs → P x) → AllByRecursion P xs
    all_among [] each = tt
    all_among (x ∷ xs) each = (each x (inl refl), all_among xs (λ y at. each y (inr at)))

    pub found_is : (test : X → Bool) (xs : List X) (x : X) → AllByRecursion P xs → find test xs ≡ Some x → P x
    found_is test [] x all is = absurd (cc is)
    found_is test (y ∷ ys) x all is = elim (test y) as (λ b. cond b (Some y) (find test ys) ≡ Some x → P x) [
      | true ↦ λ is. let same : y ≡ x = cc is in subst P same all.0
      | false ↦ λ is. found_is test ys x all.1 is
    ] is

module _ {X Y : Type 0} where
  pub all_flat : (P : X → Type 0) (Q : Y → Type 0) (f : X → List Y) → ((x : X) → P x → AllByRecursion Q (f x)) → (xs : List X) → AllByRecursion P xs → AllByRecursion Q (flat_map f xs)
  all_flat P Q f each [] all = tt
  all_flat P Q f each (x ∷ xs) all = all_joined Q (f x) (flat_map f xs) (each x all.0) (all_flat P Q f each xs all.1)

  pub all_mapped : (P : X → Type 0) (Q : Y → Type 0) (f : X → Y) → ((x : X) → P x → Q (f x)) → (xs : List X) → AllByRecursion P xs → AllByRecursion Q (map f xs)
  all_mapped P Q f each [] all = tt
  all_mapped P Q f each (x ∷ xs) all = (each x all.0, all_mapped P Q f each xs all.1)

  -- whatever the items were
  pub all_made : (Q : Y → Type 0) (f : X → Y) → ((x : X) → Q (f x)) → (xs : List X) → AllByRecursion Q (map f xs)
  all_made Q f each [] = tt
  all_made Q f each (x ∷ xs) = (each x, all_made Q f each xs)

  pub all_given : (P : X → Type 0) (Q : Y → Type 0) (f : X → Option Y) → ((x : X) → P x → IfSome (f x) Q) → (xs : List X) → AllByRecursion P xs → AllByRecursion Q (filter_map f xs)
  all_given P Q f each [] all = tt
  all_given P Q f each (x ∷ xs) all = all_with Q (f x) (filter_map f xs) (each x all.0) (all_given P Q f each xs all.1)
