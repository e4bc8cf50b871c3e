-- Lists of items that pass a test, and of those among them that pass another.
use Rattle.std.proofs.Common.{◌≡◌, Bool, true, false, cond, List, [], ◌∷◌, Some, None, Option, refl, sym, ap, ◌∙◌}
use Rattle.std.specs.List.{cons_option, filter, filter_map, find}
use Rattle.std.specs.Prelude.{is_some}

-- a test that is false where another is
fails : (p q : Bool) → (p ≡ true → q ≡ true) → q ≡ false → p ≡ false
fails true q passes e = sym (passes refl) ∙ e
fails false q passes e = refl

abbrev pub kept_one : {X : Type 0} → (X → Bool) → X → Option X
kept_one q x = cond (q x) (Some x) None

-- what is kept is found
pub kept_is_found : {X : Type 0} (q : X → Bool) (xs : List X) → filter q xs ≡ filter_map (kept_one q) xs
kept_is_found q [] = refl
kept_is_found q (x ∷ xs) =
    elim (q x) as (λ b. cond b (x ∷ filter q xs) (filter q xs) ≡ cons_option (cond b (Some x) None) (filter_map (kept_one q) xs)) [
      | true ↦ ap (λ ys. x ∷ ys) (kept_is_found q xs)
      | false ↦ kept_is_found q xs
    ]

none : {Y : Type 0} (y : Option Y) (q : Bool) → (is_some y ≡ true → q ≡ true) → q ≡ false → y ≡ None
none None q has e = refl
none (Some y) q has e = absurd (let no : true ≡ false = sym (has refl) ∙ e in cc no)

-- Where each item that passes p passes q, the items that fail q can be left out.
module _ {X : Type 0} (p q : X → Bool) (passes : (x : X) → p x ≡ true → q x ≡ true) where
  pub kept_among : (xs : List X) → filter p xs ≡ filter p (filter q xs)
  kept_among [] = refl
  kept_among (x ∷ xs) =
      elim (q x) as (λ b. q x ≡ b → cond (p x) (x ∷ filter p xs) (filter p xs) ≡ filter p (cond b (x ∷ filter q xs) (filter q xs))) [
        | true ↦ λ e. ap (λ ys. cond (p x) (x ∷ ys) ys) (kept_among xs)
        | false ↦ λ e. rw (fails (p x) (q x) (passes x) e) (kept_among xs)
      ] refl

  pub first_among : (xs : List X) → find p xs ≡ find p (filter q xs)
  first_among [] = refl
  first_among (x ∷ xs) =
      elim (q x) as (λ b. q x ≡ b → cond (p x) (Some x) (find p xs) ≡ find p (cond b (x ∷ filter q xs) (filter q xs))) [
        | true ↦ λ e. ap (cond (p x) (Some x)) (first_among xs)
        | false ↦ λ e. rw (fails (p x) (q x) (passes x) e) (first_among xs)
      ] refl

-- Where each item of which something is found passes q, the same.
module _ {X Y : Type 0} (f : X → Option Y) (q : X → Bool) (passes : (x : X) → is_some (f x) ≡ true → q x ≡ true) where
  pub found_among : (xs : List X) → filter_map f xs ≡ filter_map f (filter q xs)
  found_among [] = refl
  found_among (x ∷ xs) =
      elim (q x) as (λ b. q x ≡ b → cons_option (f x) (filter_map f xs) ≡ filter_map f (cond b (x ∷ filter q xs) (filter q xs))) [
        | true ↦ λ e. ap (cons_option (f x)) (found_among xs)
        | false ↦ λ e. rw (none (f x) (q x) (passes x) e) (found_among xs)
      ] refl

-- And where each item of which something is found that passes p.
module _ {X Y : Type 0} (f : X → Option Y) (p : Y → Bool) (q : X → Bool) (passes : (x : X) (y : Y) → f x ≡ Some y → p y ≡ true → q x ≡ true) where
  left_out : (x : X) (y : Option Y) (ys : List Y) → f x ≡ y → q x ≡ false → filter p (cons_option y ys) ≡ filter p ys
  left_out x None ys is e = refl
  left_out x (Some y) ys is e = rw (fails (p y) (q x) (passes x y is) e) refl

  one_more : (y : Option Y) (ys zs : List Y) → filter p ys ≡ filter p zs → filter p (cons_option y ys) ≡ filter p (cons_option y zs)
  one_more None ys zs e = e
  one_more (Some y) ys zs e = ap (λ us. cond (p y) (y ∷ us) us) e

  pub kept_found_among : (xs : List X) → filter p (filter_map f xs) ≡ filter p (filter_map f (filter q xs))
  kept_found_among [] = refl
  kept_found_among (x ∷ xs) =
      elim (q x) as (λ b. q x ≡ b → filter p (cons_option (f x) (filter_map f xs)) ≡ filter p (filter_map f (cond b (x ∷ filter q xs) (filter q xs)))) [
        | true ↦ λ e. one_more (f x) (filter_map f xs) (filter_map f (filter q xs)) (kept_found_among xs)
        | false ↦ λ e. left_out x (f x) (filter_map f xs) refl e ∙ kept_found_among xs
      ] refl
