-- Lists that are gathered item by item.
use Rattle.std.proofs.Common.{◌≡◌, ℕ, ◌+◌, ◌<◌, Bool, List, [], ◌∷◌, ◌++◌, length, map, get_or, take, drop, Some, None, Option, option_to_list, refl, sym, ap, ◌∙◌, append_assoc}
use Rattle.std.specs.List.{cons_option, filter, filter_map, find}
use Rattle.std.specs.Option.{option_and_then, option_or}
use Rattle.std.proofs.lemmas.List.{map_more, take_more, take-append-drop}
use Rattle.std.proofs.lemmas.List.Elements.{filter-append, filter_map-append}
use Rattle.std.proofs.lemmas.List.Folds.{find-append}

one : {A B : Type 0} (f : A → Option B) (x : A) (found : Option B) → f x ≡ found → filter_map f (x ∷ []) ≡ option_to_list found
one f x None is = rw is refl
one f x (Some y) is = rw is refl

-- what an item gives
pub filter_map_one : {A B : Type 0} (f : A → Option B) (x : A) → filter_map f (x ∷ []) ≡ option_to_list (f x)
filter_map_one f x = one f x (f x) refl

-- what the items so far give, and one more
filter_map_more : {A B : Type 0} (f : A → Option B) (xs : List A) (i : ℕ) (d : A) → i < length xs → filter_map f (take (i + 1) xs) ≡ filter_map f (take i xs) ++ option_to_list (f (get_or xs i d))
filter_map_more f xs i d lt = ap (filter_map f) (take_more xs i d lt) ∙ filter_map-append f (take i xs) (get_or xs i d ∷ []) ∙ ap (λ ys. filter_map f (take i xs) ++ ys) (filter_map_one f (get_or xs i d))

-- the same, as a loop's step
pub gathers : {A B : Type 0} (f : A → Option B) (xs : List A) (i : ℕ) (x : A) (so_far new : List B) (given : Option B) → i < length xs → x ≡ get_or xs i x
    → so_far ≡ filter_map f (take i xs) → given ≡ f x → new ≡ so_far ++ option_to_list given → new ≡ filter_map f (take (i + 1) xs)
gathers f xs i x so_far new given lt at before is adds =
    adds ∙ ap (λ ys. ys ++ option_to_list given) before ∙ ap (λ found. filter_map f (take i xs) ++ option_to_list found) (is ∙ ap f at) ∙ sym (filter_map_more f xs i x lt)

-- the same, added to what was there before
pub adds_more : {A B : Type 0} (f : A → Option B) (xs : List A) (i : ℕ) (x : A) (before so_far new : List B) → i < length xs → x ≡ get_or xs i x
    → so_far ≡ before ++ filter_map f (take i xs) → new ≡ so_far ++ option_to_list (f x) → new ≡ before ++ filter_map f (take (i + 1) xs)
adds_more f xs i x before so_far new lt at is adds =
    adds ∙ (λ j. is j ++ option_to_list (f (at j))) ∙ append_assoc before (filter_map f (take i xs)) (option_to_list (f (get_or xs i x)))
    ∙ ap (λ ys. before ++ ys) (sym (filter_map_more f xs i x lt))

-- of those that pass
filtered_more : {A B : Type 0} (f : A → Option B) (passes : A → Bool) (xs : List A) (x : A) → filter_map f (filter passes (xs ++ x ∷ [])) ≡ filter_map f (filter passes xs) ++ filter_map f (filter passes (x ∷ []))
filtered_more f passes xs x = ap (filter_map f) (filter-append passes xs (x ∷ [])) ∙ filter_map-append f (filter passes xs) (filter passes (x ∷ []))

-- the same, seen through a function, as a loop's step
pub shows : {X A B : Type 0} (f : A → Option B) (passes : A → Bool) (shown : X → A) (xs : List X) (i : ℕ) (x : X) (so_far new : List B) → i < length xs → x ≡ get_or xs i x
    → so_far ≡ filter_map f (filter passes (map shown (take i xs))) → new ≡ so_far ++ filter_map f (filter passes (shown x ∷ [])) → new ≡ filter_map f (filter passes (map shown (take (i + 1) xs)))
shows f passes shown xs i x so_far new lt at before adds =
    adds ∙ (λ j. before j ++ filter_map f (filter passes (shown (at j) ∷ [])))
    ∙ sym (filtered_more f passes (map shown (take i xs)) (shown (get_or xs i x)))
    ∙ ap (λ ys. filter_map f (filter passes ys)) (sym (map_more shown xs i x lt))

-- the same, where those that are found pass or not
found_more : {A B : Type 0} (f : A → Option B) (passes : B → Bool) (xs : List A) (i : ℕ) (d : A) → i < length xs
    → filter passes (filter_map f (take (i + 1) xs)) ≡ filter passes (filter_map f (take i xs)) ++ filter passes (option_to_list (f (get_or xs i d)))
found_more f passes xs i d lt = ap (filter passes) (filter_map_more f xs i d lt) ∙ filter-append passes (filter_map f (take i xs)) (option_to_list (f (get_or xs i d)))

-- the same, as a loop's step
pub finds : {A B : Type 0} (f : A → Option B) (passes : B → Bool) (xs : List A) (i : ℕ) (x : A) (so_far new : List B) (given : Option B) → i < length xs → x ≡ get_or xs i x
    → so_far ≡ filter passes (filter_map f (take i xs)) → option_to_list given ≡ filter passes (option_to_list (f x)) → new ≡ so_far ++ option_to_list given
    → new ≡ filter passes (filter_map f (take (i + 1) xs))
finds f passes xs i x so_far new given lt at before is adds =
    adds ∙ ap (λ ys. ys ++ option_to_list given) before
    ∙ ap (λ ys. filter passes (filter_map f (take i xs)) ++ ys) (is ∙ ap (λ y. filter passes (option_to_list (f y))) at)
    ∙ sym (found_more f passes xs i x lt)

-- ---- what is found in what was found

through_one : {B C : Type 0} (h : B → Option C) (found : Option B) (rest : List B) (ys : List C) → ys ≡ filter_map h rest → cons_option (option_and_then h found) ys ≡ filter_map h (cons_option found rest)
through_one h None rest ys is = is
through_one h (Some y) rest ys is = ap (cons_option (h y)) is

pub found_through : {A B C : Type 0} (g : A → Option B) (h : B → Option C) (xs : List A) → filter_map (λ x. option_and_then h (g x)) xs ≡ filter_map h (filter_map g xs)
found_through g h [] = refl
found_through g h (x ∷ xs) = through_one h (g x) (filter_map g xs) (filter_map (λ x. option_and_then h (g x)) xs) (found_through g h xs)

-- the same, where the items are seen through a function
pub found_shown : {X A B : Type 0} (f : A → Option B) (shown : X → A) (xs : List X) → filter_map (λ x. f (shown x)) xs ≡ filter_map f (map shown xs)
found_shown f shown [] = refl
found_shown f shown (x ∷ xs) = ap (cons_option (f (shown x))) (found_shown f shown xs)

-- ---- the first of what is found that passes

module _ {A B : Type 0} (g : A → Option B) (p : B → Bool) (xs : List A) (i : ℕ) (x : A) (lt : i < length xs) (at : x ≡ get_or xs i x) (none : find p (filter_map g (take i xs)) ≡ None) where
  -- among those so far and one more: none came before
  pub first_more : find p (filter_map g (take (i + 1) xs)) ≡ find p (option_to_list (g x))
  first_more =
      ap (find p) (filter_map_more g xs i x lt)
      ∙ find-append p (filter_map g (take i xs)) (option_to_list (g (get_or xs i x)))
      ∙ ap (λ found. option_or found (find p (option_to_list (g (get_or xs i x))))) none
      ∙ ap (λ y. find p (option_to_list (g y))) (sym at)

  -- it is the first of all
  pub first_of_all : (y : B) → find p (option_to_list (g x)) ≡ Some y → Some y ≡ find p (filter_map g xs)
  first_of_all y is = sym (
      ap (λ ys. find p (filter_map g ys)) (sym (take-append-drop (i + 1) xs))
      ∙ ap (find p) (filter_map-append g (take (i + 1) xs) (drop (i + 1) xs))
      ∙ find-append p (filter_map g (take (i + 1) xs)) (filter_map g (drop (i + 1) xs))
      ∙ ap (λ found. option_or found (find p (filter_map g (drop (i + 1) xs)))) (first_more ∙ is))
