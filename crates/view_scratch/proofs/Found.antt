-- Lists that are added up item by item.
use Rattle.std.proofs.Common.{◌≡◌, ℕ, ◌+◌, ◌<◌, List, [], ◌∷◌, ◌++◌, Some, None, Option, get_or, length, map, option_to_list, refl, sym, ap, take, ◌∙◌, append-nil}
use Rattle.std.proofs.lemmas.List.{flat_map_more, map_more, take_more}
use Rattle.std.specs.List.{filter_map, cons_option, flat_map}

at_one : {A B : Type 0} (f : A → List B) (found : Option A) (as' : List A) → flat_map f (option_to_list found) ++ flat_map f as' ≡ flat_map f (cons_option found as')
at_one f None as' = refl
at_one f (Some a) as' = ap (λ bs. bs ++ flat_map f as') (append-nil (f a))

-- the lists of the items that are found, item by item
pub each_found : {A B C : Type 0} (f : B → List C) (h : A → Option B) (as' : List A) → flat_map (λ a. flat_map f (option_to_list (h a))) as' ≡ flat_map f (filter_map h as')
each_found f h [] = refl
each_found f h (a ∷ as') = ap (λ cs. flat_map f (option_to_list (h a)) ++ cs) (each_found f h as') ∙ at_one f (h a) (filter_map h as')

-- the lists of the items so far, and of one more
pub flat_more : {X Y : Type 0} (f : X → List Y) (before rows new : List Y) (xs : List X) (i : ℕ) (x : X) → i < length xs → x ≡ get_or xs i x → rows ≡ before ++ flat_map f (take i xs) → new ≡ rows ++ f x
    → new ≡ before ++ flat_map f (take (i + 1) xs)
flat_more f before rows new xs i x lt at so_far adds =
    adds ∙ ap (λ ys. ys ++ f x) so_far ∙ flat_map_more f before (take i xs) x
    ∙ ap (λ ys. before ++ flat_map f ys) (ap (λ y. take i xs ++ y ∷ []) at ∙ sym (take_more xs i x lt))

-- one function after another
pub map_through : {X Y Z : Type 0} (f : Y → Z) (g : X → Y) (xs : List X) → map (λ x. f (g x)) xs ≡ map f (map g xs)
map_through f g [] = refl
map_through f g (x ∷ xs) = ap (λ zs. f (g x) ∷ zs) (map_through f g xs)

-- what a function gives at the items so far, and at one more
pub mapped_more : {X Y : Type 0} (f : X → Y) (xs : List X) (i : ℕ) (x : X) (so_far new : List Y) (y : Y) → i < length xs → x ≡ get_or xs i x → so_far ≡ map f (take i xs) → y ≡ f x → new ≡ so_far ++ y ∷ []
    → new ≡ map f (take (i + 1) xs)
mapped_more f xs i x so_far new y lt at before is adds =
    adds ∙ (λ j. before j ++ is j ∷ []) ∙ ap (λ z. map f (take i xs) ++ f z ∷ []) at ∙ sym (map_more f xs i x lt)
