-- What a function gives of the items of a list, without those of which it gives nothing.
use Rattle.std.proofs.Common.{◌≡◌, ℕ, ◌+◌, ◌<◌, ◌++◌, ◌∷◌, List, [], Option, Some, None, length, get_or, option_to_list, take, refl, sym, ap, ◌∙◌}
use Rattle.std.specs.List.{cons_option, filter_map}
use Rattle.std.proofs.lemmas.List.{take_more}
use Rattle.std.proofs.lemmas.List.Elements.{filter_map-append}

-- what the items so far give, and one more
pub one_more : {A B : Type 0} (f : A → Option B) (xs : List A) (i : ℕ) (d : A) → i < length xs → filter_map f (take (i + 1) xs) ≡ filter_map f (take i xs) ++ option_to_list (f (get_or xs i d))
one_more {B} f xs i d lt = ap (filter_map f) (take_more xs i d lt) ∙ filter_map-append f (take i xs) (get_or xs i d ∷ []) ∙ ap (λ ys. filter_map f (take i xs) ++ ys) (one (f (get_or xs i d)))
  where
    one : (found : Option B) → cons_option found [] ≡ option_to_list found
    one None = refl
    one (Some y) = refl

pub gathers : {A B : Type 0} (f : A → Option B) (xs : List A) (i : ℕ) (x : A) (so_far new : List B) (given : Option B) → i < length xs → x ≡ get_or xs i x
    → so_far ≡ filter_map f (take i xs) → given ≡ f x → new ≡ so_far ++ option_to_list given → new ≡ filter_map f (take (i + 1) xs)
gathers f xs i x so_far new given lt at before is adds =
    adds ∙ ap (λ ys. ys ++ option_to_list given) before ∙ ap (λ found. filter_map f (take i xs) ++ option_to_list found) (is ∙ ap f at) ∙ sym (one_more f xs i x lt)

-- functions that give the same of each item
pub alike : {A B : Type 0} (f g : A → Option B) → ((x : A) → f x ≡ g x) → (xs : List A) → filter_map f xs ≡ filter_map g xs
alike f g same [] = refl
alike f g same (x ∷ xs) = (λ i. cons_option (same x i) (alike f g same xs i))
