-- One object more, and one key more.
use Rattle.std.proofs.Common.{◌≡◌, ℕ, ◌+◌, ◌<◌, Bool, true, false, not, ◌&&◌, ◌||◌, List, drop, take, get_or, length, refl, sym, ap, ◌∙◌}
use Rattle.std.specs.List.{list_any}
use Rattle.std.proofs.lemmas.List.{drop_more}
use Rattle.std.proofs.lemmas.List.Folds.{list_any_more}

neither : (a b c : Bool) → (not b && (not a && c)) ≡ (not (a || b) && c)
neither true true c = refl
neither true false c = refl
neither false true c = refl
neither false false c = refl

either : (a b c : Bool) → (b || (a || c)) ≡ ((a || b) || c)
either true true c = refl
either true false c = refl
either false true c = refl
either false false c = refl

-- the object at i, before those that are taken out
pub taken_before : {X : Type 0} (p : X → Bool) (xs : List X) (i n : ℕ) (x : X) (after mid start : Bool) → n ≡ i + 1 → i < length xs → x ≡ get_or xs i x
    → after ≡ (not (p x) && mid) → mid ≡ (not (list_any p (drop n xs)) && start) → after ≡ (not (list_any p (drop i xs)) && start)
taken_before p xs i n x after mid start next lt at is so_far =
    is ∙ ap (λ b. not (p x) && b) (so_far ∙ ap (λ n. not (list_any p (drop n xs)) && start) next) ∙ neither (list_any p (drop (i + 1) xs)) (p x) start
    ∙ ap (λ b. not b && start) (swapped (list_any p (drop (i + 1) xs)) (p x) ∙ ap (λ y. p y || list_any p (drop (i + 1) xs)) at ∙ sym (ap (list_any p) (drop_more xs i x lt)))
  where
    swapped : (a b : Bool) → (a || b) ≡ (b || a)
    swapped true true = refl
    swapped true false = refl
    swapped false true = refl
    swapped false false = refl

module _ {X : Type 0} (p : X → Bool) (xs : List X) (i : ℕ) (x : X) (after mid start : Bool) (lt : i < length xs) (at : x ≡ get_or xs i x) where
  pub any_more : list_any p (take (i + 1) xs) ≡ (list_any p (take i xs) || p x)
  any_more = list_any_more p xs i x lt ∙ ap (λ y. list_any p (take i xs) || p y) (sym at)

  pub put_more : after ≡ (p x || mid) → mid ≡ (list_any p (take i xs) || start) → after ≡ (list_any p (take (i + 1) xs) || start)
  put_more is so_far = is ∙ ap (λ b. p x || b) so_far ∙ either (list_any p (take i xs)) (p x) start ∙ ap (λ b. b || start) (sym any_more)
