-- Tests that tell whether something holds, as whether two values are one.
use Rattle.std.proofs.Common.{◌≡◌, ◌&&◌, Bool, true, List, [], ◌∷◌, map, Option, Some, None, refl, ap}
use Rattle.std.specs.Bool.{Decides}
use Rattle.std.specs.List.{All, Any, list_all, list_any}
use Rattle.std.proofs.lemmas.Bool.Decides.{Decides-and, Decides-by_and, Decides-like}
use Rattle.std.proofs.lemmas.List.Folds.{Any-from_list_any, list_any-from_Any}
use Rattle.view_rules.specs.Same.{pass, same_option}

pub is_true_decides : (b : Bool) → Decides b (b ≡ true)
is_true_decides b = (λ e. e, λ e. e)

pub both_decide : (a b : Bool) → Decides (a && b) ((a ≡ true) × (b ≡ true))
both_decide a b = Decides-and a b (is_true_decides a) (is_true_decides b)

module _ {X : Type 0} (p : X → Bool) (P : X → Type 0) (each : (x : X) → Decides (p x) (P x)) where
  pub all_decides : (xs : List X) → Decides (list_all p xs) (All P xs)
  all_decides = Decides-by_and p P (list_all p) each refl (λ _ _. refl)

  pub any_decides : (xs : List X) → Decides (list_any p xs) (Any P xs)
  any_decides xs = (
    λ e. let at = Any-from_list_any p xs e in (at.0, at.1, at.2, at.3, (each at.1).0 at.4),
    λ h. list_any-from_Any p xs (h.0, h.1, h.2, h.3, (each h.1).1 h.4),
  )

pub option_decides : {X : Type 0} (same : X → X → Bool) → ((x y : X) → Decides (same x y) (x ≡ y)) → (a b : Option X) → Decides (same_option same a b) (a ≡ b)
option_decides same each None None = (λ e. refl, λ e. refl)
option_decides same each None (Some y) = (λ e. cc, λ e. cc)
option_decides same each (Some x) None = (λ e. cc, λ e. cc)
option_decides same each (Some x) (Some y) = (λ e. ap Some ((each x y).0 e), λ e. (each x y).1 (cc))

-- an item, with a proof that the test of it tells
abbrev pub Told : {X : Type 0} → (X → X → Bool) → Type 0
Told {X} same = (x : X) × ((other : X) → Decides (same x other) (x ≡ other))

abbrev pub told_items : {X : Type 0} (same : X → X → Bool) → List (Told same) → List X
told_items same items = map (λ e. e.0) items

pub pass_decides : {X : Type 0} (same : X → X → Bool) (items : List (Told same)) (others : List X) → Decides (pass (map same (told_items same items)) others) (told_items same items ≡ others)
pass_decides same [] [] = (λ e. refl, λ e. refl)
pass_decides same [] (y ∷ ys) = (λ e. cc, λ e. cc)
pass_decides same (x ∷ xs) [] = (λ e. cc, λ e. cc)
pass_decides same (x ∷ xs) (y ∷ ys) =
    let rest = told_items same xs in
    Decides-like _ (λ (p : (x.0 ≡ y) × (rest ≡ ys)) i. p.0 i ∷ p.1 i) (λ e. (cc, cc)) (Decides-and (same x.0 y) (pass (map same rest) ys) (x.1 y) (pass_decides same xs ys))
