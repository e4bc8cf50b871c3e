-- One item more of a walk with places.
use Rattle.std.proofs.Common.{◌≡◌, ℕ, ◌+◌, ◌<◌, Bool, true, false, ◌&&◌, ◌||◌, List, [], ◌∷◌, ◌++◌, length, get_or, map, take, refl, sym, ap, ◌∙◌, arith, length-take, append-nil, append_assoc}
use Rattle.std.specs.List.{fold, list_all, list_any}
use Rattle.std.proofs.lemmas.List.{take_more}
use Rattle.std.proofs.lemmas.List.Folds.{list_all_at, list_all_more, list_any_at, list_any_more}
use Rattle.std.proofs.lemmas.List.Sums.{fold-append}
use Rattle.route_match.specs.Matching.{flat_from}

module _ {X Y : Type 0} (f : ℕ → X → List Y) where
  flat_from-push : (k : ℕ) (xs : List X) (x : X) (j : ℕ) → j ≡ k + length xs → flat_from f k (xs ++ x ∷ []) ≡ flat_from f k xs ++ f j x
  flat_from-push k [] x j is = let e : k ≡ j = omega arith in append-nil (f k x) ∙ ap (λ n. f n x) e
  flat_from-push k (y ∷ ys) x j is = ap (λ zs. f k y ++ zs) (flat_from-push (k + 1) ys x j (omega arith)) ∙ sym (append_assoc (f k y) (flat_from f (k + 1) ys) (f j x))

  flat_from_more : (xs : List X) (i : ℕ) (d : X) → i < length xs → flat_from f 0 (take (i + 1) xs) ≡ flat_from f 0 (take i xs) ++ f i (get_or xs i d)
  flat_from_more xs i d lt =
      let long : length (take i xs) ≡ i = simp length-take (omega arith) in
      ap (flat_from f 0) (take_more xs i d lt) ∙ flat_from-push 0 (take i xs) (get_or xs i d) i (omega arith)

  fold_more : {B : Type 0} (step : B → Y → B) (b : B) (xs : List X) (i : ℕ) (d : X) → i < length xs → fold step b (flat_from f 0 (take (i + 1) xs)) ≡ fold step (fold step b (flat_from f 0 (take i xs))) (f i (get_or xs i d))
  fold_more step b xs i d lt = ap (fold step b) (flat_from_more xs i d lt) ∙ fold-append step b (flat_from f 0 (take i xs)) (f i (get_or xs i d))

  -- as a loop's step
  pub folds : {B : Type 0} (step : B → Y → B) (b so_far next : B) (xs : List X) (i : ℕ) (x : X) → i < length xs → x ≡ get_or xs i x → so_far ≡ fold step b (flat_from f 0 (take i xs)) → next ≡ fold step so_far (f i x)
      → next ≡ fold step b (flat_from f 0 (take (i + 1) xs))
  folds step b so_far next xs i x lt at before is =
      is ∙ ap (λ s. fold step s (f i x)) before ∙ ap (λ y. fold step (fold step b (flat_from f 0 (take i xs))) (f i y)) at ∙ sym (fold_more step b xs i x lt)

flat_from-map : {X Y Z : Type 0} (f : ℕ → X → List Y) (h : Z → X) (k : ℕ) (zs : List Z) → flat_from f k (map h zs) ≡ flat_from (λ place z. f place (h z)) k zs
flat_from-map f h k [] = refl
flat_from-map f h k (z ∷ zs) = ap (λ ys. f k (h z) ++ ys) (flat_from-map f h (k + 1) zs)

-- the same, of items that are seen through a function
pub folds_through : {X Y Z B : Type 0} (f : ℕ → X → List Y) (h : Z → X) (step : B → Y → B) (b so_far next : B) (zs : List Z) (i : ℕ) (z : Z) → i < length zs → z ≡ get_or zs i z
    → so_far ≡ fold step b (flat_from f 0 (map h (take i zs))) → next ≡ fold step so_far (f i (h z)) → next ≡ fold step b (flat_from f 0 (map h (take (i + 1) zs)))
folds_through f h step b so_far next zs i z lt at before is =
    folds (λ place z. f place (h z)) step b so_far next zs i z lt at (before ∙ ap (fold step b) (flat_from-map f h 0 (take i zs))) is
    ∙ sym (ap (fold step b) (flat_from-map f h 0 (take (i + 1) zs)))

-- ---- tests of all items

both : (a b : Bool) → a ≡ true → b ≡ true → (a && b) ≡ true
both true true first second = refl
both true false first second = cc
both false b first second = cc

neither : (a b : Bool) → a ≡ false → b ≡ false → (a || b) ≡ false
neither false false first second = refl
neither false true first second = cc
neither true b first second = cc

module _ {X : Type 0} (p : X → Bool) (xs : List X) (i : ℕ) (x : X) (lt : i < length xs) (at : x ≡ get_or xs i x) where
  pub any_at : p x ≡ true → true ≡ list_any p xs
  any_at is = sym (list_any_at p xs i x lt (ap p (sym at) ∙ is))

  pub any_more : list_any p (take i xs) ≡ false → p x ≡ false → list_any p (take (i + 1) xs) ≡ false
  any_more before is = list_any_more p xs i x lt ∙ neither _ _ before (ap p (sym at) ∙ is)

  pub all_stops : p x ≡ false → false ≡ list_all p xs
  all_stops is = sym (list_all_at p xs i x lt (ap p (sym at) ∙ is))

  pub all_more : list_all p (take i xs) ≡ true → p x ≡ true → list_all p (take (i + 1) xs) ≡ true
  all_more before is = list_all_more p xs i x lt ∙ both _ _ before (ap p (sym at) ∙ is)
