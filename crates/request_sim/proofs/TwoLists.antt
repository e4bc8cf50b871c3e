-- The lesser of the firsts of two lists is the first that passes either test.
use Rattle.std.proofs.Common.{◌≡◌, Bool, true, false, cond, ◌||◌, List, [], ◌∷◌, Some, None, Option, Ordering, refl}
use Rattle.std.specs.Cmp.{IsTotalOrder}
use Rattle.std.specs.List.{find}
use Rattle.std.specs.Option.{option_map}
use Rattle.std.specs.Ordering.{is_gt}
use Rattle.std.specs.declared.cmp.Ordering.TheVariants.{Less, Equal, Greater}

-- the lesser of two, where there are any
abbrev pub lesser_of : {D : Type 0} → (D → D → Ordering) → Option D → Option D → Option D
lesser_of R None b = b
lesser_of R (Some a) None = Some a
lesser_of R (Some a) (Some b) = Some (cond (is_gt (R a b)) b a)

module _ {A D : Type 0} {R : D → D → Ordering} (o : IsTotalOrder R) (d : A → D) (g h : A → Bool) where
  -- what passes a test later is above what passes one before
  abbrev pub AreAbove : D → List A → Type 0
  AreAbove k [] = Unit {0}
  AreAbove k (y ∷ ys) = ((g y || h y) ≡ true → R k (d y) ≡ Less) × AreAbove k ys

  abbrev pub Rises : List A → Type 0
  Rises [] = Unit {0}
  Rises (x ∷ xs) = ((g x || h x) ≡ true → AreAbove (d x) xs) × Rises xs

  or_left : (a b : Bool) → a ≡ true → (a || b) ≡ true
  or_left true b e = refl
  or_left false b e = cc

  or_right : (a b : Bool) → b ≡ true → (a || b) ≡ true
  or_right true b e = refl
  or_right false b e = e

  above_at : (k : D) (y : A) (b : Bool) (later : Option A) → (b ≡ true → R k (d y) ≡ Less) → lesser_of R (Some k) (option_map d later) ≡ Some k
      → lesser_of R (Some k) (option_map d (cond b (Some y) later)) ≡ Some k
  above_at k y true later less rest = rw (less refl) refl
  above_at k y false later less rest = rest

  first_stays : (k : D) (xs : List A) → AreAbove k xs → lesser_of R (Some k) (option_map d (find h xs)) ≡ Some k
  first_stays k [] above = refl
  first_stays k (y ∷ ys) above = above_at k y (h y) (find h ys) (λ e. above.0 (or_right (g y) (h y) e)) (first_stays k ys above.1)

  below_at : (k : D) (y : A) (b : Bool) (later : Option A) → (b ≡ true → R k (d y) ≡ Less) → lesser_of R (option_map d later) (Some k) ≡ Some k
      → lesser_of R (option_map d (cond b (Some y) later)) (Some k) ≡ Some k
  below_at k y true later less rest = rw (o.antisymm (d y) k, less refl) refl
  below_at k y false later less rest = rest

  second_stays : (k : D) (xs : List A) → AreAbove k xs → lesser_of R (option_map d (find g xs)) (Some k) ≡ Some k
  second_stays k [] above = refl
  second_stays k (y ∷ ys) above = below_at k y (g y) (find g ys) (λ e. above.0 (or_left (g y) (h y) e)) (second_stays k ys above.1)

  itself : (k : D) (r : Ordering) → ◌≡◌ {A = Option D} (Some (cond (is_gt r) k k)) (Some k)
  itself k Less = refl
  itself k Equal = refl
  itself k Greater = refl

  step : (x : A) (xs : List A) (a b : Bool) → g x ≡ a → h x ≡ b → ((g x || h x) ≡ true → AreAbove (d x) xs)
      → lesser_of R (option_map d (find g xs)) (option_map d (find h xs)) ≡ option_map d (find (λ y. g y || h y) xs)
      → lesser_of R (option_map d (cond a (Some x) (find g xs))) (option_map d (cond b (Some x) (find h xs))) ≡ option_map d (cond (a || b) (Some x) (find (λ y. g y || h y) xs))
  step x xs true true ga hb above rest = itself (d x) (R (d x) (d x))
  step x xs true false ga hb above rest = first_stays (d x) xs (above (or_left (g x) (h x) ga))
  step x xs false true ga hb above rest = second_stays (d x) xs (above (or_right (g x) (h x) hb))
  step x xs false false ga hb above rest = rest

  pub first_of_two : (xs : List A) → Rises xs → lesser_of R (option_map d (find g xs)) (option_map d (find h xs)) ≡ option_map d (find (λ y. g y || h y) xs)
  first_of_two [] rises = refl
  first_of_two (x ∷ xs) rises = step x xs (g x) (h x) refl refl rises.0 (first_of_two xs rises.1)
