-- A list that rises, and one behind it.
use Rattle.std.proofs.Common.{◌≡◌, ℕ, suc, ◌<◌, Bool, true, false, ◌&&◌, get_or, length, List, [], ◌∷◌, ◌++◌, Ordering, refl, ap, subst, sym, arith}
use lib.Dec.{T}
use Rattle.std.specs.Cmp.{IsTotalOrder}
use Rattle.std.specs.FinMap.Entries.{below_all}
use Rattle.std.specs.Ordering.{is_lt}
use Rattle.std.specs.declared.cmp.Ordering.TheVariants.{Less, Equal, Greater}
use Rattle.mesh_base.specs.Keyed.{IsKeyed, keyed}

both : (a b : Bool) → T a → T b → T (a && b)
both true b p q = q
both false b p q = p

first : (a b : Bool) → T (a && b) → T a
first true b p = tt
first false b p = p

second : (a b : Bool) → T (a && b) → T b
second true b p = p
second false b p = absurd p

less : (r : Ordering) → T (is_lt r) → r ≡ Less
less Less p = refl
less Equal p = absurd p
less Greater p = absurd p

module _ {K : Type 0} {cmp : K → K → Ordering} (total : IsTotalOrder cmp) where
  abbrev Rises : List K → Type 0
  Rises keys = IsKeyed cmp (λ k. k) (λ k. k) keys

  abbrev Below : K → List K → Type 0
  Below k keys = T (below_all cmp k (keyed cmp (λ k. k) (λ k. k) keys))

  lesser : (k j : K) → cmp k j ≡ Less → T (is_lt (cmp k j))
  lesser k j lt = subst (λ r. T (is_lt r)) (sym lt) tt

  through : (k j : K) (keys : List K) → cmp k j ≡ Less → Below j keys → Below k keys
  through k j [] lt below = tt
  through k j (x ∷ xs) lt below = both _ _ (lesser k x (total.trans k j x lt (less _ (first _ _ below)))) (through k j xs lt (second _ _ below))

  -- below the first is below all
  below_rising : (k : K) (ys : List K) → Rises ys → ((d : K) → 0 < length ys → cmp k (get_or ys 0 d) ≡ Less) → Below k ys
  below_rising k [] h lt = tt
  below_rising k (y ∷ ys) h lt = let at = lt k (omega arith) in both _ _ (lesser k y at) (through k y ys at (first _ _ h))

  -- the last of the one is below the first of the other
  abbrev pub Meet : List K → List K → Type 0
  Meet xs ys = (i : ℕ) (d : K) → length xs ≡ suc i → 0 < length ys → cmp (get_or xs i d) (get_or ys 0 d) ≡ Less

  pub joined_rises : (xs ys : List K) → Rises xs → Rises ys → Meet xs ys → Rises (xs ++ ys)
  joined_rises [] ys h g meet = g
  joined_rises (x ∷ []) ys h g meet = both _ _ (below_rising x ys g (λ d some. meet 0 d refl some)) g
  joined_rises (x ∷ w ∷ ws) ys h g meet =
      let rest = joined_rises (w ∷ ws) ys (second _ _ h) g (λ i d is some. meet (suc i) d (ap suc is) some) in
      let lt = less _ (first _ _ (first _ _ h)) in
      both _ _ (both _ _ (lesser x w lt) (through x w (ws ++ ys) lt (first _ _ rest))) rest
