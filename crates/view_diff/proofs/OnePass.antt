-- One pass over two lists whose keys strictly rise finds the items of the second that the first lacks, and the keys of
-- the first that the second lacks.
use Rattle.std.proofs.Common.{◌≡◌, Bool, true, false, cond, not, ◌&&◌, ◌||◌, List, [], ◌∷◌, map, Ordering, refl, ap, ◌∙◌}
use lib.Dec.{T}
use Rattle.std.specs.Cmp.{IsTotalOrder, tied_back}
use Rattle.std.specs.FinMap.Entries.{below_all}
use Rattle.std.specs.List.{AllByRecursion, filter, list_any}
use Rattle.std.specs.Ordering.{eq_by_cmp, is_lt, ordering_reverse}
use Rattle.std.specs.declared.cmp.Ordering.TheVariants.{Less, Equal, Greater}
use Rattle.mesh_base.specs.Keyed.{keyed, IsKeyed}

first : (a b : Bool) → T (a && b) → T a
first true b p = tt
first false b p = p

second : (a b : Bool) → T (a && b) → T b
second true b p = p
second false b p = absurd p

less : (r : Ordering) → T (is_lt r) → r ≡ Less
less Less p = refl
less Equal p = absurd p
less Greater p = absurd p

module _ {X K : Type 0} {R : K → K → Ordering} (o : IsTotalOrder R) (key : X → K) (same : X → X → Bool)
    (apart : (x y : X) → R (key x) (key y) ≡ Less → same x y ≡ false) (apart' : (x y : X) → R (key y) (key x) ≡ Less → same x y ≡ false) where
  abbrev IsRising : List X → Type 0
  IsRising xs = IsKeyed R key (λ x. x) xs

  abbrev pub lacking : List X → List X → List X
  lacking olds news = filter (λ x. not (list_any (same x) olds)) news

  abbrev pub missing : List X → List K → List K
  missing news ks = filter (λ k. not (list_any (λ x. eq_by_cmp R k (key x)) news)) ks

  abbrev Above : K → List X → Type 0
  Above k xs = AllByRecursion (λ x. R k (key x) ≡ Less) xs

  above_below : (k : K) (x : X) (xs : List X) → R k (key x) ≡ Less → T (below_all R (key x) (keyed R key (λ x. x) xs)) → Above k xs
  above_below k x [] lt h = tt
  above_below k x (y ∷ ys) lt h = (o.trans k (key x) (key y) lt (less _ (first _ _ h)), above_below k x ys lt (second _ _ h))

  -- all keys are above one that is below the first
  above_all : (k : K) (x : X) (xs : List X) → IsRising (x ∷ xs) → R k (key x) ≡ Less → Above k (x ∷ xs)
  above_all k x xs h lt = (lt, above_below k x xs lt (first _ _ h))

  above_tied : (k : K) (x : X) (xs : List X) → R k (key x) ≡ Equal → T (below_all R (key x) (keyed R key (λ x. x) xs)) → Above k xs
  above_tied k x [] e h = tt
  above_tied k x (y ∷ ys) e h = (o.congr k (key x) (key y) e ∙ less _ (first _ _ h), above_tied k x ys e (second _ _ h))

  -- and those after the first are above one that ties with it
  above_rest : (k : K) (x : X) (xs : List X) → IsRising (x ∷ xs) → R k (key x) ≡ Equal → Above k xs
  above_rest k x xs h e = above_tied k x xs e (first _ _ h)

  none_tied : (k : K) (xs : List X) → Above k xs → list_any (λ x. eq_by_cmp R k (key x)) xs ≡ false
  none_tied k [] h = refl
  none_tied k (x ∷ xs) h = rw h.0 (none_tied k xs h.1)

  none_same : (x : X) (xs : List X) → Above (key x) xs → list_any (same x) xs ≡ false
  none_same x [] h = refl
  none_same x (y ∷ ys) h = rw (apart x y h.0) (none_same x ys h.1)

  -- an old item below all new ones is none of them
  old_passed : (w : X) (ws xs : List X) → Above (key w) xs → lacking (w ∷ ws) xs ≡ lacking ws xs
  old_passed w ws [] h = refl
  old_passed w ws (x ∷ xs) h = rw (apart' x w h.0, old_passed w ws xs h.1) refl

  -- a new item below all old ones has none of their keys
  new_passed : (r : X) (rs ws : List X) → Above (key r) ws → missing (r ∷ rs) (map key ws) ≡ missing rs (map key ws)
  new_passed r rs [] h = refl
  new_passed r rs (w ∷ ws) h =
      let turned : R (key w) (key r) ≡ Greater = o.antisymm (key w) (key r) ∙ ap ordering_reverse h.0 in
      rw (turned, new_passed r rs ws h.1) refl

  pub rest_rising : (x : X) (xs : List X) → IsRising (x ∷ xs) → IsRising xs
  rest_rising x xs h = second _ _ h

  module _ (w r : X) (ws rs : List X) (olds : IsRising (w ∷ ws)) (news : IsRising (r ∷ rs)) where
    pub lesser_lacking : R (key w) (key r) ≡ Less → lacking (w ∷ ws) (r ∷ rs) ≡ lacking ws (r ∷ rs)
    lesser_lacking lt = old_passed w ws (r ∷ rs) (above_all (key w) r rs news lt)

    pub lesser_missing : R (key w) (key r) ≡ Less → missing (r ∷ rs) (map key (w ∷ ws)) ≡ key w ∷ missing (r ∷ rs) (map key ws)
    lesser_missing lt = rw (none_tied (key w) (r ∷ rs) (above_all (key w) r rs news lt)) refl

    back : R (key w) (key r) ≡ Greater → R (key r) (key w) ≡ Less
    back gt = o.antisymm (key r) (key w) ∙ ap ordering_reverse gt

    pub greater_lacking : R (key w) (key r) ≡ Greater → lacking (w ∷ ws) (r ∷ rs) ≡ r ∷ lacking (w ∷ ws) rs
    greater_lacking gt = rw (none_same r (w ∷ ws) (above_all (key r) w ws olds (back gt))) refl

    pub greater_missing : R (key w) (key r) ≡ Greater → missing (r ∷ rs) (map key (w ∷ ws)) ≡ missing rs (map key (w ∷ ws))
    greater_missing gt = new_passed r rs (w ∷ ws) (above_all (key r) w ws olds (back gt))

    unsure : (b : Bool) → not (b || false) ≡ not b
    unsure true = refl
    unsure false = refl

    pub equal_lacking : R (key w) (key r) ≡ Equal → lacking (w ∷ ws) (r ∷ rs) ≡ cond (not (same r w)) (r ∷ lacking ws rs) (lacking ws rs)
    equal_lacking e =
        let old_rest = none_same r ws (above_rest (key r) w ws olds (tied_back o (key w) (key r) e)) in
        rw (old_rest, unsure (same r w), old_passed w ws rs (above_rest (key w) r rs news e)) refl

    pub equal_missing : R (key w) (key r) ≡ Equal → missing (r ∷ rs) (map key (w ∷ ws)) ≡ missing rs (map key ws)
    equal_missing e = rw e (new_passed r rs ws (above_rest (key r) w ws olds (tied_back o (key w) (key r) e)))

  -- where one of the lists has come to its end
  pub all_lacking : (xs : List X) → lacking [] xs ≡ xs
  all_lacking [] = refl
  all_lacking (x ∷ xs) = ap (λ rest. x ∷ rest) (all_lacking xs)

  pub all_missing : (ks : List K) → missing [] ks ≡ ks
  all_missing [] = refl
  all_missing (k ∷ ks) = ap (λ rest. k ∷ rest) (all_missing ks)
