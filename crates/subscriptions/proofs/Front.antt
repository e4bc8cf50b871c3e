-- A list that begins at a place of a longer one.
use Rattle.std.proofs.Common.{◌≡◌, ◌+◌, ◌-◌, ◌<◌, ◌≤◌, ℕ, suc, zero, List, [], ◌∷◌, ◌++◌, take, drop, length, sym, ap, ◌∙◌, arith, append_assoc}
use Rattle.std.proofs.lemmas.List.{drop_at, length-append, length-drop, length-take-le, take-append-le, take-take, take_all}
use Rattle.std.specs.List.{insert, remove, slice_rotate_right}
use borrow.Rule.Slice.PartMut.{mid_of, put_mid}

module _ {X : Type 0} where
  pub insert_behind : (n i : ℕ) (x : X) (xs : List X) → n ≤ length xs → drop n (insert xs (n + i) x) ≡ insert (drop n xs) i x
  insert_behind zero i x xs le = let on : zero + i ≡ i = omega arith in ap (λ k. insert xs k x) on
  insert_behind (suc n) i x [] le = absurd (omega (arith, le))
  insert_behind (suc n) i x (y ∷ ys) le =
      let on : suc n + i ≡ suc (n + i) = omega arith in
      let less : n ≤ length ys = omega (arith, le) in
      ap (λ k. drop (suc n) (insert (y ∷ ys) k x)) on ∙ insert_behind n i x ys less

  pub insert_longer : (n i : ℕ) (x : X) (xs : List X) → n ≤ length xs → n ≤ length (insert xs (n + i) x)
  insert_longer zero i x xs le = omega arith
  insert_longer (suc n) i x [] le = absurd (omega (arith, le))
  insert_longer (suc n) i x (y ∷ ys) le =
      let on : suc n + i ≡ suc (n + i) = omega arith in
      let less : n ≤ length ys = omega (arith, le) in
      let rest = insert_longer n i x ys less in
      rw on (omega (arith, rest))

  pub remove_behind : (n i : ℕ) (xs : List X) → drop n (remove xs (n + i)) ≡ remove (drop n xs) i
  remove_behind zero i xs = let on : zero + i ≡ i = omega arith in ap (λ k. remove xs k) on
  remove_behind (suc n) i [] = let on : suc n + i ≡ suc (n + i) = omega arith in ap (λ k. drop (suc n) (remove [] k)) on ∙ sym (ap (λ front. front ++ []) (take_all i [] (omega arith)))
  remove_behind (suc n) i (y ∷ ys) = let on : suc n + i ≡ suc (n + i) = omega arith in ap (λ k. drop (suc n) (remove (y ∷ ys) k)) on ∙ remove_behind n i ys

  pub remove_longer : (n i : ℕ) (xs : List X) → n ≤ length xs → n ≤ length (remove xs (n + i))
  remove_longer zero i xs le = omega arith
  remove_longer (suc n) i [] le = absurd (omega (arith, le))
  remove_longer (suc n) i (y ∷ ys) le =
      let on : suc n + i ≡ suc (n + i) = omega arith in
      let less : n ≤ length ys = omega (arith, le) in
      let rest = remove_longer n i ys less in
      rw on (omega (arith, rest))

  -- the item at a place is moved to the front, and the items before it up by one
  pub moved_up : (n i k : ℕ) (xs : List X) → k ≡ suc i → i < length (drop n xs) → drop (n + 1) (put_mid n k xs (slice_rotate_right (mid_of n k xs) 1)) ≡ remove (drop n xs) i
  moved_up n i k xs one within =
      let front = take n xs in
      let part = take k (drop n xs) in
      let last = length part - 1 in
      let long = length-take-le k (drop n xs) (omega (arith, one, within)) in
      let fits = length-take-le n xs (omega (arith, within, length-drop n xs)) in
      let ahead : length (front ++ drop last part) ≡ n + 1 = omega (arith, one, long, fits, length-append front (drop last part), length-drop last part) in
      ap (λ ys. drop (n + 1) (front ++ ys)) (append_assoc (drop last part) (take last part) (drop k (drop n xs)))
      ∙ ap (drop (n + 1)) (sym (append_assoc front (drop last part) (take last part ++ drop k (drop n xs))))
      ∙ drop_at (front ++ drop last part) (take last part ++ drop k (drop n xs)) (n + 1) ahead
      ∙ ap (λ ys. ys ++ drop k (drop n xs)) (take-take last k (drop n xs) (omega (arith, long)))
      ∙ ap (λ m. take m (drop n xs) ++ drop k (drop n xs)) (omega (arith, long, one))
      ∙ ap (λ m. take i (drop n xs) ++ drop m (drop n xs)) one

  -- the first items go behind the others, and away
  pub rotated : (n left : ℕ) (xs : List X) → n + left ≡ length xs → take left (drop n xs ++ take n xs) ≡ drop n xs
  rotated n left xs long =
      let rest : left ≡ length (drop n xs) = let dropped = length-drop n xs in omega (arith, dropped, long) in
      ap (λ k. take k (drop n xs ++ take n xs)) rest ∙ take-append-le (length (drop n xs)) (drop n xs) (take n xs) (omega arith) ∙ take_all (length (drop n xs)) (drop n xs) (omega arith)
