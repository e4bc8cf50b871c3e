-- Pieces of a list: the first, and then those of the rest.
use Rattle.std.proofs.Common.{◌≡◌, ◌≢◌, ℕ, zero, suc, ◌<◌, ◌≤◌, min, List, [], ◌∷◌, ◌++◌, length, take, drop, refl, sym, ap, ◌∙◌, append-nil, append_assoc, arith}
use Rattle.std.proofs.lemmas.List.{length-append, length-drop, take_all, take_at, drop_all, drop_at}
use Rattle.view_rules.specs.Batch.{in_pieces, pieces_up_to}

-- more room than there are items makes no difference
enough_room : {X : Type 0} (n m size : ℕ) (xs : List X) → 1 ≤ size → length xs ≤ n → length xs ≤ m → pieces_up_to n size xs ≡ pieces_up_to m size xs
enough_room zero zero size [] one few few' = refl
enough_room zero (suc m) size [] one few few' = refl
enough_room (suc n) zero size [] one few few' = refl
enough_room (suc n) (suc m) size [] one few few' = refl
enough_room zero m size (x ∷ xs) one few few' = absurd (omega arith)
enough_room (suc n) zero size (x ∷ xs) one few few' = absurd (omega arith)
enough_room (suc n) (suc m) size (x ∷ xs) one few few' =
    let rest = length-drop size (x ∷ xs) in
    ap (λ pieces. take size (x ∷ xs) ∷ pieces) (enough_room n m size (drop size (x ∷ xs)) one (omega arith) (omega arith))

pub first_piece : {X : Type 0} (size : ℕ) (xs : List X) → 1 ≤ size → 0 < length xs → in_pieces size xs ≡ take size xs ∷ in_pieces size (drop size xs)
first_piece size [] one some = absurd (omega arith)
first_piece size (x ∷ xs) one some =
    let rest = length-drop size (x ∷ xs) in
    ap (λ pieces. take size (x ∷ xs) ∷ pieces) (enough_room (length xs) (length (drop size (x ∷ xs))) size (drop size (x ∷ xs)) one (omega arith) (omega arith))

-- what stands before and after a cut
cut_at : {X : Type 0} (size : ℕ) (piece rest : List X) → length piece ≡ min size (length (piece ++ rest)) → (take size (piece ++ rest) ≡ piece) × (drop size (piece ++ rest) ≡ rest)
cut_at size piece [] long =
    let few : length piece ≤ size = omega (arith, length-append piece []) in
    (ap (take size) (append-nil piece) ∙ take_all size piece few, ap (drop size) (append-nil piece) ∙ drop_all size piece few)
cut_at size piece (y ∷ ys) long =
    let full : length piece ≡ size = omega (arith, length-append piece (y ∷ ys)) in
    (take_at piece (y ∷ ys) size full, drop_at piece (y ∷ ys) size full)

front_piece : {X : Type 0} (size : ℕ) (piece rest : List X) → 1 ≤ size → length piece ≡ min size (length (piece ++ rest)) → 0 < length (piece ++ rest)
    → in_pieces size (piece ++ rest) ≡ piece ∷ in_pieces size rest
front_piece size piece rest one long some =
    let cut = cut_at size piece rest long in
    first_piece size (piece ++ rest) one some ∙ (λ i. cut.0 i ∷ in_pieces size (cut.1 i))

-- a piece that is full goes out
pub goes_out : {X : Type 0} (done all : List (List X)) (size : ℕ) (piece rest : List X) → 1 ≤ size → length piece ≡ size
    → done ++ in_pieces size (piece ++ rest) ≡ all → (done ++ piece ∷ []) ++ in_pieces size rest ≡ all
goes_out done all size piece rest one full so_far =
    let long = length-append piece rest in
    let front = front_piece size piece rest one (omega arith) (omega arith) in
    append_assoc done (piece ∷ []) (in_pieces size rest) ∙ ap (λ pieces. done ++ pieces) (sym front) ∙ so_far

-- the last, which may not be full
pub last_goes_out : {X : Type 0} (done all : List (List X)) (size : ℕ) (piece : List X) → length piece < size → length piece ≢ 0
    → done ++ in_pieces size (piece ++ []) ≡ all → done ++ piece ∷ [] ≡ all
last_goes_out done all size piece room some so_far =
    let long : length (piece ++ []) ≡ length piece = ap length (append-nil piece) in
    let front : in_pieces size (piece ++ []) ≡ piece ∷ [] = front_piece size piece [] (omega arith) (omega arith) (omega arith) in
    ap (λ pieces. done ++ pieces) (sym front) ∙ so_far

-- and there is none where nothing is left
pub none_goes_out : {X : Type 0} (done all : List (List X)) (size : ℕ) (piece : List X) → length piece ≡ 0
    → done ++ in_pieces size (piece ++ []) ≡ all → done ≡ all
none_goes_out done all size [] none so_far = sym (append-nil done) ∙ so_far
none_goes_out done all size (x ∷ xs) none so_far = absurd (omega arith)
