-- Pieces are as large as may be, but for the last.
use Rattle.std.proofs.Common.{◌≡◌, ℕ, zero, suc, ◌+◌, ◌<◌, ◌≤◌, List, [], ◌∷◌, ◌++◌, length, take, drop, get_or, refl, ap, ◌∙◌, arith}
use Rattle.std.specs.List.{All, flat_map}
use Rattle.std.proofs.lemmas.List.{length-drop, length-take, take-append-drop}
use Rattle.std.proofs.lemmas.List.Elements.{All-cons, All-nil}
use Rattle.view_rules.specs.Batch.{in_pieces, pieces_up_to}
use Rattle.batch_laws.specs.Laws.{AuthzIsCut, AuthzKeysAreCut, IsCut, PairsAreCut, RowsAreCut}

joined : {X : Type 0} (n size : ℕ) (xs : List X) → 1 ≤ size → length xs ≤ n → flat_map (λ piece. piece) (pieces_up_to n size xs) ≡ xs
joined zero size [] one few = refl
joined zero size (x ∷ xs) one few = absurd (omega arith)
joined (suc n) size [] one few = refl
joined (suc n) size (x ∷ xs) one few =
    let rest = length-drop size (x ∷ xs) in
    ap (λ more. take size (x ∷ xs) ++ more) (joined n size (drop size (x ∷ xs)) one (omega arith)) ∙ take-append-drop size (x ∷ xs)

-- where another piece follows there are items for it
some_left : {X : Type 0} (n size : ℕ) (xs : List X) → 0 < length (pieces_up_to n size xs) → 0 < length xs
some_left zero size xs some = absurd (omega arith)
some_left (suc n) size [] some = absurd (omega arith)
some_left (suc n) size (x ∷ xs) some = omega arith

full : {X : Type 0} (n size : ℕ) (xs : List X) (k : ℕ) (d : List X) → k + 1 < length (pieces_up_to n size xs) → length (get_or (pieces_up_to n size xs) k d) ≡ size
full zero size xs k d lt = absurd (omega arith)
full (suc n) size [] k d lt = absurd (omega arith)
full (suc n) size (x ∷ xs) zero d lt =
    let left : 0 < length (drop size (x ∷ xs)) = some_left n size (drop size (x ∷ xs)) (omega arith) in
    omega (arith, left, length-drop size (x ∷ xs), length-take size (x ∷ xs))
full (suc n) size (x ∷ xs) (suc k) d lt = full n size (drop size (x ∷ xs)) k d (omega arith)

within : {X : Type 0} (n size : ℕ) (xs : List X) → All (λ (piece : List X). length piece ≤ size) (pieces_up_to n size xs)
within zero size xs = All-nil _
within (suc n) size [] = All-nil _
within (suc n) size (x ∷ xs) =
    let here : length (take size (x ∷ xs)) ≤ size = omega (arith, length-take size (x ∷ xs)) in
    All-cons (λ (piece : List _). length piece ≤ size) (take size (x ∷ xs)) _ here (within n size (drop size (x ∷ xs)))

some : {X : Type 0} (n size : ℕ) (xs : List X) → 1 ≤ size → All (λ (piece : List X). 0 < length piece) (pieces_up_to n size xs)
some zero size xs one = All-nil _
some (suc n) size [] one = All-nil _
some (suc n) size (x ∷ xs) one =
    let here : 0 < length (take size (x ∷ xs)) = omega (arith, length-take size (x ∷ xs)) in
    All-cons (λ (piece : List _). 0 < length piece) (take size (x ∷ xs)) _ here (some n size (drop size (x ∷ xs)) one)

cut : {X : Type 0} (size : ℕ) (xs : List X) → 1 ≤ size → IsCut size xs (in_pieces size xs)
cut size xs one = record {
  joined = joined (length xs) size xs one (omega arith);
  full = full (length xs) size xs;
  within = within (length xs) size xs;
  some = some (length xs) size xs one;
}

pub rows_cut : RowsAreCut
rows_cut size rows one = cut size rows one

pub pairs_cut : PairsAreCut
pairs_cut size pairs one = cut size pairs one

pub authz_cut : AuthzIsCut
authz_cut size rows one = cut size rows one

pub authz_keys_cut : AuthzKeysAreCut
authz_keys_cut size keys one = cut size keys one
