-- What a loop over the numbers below a number has written, before and after a step.
use Rattle.std.proofs.Common.{◌≡◌, ◌∙◌, sym, ap, ℕ, ◌+◌, Bool, true, false, cond, List, [], ◌∷◌, ◌++◌, append-nil, map-id, arith}
use Rattle.std.proofs.lemmas.List.{flat_map_more}
use Rattle.std.proofs.lemmas.List.Elements.{filter-append}
use Rattle.std.proofs.lemmas.List.FromFn.{map-range_with_len_more}
use Rattle.std.specs.List.{filter, flat_map, range_with_len}
use Rattle.gen_cluster.specs.Generated.{below}

below_more : (n : ℕ) → below (n + 1) ≡ below n ++ n ∷ []
below_more n =
    sym (map-id (range_with_len 0 (n + 1)))
    ∙ map-range_with_len_more (λ x. x) 0 n n (omega arith)
    ∙ ap (λ xs. xs ++ n ∷ []) (map-id (range_with_len 0 n))

-- the next number's lines
pub lines_more : (f : ℕ → List ℕ) (start : List ℕ) (n : ℕ)
    → (start ++ flat_map f (below n)) ++ f n ≡ start ++ flat_map f (below (n + 1))
lines_more f start n = flat_map_more f start (below n) n ∙ ap (λ xs. start ++ flat_map f xs) (sym (below_more n))

filter_more : (p : ℕ → Bool) (n : ℕ) → filter p (below (n + 1)) ≡ filter p (below n) ++ cond (p n) (n ∷ []) []
filter_more p n = ap (filter p) (below_more n) ∙ filter-append p (below n) (n ∷ [])

-- the next number's lines, where it is chosen
pub chosen_more : (f : ℕ → List ℕ) (p : ℕ → Bool) (start : List ℕ) (n : ℕ) → p n ≡ true
    → (start ++ flat_map f (filter p (below n))) ++ f n ≡ start ++ flat_map f (filter p (below (n + 1)))
chosen_more f p start n chosen =
    let next : filter p (below (n + 1)) ≡ filter p (below n) ++ n ∷ [] = filter_more p n ∙ ap (λ b. filter p (below n) ++ cond b (n ∷ []) []) chosen in
    flat_map_more f start (filter p (below n)) n ∙ ap (λ xs. start ++ flat_map f xs) (sym next)

-- none, where it isn't
pub chosen_same : (f : ℕ → List ℕ) (p : ℕ → Bool) (start : List ℕ) (n : ℕ) → p n ≡ false
    → start ++ flat_map f (filter p (below n)) ≡ start ++ flat_map f (filter p (below (n + 1)))
chosen_same f p start n passed =
    let next : filter p (below (n + 1)) ≡ filter p (below n) = filter_more p n ∙ ap (λ b. filter p (below n) ++ cond b (n ∷ []) []) passed ∙ append-nil (filter p (below n)) in
    ap (λ xs. start ++ flat_map f xs) (sym next)
