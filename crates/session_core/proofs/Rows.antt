-- The rows of a text that goes on.
use Rattle.std.proofs.Common.{◌≡◌, ℕ, ◌==◌, Bool, true, false, List, [], ◌∷◌, ◌++◌, map, refl, ap, ◌∙◌}
use Rattle.std.proofs.lemmas.List.{map-append}
use Rattle.line_run.specs.Rows.{row_of, lines_of, onto_first}
use Rattle.session_core.specs.Laws.{RowsStay}
use Rattle.session_core.specs.Lines.{onto_whole, whole_lines}

by_test : (b : Bool) (Goal : Type 0) → (b ≡ true → Goal) → (b ≡ false → Goal) → Goal
by_test true Goal f g = f refl
by_test false Goal f g = g refl

-- These lines come first.
abbrev Front : List (List ℕ) → List (List ℕ) → Type 0
Front front all = (later : List (List ℕ)) × (all ≡ front ++ later)

onto_whole_front : (byte : ℕ) (front all : List (List ℕ)) → Front front all → Front (onto_whole byte front) (onto_whole byte all)
onto_whole_front byte [] all h = (onto_whole byte all, refl)
onto_whole_front byte (line ∷ lines) all h = (h.0, ap (onto_whole byte) h.1)

onto_first_front : (byte : ℕ) (front all : List (List ℕ)) → Front front all → Front (onto_whole byte front) (onto_first byte all)
onto_first_front byte [] all h = (onto_first byte all, refl)
onto_first_front byte (line ∷ lines) all h = (h.0, ap (onto_first byte) h.1)

whole_stay : (text more : List ℕ) → Front (whole_lines text) (whole_lines (text ++ more))
whole_stay [] more = (whole_lines more, refl)
whole_stay (byte ∷ text) more =
    let rest = whole_stay text more in
    by_test (byte == 10) (Front (whole_lines (byte ∷ text)) (whole_lines (byte ∷ (text ++ more))))
    (λ e. rw e (rest.0, ap (λ z. [] ∷ z) rest.1))
    (λ e. rw e (onto_whole_front byte (whole_lines text) (whole_lines (text ++ more)) rest))

lines_stay : (text more : List ℕ) → Front (whole_lines text) (lines_of (text ++ more))
lines_stay [] more = (lines_of more, refl)
lines_stay (byte ∷ text) more =
    let rest = lines_stay text more in
    by_test (byte == 10) (Front (whole_lines (byte ∷ text)) (lines_of (byte ∷ (text ++ more))))
    (λ e. rw e (rest.0, ap (λ z. [] ∷ z) rest.1))
    (λ e. rw e (onto_first_front byte (whole_lines text) (lines_of (text ++ more)) rest))

pub rows_stay : RowsStay
rows_stay limit true text more = let rest = lines_stay text more in (map (row_of limit) rest.0, ap (map (row_of limit)) rest.1 ∙ map-append (row_of limit) (whole_lines text) rest.0)
rows_stay limit false text more = let rest = whole_stay text more in (map (row_of limit) rest.0, ap (map (row_of limit)) rest.1 ∙ map-append (row_of limit) (whole_lines text) rest.0)
