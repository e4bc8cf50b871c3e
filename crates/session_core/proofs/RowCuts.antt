-- The rows that a cutter gives.
use Rattle.std.proofs.Common.{◌≡◌, ℕ, ◌==◌, Bool, true, false, List, [], ◌∷◌, ◌++◌, map, refl, sym, ap, ◌∙◌}
use Rattle.std.proofs.lemmas.List.{map-append}
use Rattle.line_run.specs.Rows.{NoBreak, Row, row_of, rows_of, lines_of, onto_first}
use Rattle.session_core.specs.Laws.{RowsAreCut}
use Rattle.session_core.specs.Lines.{onto_whole, whole_lines, rows_so_far}

by_test : (b : Bool) (Goal : Type 0) → (b ≡ true → Goal) → (b ≡ false → Goal) → Goal
by_test true Goal f g = f refl
by_test false Goal f g = g refl

-- all but the last
front : List Row → List Row
front [] = []
front (x ∷ []) = []
front (x ∷ y ∷ ys) = x ∷ front (y ∷ ys)

front-last : (xs : List Row) (last : Row) → front (xs ++ last ∷ []) ≡ xs
unfolding front
front-last [] last = refl
front-last (x ∷ []) last = refl
front-last (x ∷ y ∷ ys) last = ap (λ z. x ∷ z) (front-last (y ∷ ys) last)

onto_more : (byte : ℕ) (whole all : List (List ℕ)) (part : List ℕ) → all ≡ whole ++ part ∷ [] → (more : List ℕ) × (onto_first byte all ≡ onto_whole byte whole ++ more ∷ [])
onto_more byte [] all part h = (byte ∷ part, ap (onto_first byte) h)
onto_more byte (line ∷ lines) all part h = (part, ap (onto_first byte) h)

one_more : (text : List ℕ) → (part : List ℕ) × (lines_of (text ++ 10 ∷ []) ≡ whole_lines text ++ part ∷ [])
one_more [] = ([], refl)
one_more (byte ∷ text) =
    let rest = one_more text in
    by_test (byte == 10) ((part : List ℕ) × (lines_of (byte ∷ (text ++ 10 ∷ [])) ≡ whole_lines (byte ∷ text) ++ part ∷ []))
    (λ e. rw e (rest.0, ap (λ z. [] ∷ z) rest.1))
    (λ e. rw e (onto_more byte (whole_lines text) (lines_of (text ++ 10 ∷ [])) rest.0 rest.1))

one_line : (part : List ℕ) → NoBreak part → lines_of (part ++ 10 ∷ []) ≡ part ∷ []
one_line [] n = refl
one_line (byte ∷ part) n = rw n.0 (ap (onto_first byte) (one_line part n.1))

pub rows_are_cut : RowsAreCut
rows_are_cut limit text part rows n cut =
    let more = one_more text in
    let whole : rows_of limit (text ++ 10 ∷ []) ≡ rows_so_far limit false text ++ row_of limit more.0 ∷ [] = ap (map (row_of limit)) more.1 ∙ map-append (row_of limit) (whole_lines text) (more.0 ∷ []) in
    let given : rows_of limit (text ++ 10 ∷ []) ≡ rows ++ row_of limit part ∷ [] = cut (10 ∷ []) ∙ ap (λ z. rows ++ map (row_of limit) z) (one_line part n) in
    sym (front-last (rows_so_far limit false text) (row_of limit more.0)) ∙ ap front (sym whole ∙ given) ∙ front-last rows (row_of limit part)
