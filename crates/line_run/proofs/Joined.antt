-- A text's lines are the only ones that make it up.
use Rattle.std.proofs.Common.{◌≡◌, ℕ, Bool, true, false, List, [], ◌∷◌, refl, sym, ap, ◌∙◌, subst, append_assoc}
use Rattle.std.proofs.lemmas.Bool.{eqb-true}
use Rattle.std.specs.Prelude.{◌==◌, if◌then◌else◌}
use Rattle.line_run.specs.Rows.{onto_first, lines_of}
use Rattle.line_run.specs.Joined.{Unbroken, ended_text, ended_lines, AreLines}
use Rattle.line_run.proofs.Cut.{lines_of-break}

onto_first-unbroken : (byte : ℕ) (lines : List (List ℕ)) → (byte == 10) ≡ false → Unbroken lines → Unbroken (onto_first byte lines)
onto_first-unbroken byte [] isnt all = ((isnt, tt), tt)
onto_first-unbroken byte (line ∷ lines) isnt all = ((isnt, all.0), all.1)

-- by whether a byte is LF
by_break : (byte : ℕ) (P : Bool → Type 0) → (byte ≡ 10 → P true) → ((byte == 10) ≡ false → P false) → P (byte == 10)
by_break byte P is isnt = elim (byte == 10) as (λ v. (byte == 10) ≡ v → P v) [ true ↦ λ same. is (eqb-true byte 10 same) | false ↦ λ other. isnt other ] refl

unbroken : (text : List ℕ) → Unbroken (lines_of text)
unbroken [] = tt
unbroken (byte ∷ text) = by_break byte (λ v. Unbroken (if v then [] ∷ lines_of text else onto_first byte (lines_of text)))
    (λ is. (tt, unbroken text)) (λ isnt. onto_first-unbroken byte (lines_of text) isnt (unbroken text))

-- there is a line
abbrev IsSome : List (List ℕ) → Type 0
IsSome [] = ⊥
IsSome (line ∷ lines) = Unit {0}

onto_first-some : (byte : ℕ) (lines : List (List ℕ)) → IsSome (onto_first byte lines)
onto_first-some byte [] = tt
onto_first-some byte (line ∷ lines) = tt

lines_of-some : (byte : ℕ) (text : List ℕ) → IsSome (lines_of (byte ∷ text))
lines_of-some byte text = by_break byte (λ v. IsSome (if v then [] ∷ lines_of text else onto_first byte (lines_of text))) (λ is. tt) (λ isnt. onto_first-some byte (lines_of text))

ended_onto : (byte : ℕ) (lines : List (List ℕ)) → IsSome lines → ended_lines (onto_first byte lines) ≡ byte ∷ ended_lines lines
ended_onto byte [] some = absurd some
ended_onto byte (line ∷ lines) some = refl

joined : (text : List ℕ) → ended_lines (lines_of text) ≡ ended_text text
joined [] = refl
joined (byte ∷ []) = by_break byte (λ v. ended_lines (if v then [] ∷ [] else onto_first byte []) ≡ (if v then byte ∷ [] else byte ∷ 10 ∷ []))
    (λ is. ap (λ (b : ℕ). b ∷ []) (sym is)) (λ isnt. refl)
joined (byte ∷ next ∷ rest) = by_break byte (λ v. ended_lines (if v then [] ∷ lines_of (next ∷ rest) else onto_first byte (lines_of (next ∷ rest))) ≡ byte ∷ ended_text (next ∷ rest))
    (λ is. ap (λ (b : ℕ). b ∷ ended_lines (lines_of (next ∷ rest))) (sym is) ∙ ap (λ (xs : List ℕ). byte ∷ xs) (joined (next ∷ rest)))
    (λ isnt. ended_onto byte (lines_of (next ∷ rest)) (lines_of-some next rest) ∙ ap (λ (xs : List ℕ). byte ∷ xs) (joined (next ∷ rest)))

-- lines that make up a text are read from it
lines_of-ended : (lines : List (List ℕ)) → Unbroken lines → lines_of (ended_lines lines) ≡ lines
lines_of-ended [] all = refl
lines_of-ended (line ∷ lines) all = ap lines_of (append_assoc line (10 ∷ []) (ended_lines lines)) ∙ lines_of-break line (ended_lines lines) all.0 ∙ ap (λ (more : List (List ℕ)). line ∷ more) (lines_of-ended lines all.1)

lines_of-ended_text : (text : List ℕ) → lines_of (ended_text text) ≡ lines_of text
lines_of-ended_text [] = refl
lines_of-ended_text (byte ∷ []) = by_break byte (λ v. lines_of (if v then byte ∷ [] else byte ∷ 10 ∷ []) ≡ lines_of (byte ∷ []))
    (λ is. refl) (λ isnt. rw isnt refl)
lines_of-ended_text (byte ∷ next ∷ rest) = ap (λ (lines : List (List ℕ)). if byte == 10 then [] ∷ lines else onto_first byte lines) (lines_of-ended_text (next ∷ rest))

pub lines_are : (text : List ℕ) (lines : List (List ℕ)) → lines ≡ lines_of text → AreLines text lines
lines_are text lines is = subst (AreLines text) (sym is) (record { unbroken = unbroken text; joined = joined text })

pub are_lines : (text : List ℕ) (lines : List (List ℕ)) → AreLines text lines → lines ≡ lines_of text
are_lines text lines are = sym (lines_of-ended lines are.unbroken) ∙ ap lines_of are.joined ∙ lines_of-ended_text text
