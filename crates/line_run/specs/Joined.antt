-- The lines of a string, characterized by their concatenation.
use Rattle.std.specs.Prelude.{◌≡◌, ℕ, List, [], ◌∷◌, ◌++◌, ◌==◌, if◌then◌else◌, flat_map}
use Rattle.line_run.specs.Rows.{NoBreak}

-- no line has an LF
abbrev pub Unbroken : List (List ℕ) → Type 0
Unbroken [] = Unit {0}
Unbroken (line ∷ lines) = NoBreak line × Unbroken lines

-- the string, with an LF after a last piece that lacks one
abbrev pub ended_text : List ℕ → List ℕ
ended_text [] = []
ended_text (byte ∷ []) = if byte == 10 then byte ∷ [] else byte ∷ 10 ∷ []
ended_text (byte ∷ next ∷ rest) = byte ∷ ended_text (next ∷ rest)

-- the lines, with an LF after each
abbrev pub ended_lines : List (List ℕ) → List ℕ
ended_lines lines = flat_map (λ line. line ++ 10 ∷ []) lines

-- no line has an LF, and with one after each they concatenate to the string
pub record AreLines (text : List ℕ) (lines : List (List ℕ)) : Type 0 where
  pub unbroken : Unbroken lines
  pub joined : ended_lines lines ≡ ended_text text
