-- The lines of a text that may continue.
use Rattle.std.specs.Prelude.{ℕ, ◌==◌, Bool, true, false, List, [], ◌∷◌, map, if◌then◌else◌}
use Rattle.line_run.specs.Rows.{Row, row_of, rows_of}

-- a byte put before the first line, if there is one
abbrev pub onto_whole : ℕ → List (List ℕ) → List (List ℕ)
onto_whole byte [] = []
onto_whole byte (line ∷ lines) = (byte ∷ line) ∷ lines

-- the lines whose LF was read
abbrev pub whole_lines : List ℕ → List (List ℕ)
whole_lines [] = []
whole_lines (byte ∷ bytes) = if byte == 10 then [] ∷ whole_lines bytes else onto_whole byte (whole_lines bytes)

-- the rows of a text so far; if the text has ended, the last line needs no LF
abbrev pub rows_so_far : ℕ → Bool → List ℕ → List Row
rows_so_far limit true text = rows_of limit text
rows_so_far limit false text = map (row_of limit) (whole_lines text)
