-- The counts of the bytes that were read. A count saturates at the greatest `u64`.
use Rattle.std.specs.Prelude.{◌≡◌, ◌-◌, ◌^◌, ℕ, Bool, false, not, ◌==◌, List, [], ◌∷◌, length, min}
use Rattle.line_run.specs.Rows.{lines_of}
use Rattle.run_report.specs.declared.input.InputCounts.{InputCounts}
use Rattle.run_report.specs.declared.lines.LineCount.{LineCount}

abbrev pub counted : ℕ → ℕ
counted n = min n (2 ^ 64 - 1)

-- whether the last line has no LF
abbrev pub ends_open : List ℕ → Bool
ends_open [] = false
ends_open (byte ∷ []) = not (byte == 10)
ends_open (byte ∷ next ∷ bytes) = ends_open (next ∷ bytes)

-- the number of lines of the bytes, and whether the last one has no LF
pub record AreLines (lines : LineCount) (bytes : List ℕ) : Type 0 where
  pub count : lines.count ≡ counted (length (lines_of bytes))
  pub last : lines.is_open ≡ ends_open bytes

-- the number of bytes, and the lines
pub record AreCounts (counts : InputCounts) (read : List ℕ) : Type 0 where
  pub bytes : counts.bytes ≡ counted (length read)
  pub lines : AreLines counts.lines read
