-- The counts of the bytes that were written.
use Rattle.std.specs.Prelude.{◌≡◌, ◌++◌, ◌==◌, ◌&&◌, ◌||◌, ◌<◌, ◌≤◌, ℕ, Bool, true, false, List, [], ◌∷◌, length, take, count_by, codes, bytes_eq, if◌then◌else◌}
use Rattle.line_run.specs.Joined.{Unbroken, ended_lines}
use Rattle.line_run.specs.Rows.{NoBreak}
use Rattle.run_report.specs.Counts.{counted}
use Rattle.run_report.specs.declared.output.OutputCounts.{OutputCounts}
use Rattle.run_report.specs.declared.output.Place.{Place}
use Rattle.run_report.specs.declared.output.Place.TheVariants as places
use Rattle.run_report.specs.declared.output.Word.{Word}
use Rattle.run_report.specs.declared.output.Word.TheVariants as words

-- ---- the content of a line

-- whether the line begins with the word
abbrev pub begins : List ℕ → List ℕ → Bool
begins [] line = true
begins (byte ∷ word) [] = false
begins (byte ∷ word) (first ∷ line) = (byte == first) && begins word line

-- the bytes after the first space
abbrev pub behind_space : List ℕ → List ℕ
behind_space [] = []
behind_space (byte ∷ line) = if byte == 32 then line else behind_space line

abbrev pub says_refused : List ℕ → Bool
says_refused line = begins (codes "refused ") line

-- whether exactly `NotJson` follows the number of the refused line
abbrev pub says_not_json : List ℕ → Bool
says_not_json line = says_refused line && bytes_eq (codes "NotJson") (behind_space (behind_space line))

abbrev pub has_frame : List ℕ → Bool
has_frame line = begins (codes "frame ") line || begins (codes "view ") line

-- ---- the position in the last line

unfoldable pub word_text : Word → List ℕ
word_text words.Refused = codes "refused "
word_text words.Frame = codes "frame "
word_text words.View = codes "view "

-- no byte is a space
abbrev pub NoSpace : List ℕ → Type 0
NoSpace [] = Unit {0}
NoSpace (byte ∷ bytes) = ((byte == 32) ≡ false) × NoSpace bytes

-- for any continuation the line reports a refusal, or has a frame, as given, and never `NotJson`
pub record Stays (is_refused is_frame : Bool) (line : List ℕ) : Type 0 where
  pub refused : (more : List ℕ) → says_refused (line ++ more) ≡ is_refused
  pub frame : (more : List ℕ) → has_frame (line ++ more) ≡ is_frame
  pub not_json : (more : List ℕ) → says_not_json (line ++ more) ≡ false

-- a prefix of the word, neither empty nor complete
pub record IsWithin (word : List ℕ) (matched : ℕ) (line : List ℕ) : Type 0 where
  pub some : 0 < matched
  pub part : matched < length word
  pub is : line ≡ take matched word

pub record IsNumber (line : List ℕ) : Type 0 where
  pub number : List ℕ
  pub unspaced : NoSpace number
  pub is : line ≡ codes "refused " ++ number

pub record IsFault (matched : ℕ) (line : List ℕ) : Type 0 where
  pub number : List ℕ
  pub unspaced : NoSpace number
  pub within : matched ≤ 7
  pub is : line ≡ codes "refused " ++ (number ++ 32 ∷ take matched (codes "NotJson"))

abbrev pub IsAt : Place → List ℕ → Type 0
IsAt places.Start line = line ≡ []
IsAt (places.Word word matched) line = IsWithin (word_text word) matched line
IsAt places.Number line = IsNumber line
IsAt (places.Fault matched) line = IsFault matched line
IsAt places.OtherFault line = Stays true false line
IsAt places.Frame line = Stays false true line
IsAt places.Other line = Stays false false line

-- The bytes are these lines, each with an LF, and a last one without. Each count is that of the
-- lines with LF that report a refused line, or report `NotJson`, or have a frame.
pub record AreWritten (counts : OutputCounts) (written : List ℕ) : Type 0 where
  pub lines : List (List ℕ)
  pub last : List ℕ
  pub unbroken : Unbroken lines
  pub unended : NoBreak last
  pub joined : written ≡ ended_lines lines ++ last
  pub refused : counts.ended_refused ≡ counted (count_by says_refused lines)
  pub not_json : counts.not_json ≡ counted (count_by says_not_json lines)
  pub frames : counts.ended_frames ≡ counted (count_by has_frame lines)
  pub place : IsAt counts.place last
