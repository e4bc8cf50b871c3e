-- The counts of a replay of the generated cluster: its lines, and the lines that were written, by their first words.
use Rattle.std.specs.Prelude.{ℕ, ◌/◌, Bool, false, List, [], ◌∷◌, ◌++◌, bytes_eq, codes, length, map, if◌then◌else◌}
use Rattle.std.specs.Fmt.{decimal}
use Rattle.std.specs.List.{filter, sum}
use Rattle.line_run.specs.Rows.{lines_of}
use Rattle.mesh_base.specs.Pieces.{pieces}
use Rattle.gen_cluster.specs.Generated.{generated}
use Rattle.cluster_sample.specs.declared.counts.Counts.{Counts}

-- the words of a line, between its spaces
abbrev pub words_of : List ℕ → List (List ℕ)
words_of line = pieces 32 line

abbrev pub is_first : List ℕ → List (List ℕ) → Bool
is_first word [] = false
is_first word (first ∷ more) = bytes_eq first word

-- the number of lines that begin with a word
abbrev pub lines_with : List ℕ → List (List ℕ) → ℕ
lines_with word lines = length (filter (λ line. is_first word (words_of line)) lines)

-- the bytes of the frame in `frame <id> <hex>`; two digits are a byte
abbrev pub size_in : List (List ℕ) → ℕ
size_in (first ∷ id ∷ hex ∷ []) = if bytes_eq first (codes "frame") then length hex / 2 else 0
size_in _ = 0

-- the bytes of all frames
abbrev pub frame_bytes : List (List ℕ) → ℕ
frame_bytes lines = sum (map (λ line. size_in (words_of line)) lines)

abbrev pub counts_of : List (List ℕ) → Counts
counts_of lines = record {
  refused = lines_with (codes "refused") lines;
  frames = lines_with (codes "frame") lines;
  bytes = frame_bytes lines;
  verdicts = lines_with (codes "verdict") lines;
}

-- `refused <b> frames <c> bytes <d> verdicts <e>`
unfoldable pub counts_text : Counts → List ℕ
counts_text counts =
    codes "refused " ++ (decimal counts.refused
    ++ (codes " frames " ++ (decimal counts.frames
    ++ (codes " bytes " ++ (decimal counts.bytes
    ++ (codes " verdicts " ++ decimal counts.verdicts))))))

-- `sample <n> lines <a>`, followed by the counts
unfoldable pub sample_text : ℕ → ℕ → Counts → List ℕ
sample_text n lines counts =
    codes "sample " ++ (decimal n
    ++ (codes " lines " ++ (decimal lines
    ++ (codes " " ++ (counts_text counts
    ++ codes "\n")))))

-- the output line for the cluster of n Services, whose replay writes the text
abbrev pub sample_line : ℕ → List ℕ → List ℕ
sample_line n text = sample_text n (length (lines_of (generated n))) (counts_of (lines_of text))
