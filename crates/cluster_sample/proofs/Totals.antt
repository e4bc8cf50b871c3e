-- What is counted of rows, and how much it may be.
use Rattle.std.proofs.Common.{◌≡◌, ℕ, ◌+◌, ◌^◌, ◌/◌, ◌<◌, ◌≤◌, Bool, true, false, cond, List, [], ◌∷◌, length, map, bytes_eq, codes, sum_by, Some, nat_le, refl, sym, ap, ◌∙◌, arith}
use Rattle.std.proofs.lemmas.Bool.Decides.{nat_tests}
use Rattle.std.proofs.lemmas.List.Sums.{count_by-le-length, length-filter, sum-map, sum_by-cons, sum_by-le-sum_by}
use Rattle.line_run.specs.Rows.{Row, lines_of, past_from, past_of, row_of}
use Rattle.cluster_sample.specs.Counted.{counts_of, frame_bytes, is_first, lines_with, size_in, words_of}
use Rattle.cluster_sample.specs.Stand.{capped, capped_counts, lines_in}
use Rattle.cluster_sample.specs.declared.counts.Counts.{Counts}
use Rattle.cluster_sample.proofs.Lines.{lengths_within, lines_within, words_within}

made : ℕ → ℕ → ℕ → ℕ → Counts
made refused frames bytes verdicts = record { refused = refused; frames = frames; bytes = bytes; verdicts = verdicts }

-- ---- counts are sums over lines

abbrev begins : List ℕ → List ℕ → Bool
begins word line = is_first word (words_of line)

abbrev one_if : List ℕ → List ℕ → ℕ
one_if word line = cond (begins word line) 1 0

abbrev size : List ℕ → ℕ
size line = size_in (words_of line)

with_is : (word : List ℕ) (lines : List (List ℕ)) → lines_with word lines ≡ sum_by (one_if word) lines
with_is word lines = length-filter (begins word) lines

bytes_is : (lines : List (List ℕ)) → frame_bytes lines ≡ sum_by size lines
bytes_is lines = sum-map size lines

-- ---- all lines

not_long : (limit : ℕ) (line : List ℕ) → length line ≤ limit → row_of limit line ≡ Some line
not_long limit line short = let test : nat_le (length line) limit ≡ true = grind (arith, nat_tests) in rw test refl

-- a sum over rows, the last first, is one over the lines, where none is too long
sum_over : (f : List ℕ → ℕ) (limit : ℕ) (lines : List (List ℕ)) (past : List Row) → sum_by length lines ≤ limit
    → sum_by f (lines_in (past_from past (map (row_of limit) lines))) ≡ sum_by f lines + sum_by f (lines_in past)
sum_over f limit [] past within = omega arith
sum_over f limit (line ∷ lines) past within =
    let lengths = sum_by-cons length line lines in
    let more = sum_over f limit lines (row_of limit line ∷ past) (omega (arith, lengths, within)) in
    let row = not_long limit line (omega (arith, lengths, within)) in
    more ∙ ap (λ (r : Row). sum_by f lines + sum_by f (lines_in (r ∷ past))) row ∙ omega (arith, sum_by-cons f line lines, sum_by-cons f line (lines_in past))

sum_of_text : (f : List ℕ → ℕ) (limit : ℕ) (text : List ℕ) → length text ≤ limit → sum_by f (lines_in (past_of limit text)) ≡ sum_by f (lines_of text)
sum_of_text f limit text within = let lengths = lengths_within text in omega (arith, sum_over f limit (lines_of text) [] (omega (arith, lengths, within)))

-- What is counted of the rows of a text is what is counted of its lines.
pub counted_all : (limit : ℕ) (text : List ℕ) → length text ≤ limit → counts_of (lines_in (past_of limit text)) ≡ counts_of (lines_of text)
counted_all limit text within =
    let rows = lines_in (past_of limit text) in
    let same = λ (word : List ℕ). with_is word rows ∙ sum_of_text (one_if word) limit text within ∙ sym (with_is word (lines_of text)) in
    rw (same (codes "refused"), same (codes "frame"), bytes_is rows ∙ sum_of_text size limit text within ∙ sym (bytes_is (lines_of text)), same (codes "verdict")) refl

-- ---- how much it may be

with_within : (word text : List ℕ) → lines_with word (lines_of text) ≤ length text
with_within word text =
    let few = count_by-le-length (begins word) (lines_of text) in
    omega (arith, with_is word (lines_of text), few, lines_within text)

hex_within : (b : Bool) (n : ℕ) → cond b (n / 2) 0 ≤ n
hex_within true n = omega arith
hex_within false n = omega arith

size_in_within : (words : List (List ℕ)) → size_in words ≤ sum_by length words
size_in_within [] = omega arith
size_in_within (a ∷ []) = omega arith
size_in_within (a ∷ b ∷ []) = omega arith
size_in_within (first ∷ id ∷ hex ∷ []) =
    let half = hex_within (bytes_eq first (codes "frame")) (length hex) in
    omega (arith, half, sum_by-cons length first (id ∷ hex ∷ []), sum_by-cons length id (hex ∷ []), sum_by-cons length hex [])
size_in_within (a ∷ b ∷ c ∷ d ∷ more) = omega arith

size_within : (line : List ℕ) → size line ≤ length line
size_within line = let small = size_in_within (words_of line) in omega (arith, small, words_within 32 line)

bytes_within : (text : List ℕ) → frame_bytes (lines_of text) ≤ length text
bytes_within text =
    let small = sum_by-le-sum_by size length (lines_of text) size_within in
    omega (arith, bytes_is (lines_of text), small, lengths_within text)

uncapped : (n most : ℕ) → n ≤ most → most < 2 ^ 64 → capped n ≡ n
uncapped n most low small = omega (arith, low, small)

-- No counter comes to its end at a text that is in memory.
pub counted_whole : (text : List ℕ) → length text < 2 ^ 64 → capped_counts (counts_of (lines_of text)) ≡ counts_of (lines_of text)
counted_whole text small =
    rw (
      uncapped _ _ (with_within (codes "refused") text) small,
      uncapped _ _ (with_within (codes "frame") text) small,
      uncapped _ _ (bytes_within text) small,
      uncapped _ _ (with_within (codes "verdict") text) small,
    ) refl
