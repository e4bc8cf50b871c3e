-- Lines of a text: how many they are, and how long they and their words are.
use Rattle.std.proofs.Common.{◌≡◌, ℕ, ◌+◌, ◌-◌, take, drop, ◌<◌, ◌≤◌, Bool, true, false, cond, ◌==◌, List, [], ◌∷◌, ◌++◌, length, count_by, sum_by, refl, sym, ap, ◌∙◌, arith, length-drop, take-append-drop}
use Rattle.std.specs.List.{onto_first as onto_piece, slice_split}
use Rattle.std.proofs.lemmas.List.Sums.{sum_by-cons}
use Rattle.mesh_base.specs.Pieces.{pieces}
use Rattle.line_run.specs.Rows.{lines_of, onto_first}

-- ---- how many

-- a byte before a first line adds no line, where there is one
length-onto_first : (byte : ℕ) (lines : List (List ℕ)) → 0 < length lines → length (onto_first byte lines) ≡ length lines
length-onto_first byte [] some = absurd (omega (arith, some))
length-onto_first byte (line ∷ lines) some = refl

last_alone : (last : ℕ) (b : Bool) → length (cond b ([] ∷ []) ((last ∷ []) ∷ [])) ≡ 1
last_alone last true = refl
last_alone last false = refl

one_more_byte : (byte : ℕ) (b : Bool) (lines : List (List ℕ)) (breaks : ℕ) → length lines ≡ breaks + 1 → length (cond b ([] ∷ lines) (onto_first byte lines)) ≡ cond b 1 0 + breaks + 1
one_more_byte byte true lines breaks e = omega (arith, e)
one_more_byte byte false lines breaks e = omega (arith, length-onto_first byte lines (omega (arith, e)), e)

-- The lines are as many as the breaks before the last byte, and one.
pub lines_by_breaks : (text : List ℕ) (last : ℕ) → length (lines_of (text ++ last ∷ [])) ≡ count_by (λ byte. byte == 10) text + 1
lines_by_breaks [] last = last_alone last (last == 10)
lines_by_breaks (byte ∷ text) last =
    one_more_byte byte (byte == 10) (lines_of (text ++ last ∷ [])) (count_by (λ b. b == 10) text) (lines_by_breaks text last)
    ∙ ap (λ (k : ℕ). k + 1) (sym (sum_by-cons (λ (b : ℕ). cond (b == 10) 1 0) byte text))

one_line_at_most : (byte : ℕ) (b : Bool) (lines : List (List ℕ)) → length (cond b ([] ∷ lines) (onto_first byte lines)) ≤ length lines + 1
one_line_at_most byte true lines = omega arith
one_line_at_most byte false [] = omega arith
one_line_at_most byte false (line ∷ lines) = omega arith

pub lines_within : (text : List ℕ) → length (lines_of text) ≤ length text
lines_within [] = omega arith
lines_within (byte ∷ text) = let step = one_line_at_most byte (byte == 10) (lines_of text) in omega (arith, step, lines_within text)

-- ---- how long

one_byte_at_most : (byte : ℕ) (b : Bool) (lines : List (List ℕ)) → sum_by length (cond b ([] ∷ lines) (onto_first byte lines)) ≤ sum_by length lines + 1
one_byte_at_most byte true lines = omega (arith, sum_by-cons length [] lines)
one_byte_at_most byte false [] = omega arith
one_byte_at_most byte false (line ∷ lines) = omega (arith, sum_by-cons length (byte ∷ line) lines, sum_by-cons length line lines)

-- the lines are together no longer than the text
pub lengths_within : (text : List ℕ) → sum_by length (lines_of text) ≤ length text
lengths_within [] = omega arith
lengths_within (byte ∷ text) = let step = one_byte_at_most byte (byte == 10) (lines_of text) in omega (arith, step, lengths_within text)

one_in_piece_at_most : (byte : ℕ) (b : Bool) (words : List (List ℕ)) → sum_by length (cond b ([] ∷ words) (onto_piece byte words)) ≤ sum_by length words + 1
one_in_piece_at_most byte true words = omega (arith, sum_by-cons length [] words)
one_in_piece_at_most byte false [] = omega arith
one_in_piece_at_most byte false (word ∷ words) = omega (arith, sum_by-cons length (byte ∷ word) words, sum_by-cons length word words)

-- the words are together no longer than the line
pub words_within : (mark : ℕ) (line : List ℕ) → sum_by length (pieces mark line) ≤ length line
unfolding pieces
words_within mark [] = omega arith
words_within mark (byte ∷ line) = let step = one_in_piece_at_most byte (byte == mark) (slice_split (λ b. b == mark) line) in omega (arith, step, words_within mark line)

one_left : (bytes : List ℕ) → length bytes ≡ 1 → (last : ℕ) × (bytes ≡ last ∷ [])
one_left [] e = absurd (omega (arith, e))
one_left (last ∷ []) e = (last, refl)
one_left (byte ∷ next ∷ bytes) e = absurd (omega (arith, e))

counted_before : (before : List ℕ) (last : ℕ) (end text : List ℕ) → end ≡ last ∷ [] → before ++ end ≡ text → count_by (λ byte. byte == 10) before + 1 ≡ length (lines_of text)
counted_before before last end text alone is = sym (lines_by_breaks before last) ∙ ap (λ (bytes : List ℕ). length (lines_of bytes)) (ap (λ (bytes : List ℕ). before ++ bytes) (sym alone) ∙ is)

-- A text that isn't empty has as many lines as it has breaks before its last byte, and one.
pub lines_counted : (text : List ℕ) → 1 ≤ length text → count_by (λ byte. byte == 10) (take (length text - 1) text) + 1 ≡ length (lines_of text)
lines_counted text some =
    let left = one_left (drop (length text - 1) text) (simp length-drop (omega (arith, some))) in
    counted_before (take (length text - 1) text) left.0 (drop (length text - 1) text) text left.1 (take-append-drop (length text - 1) text)
