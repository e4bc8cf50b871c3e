-- What the forms of a line tell who reads the frames of an id.
use Rattle.std.proofs.Common.{◌≡◌, ℕ, ◌<◌, ◌^◌, false, List, [], ◌∷◌, ◌++◌, Some, None, Ok, refl, sym, ap, ◌∙◌, append_assoc, arith}
use Rattle.std.specs.Prelude.{◌==◌, codes}
use Rattle.std.specs.Fmt.{decimal}
use Rattle.mesh_base.specs.Pieces.{pieces}
use Rattle.mesh_base.proofs.Cuts.{pieces_some}
use Rattle.line_run.specs.Rows.{NoBreak}
use Rattle.hex.specs.Hex.{encode_lower}
use Rattle.feed_history.proofs.EntriesById.{same_id}
use Rattle.view_types.specs.declared.query.Method.{Method}
use Rattle.output_fold.specs.Lines.{Hex, frame_words, hex_in, hex_of, row_says, told_by, ◌>>=◌}
use Rattle.output_laws.proofs.Decimals.{decimal_begins, decimal_is_number, decimal_is_number_of, decimal_without}
use Rattle.output_laws.proofs.Without.{Without, hex_without_space, looked_through, no_break, pieces_at, pieces_last, without_both}

-- `<word> <n> <rest>`
abbrev pub line_in : List ℕ → ℕ → List ℕ → List ℕ
line_in word n rest = word ++ (32 ∷ (decimal n ++ (32 ∷ rest)))

-- with an LF behind it
pub line_ended : (word : List ℕ) (n : ℕ) (rest : List ℕ) → word ++ (32 ∷ (decimal n ++ (32 ∷ (rest ++ 10 ∷ [])))) ≡ line_in word n rest ++ 10 ∷ []
line_ended word n rest = sym (append_assoc word (32 ∷ (decimal n ++ (32 ∷ rest))) (10 ∷ []) ∙ ap (λ (xs : List ℕ). word ++ (32 ∷ xs)) (append_assoc (decimal n) (32 ∷ rest) (10 ∷ [])))

pub line_unbroken : (word : List ℕ) (n : ℕ) (rest : List ℕ) → n < 2 ^ 64 → Without 10 word → Without 10 rest → NoBreak (line_in word n rest)
line_unbroken word n rest small free more =
    no_break (line_in word n rest) (without_both 10 word (32 ∷ (decimal n ++ (32 ∷ rest))) free (refl, without_both 10 (decimal n) (32 ∷ rest) (decimal_without 10 n (omega arith) small) (refl, more)))

words_of : (word : List ℕ) (n : ℕ) (rest : List ℕ) → n < 2 ^ 64 → Without 32 word → pieces 32 (line_in word n rest) ≡ word ∷ decimal n ∷ pieces 32 rest
words_of word n rest small free =
    pieces_at 32 word (decimal n ++ (32 ∷ rest)) free ∙ ap (λ (more : List (List ℕ)). word ∷ more) (pieces_at 32 (decimal n) rest (decimal_without 32 n (omega arith) small))

-- ---- the four words

by_frame : (id : ℕ) (more : List (List ℕ)) → hex_in id (codes "frame" ∷ more) ≡ frame_words id more
unfolding hex_in
by_frame id more = refl

frame_hex : (id n : ℕ) (rest : List ℕ) → n < 2 ^ 64 → hex_of id (line_in (codes "frame") n rest) ≡ frame_words id (decimal n ∷ pieces 32 rest)
frame_hex id n rest small = ap (hex_in id) (words_of (codes "frame") n rest small (looked_through 32 (codes "frame") refl)) ∙ by_frame id (decimal n ∷ pieces 32 rest)

-- a frame of the id
pub own_frame : (id : ℕ) (frame : List ℕ) → id < 2 ^ 64 → hex_of id (line_in (codes "frame") id (encode_lower frame)) ≡ Ok (Some (encode_lower frame))
own_frame id frame small =
    frame_hex id id (encode_lower frame) small
    ∙ rw (pieces_last 32 (encode_lower frame) (hex_without_space frame), decimal_is_number_of id id small ∙ same_id id id refl) refl

-- a frame of another id
pub other_frame : (id n : ℕ) (rest : List ℕ) → n < 2 ^ 64 → (n == id) ≡ false → hex_of id (line_in (codes "frame") n rest) ≡ Ok None
other_frame id n rest small other =
    let some = pieces_some 32 rest in
    frame_hex id n rest small ∙ rw (some.2, decimal_is_number_of id n small ∙ other, decimal_is_number n small) refl

-- how long a message is
pub oversize_passed : (id n bytes : ℕ) → n < 2 ^ 64 → bytes < 2 ^ 64 → hex_of id (line_in (codes "oversize") n (decimal bytes)) ≡ Ok None
unfolding hex_in
oversize_passed id n bytes small short =
    ap (hex_in id) (words_of (codes "oversize") n (decimal bytes) small (looked_through 32 (codes "oversize") refl))
    ∙ rw (pieces_last 32 (decimal bytes) (decimal_without 32 bytes (omega arith) short), decimal_is_number n small, decimal_is_number bytes short) refl

-- a verdict, and why a line is refused
pub verdict_passed : (id n : ℕ) (rest : List ℕ) → n < 2 ^ 64 → hex_of id (line_in (codes "verdict") n rest) ≡ Ok None
unfolding hex_in
verdict_passed id n rest small =
    ap (hex_in id) (words_of (codes "verdict") n rest small (looked_through 32 (codes "verdict") refl)) ∙ rw (decimal_begins n small) refl

pub refused_passed : (id n : ℕ) (rest : List ℕ) → n < 2 ^ 64 → hex_of id (line_in (codes "refused") n rest) ≡ Ok None
unfolding hex_in
refused_passed id n rest small =
    ap (hex_in id) (words_of (codes "refused") n rest small (looked_through 32 (codes "refused") refl)) ∙ rw (decimal_begins n small) refl

-- ---- rows

pub passed : (method : Method) (id : ℕ) (line : List ℕ) → hex_of id line ≡ Ok None → row_says method id (Some line) ≡ Ok None
unfolding row_says
passed method id line is = ap (λ (hex : Hex). hex >>= told_by method) is

pub read : (method : Method) (id : ℕ) (line hex : List ℕ) → hex_of id line ≡ Ok (Some hex) → row_says method id (Some line) ≡ told_by method (Some hex)
unfolding row_says
read method id line hex is = ap (λ (h : Hex). h >>= told_by method) is
