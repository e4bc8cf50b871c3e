-- How the lines grow with each byte.
use Rattle.std.proofs.Common.{◌≡◌, ℕ, ◌+◌, ◌<◌, Bool, true, false, List, [], ◌∷◌, ◌++◌, length, refl, sym, ap, ◌∙◌, arith, append_assoc}
use Rattle.std.specs.Prelude.{◌==◌, not, if◌then◌else◌}
use Rattle.line_run.specs.Rows.{NoBreak, lines_of, onto_first}
use Rattle.run_report.specs.Counts.{ends_open}

pub ends_open_more : (bytes : List ℕ) (byte : ℕ) → ends_open (bytes ++ byte ∷ []) ≡ not (byte == 10)
ends_open_more [] byte = refl
ends_open_more (b ∷ []) byte = refl
ends_open_more (b ∷ c ∷ bytes) byte = ends_open_more (c ∷ bytes) byte

-- so many lines, and one more where none was open
abbrev then_line : Bool → ℕ → ℕ
then_line true lines = lines
then_line false lines = lines + 1

then_line-add : (is_open : Bool) (lines more : ℕ) → then_line is_open (lines + more) ≡ then_line is_open lines + more
then_line-add true lines more = refl
then_line-add false lines more = omega arith

one_line : (byte : ℕ) → length (lines_of (byte ∷ [])) ≡ 1
one_line byte = elim (byte == 10) as (λ v. length (if v then [] ∷ [] else (byte ∷ []) ∷ []) ≡ 1) [ true ↦ refl | false ↦ refl ]

-- a byte before lines
length-before : (is_break : Bool) (b : ℕ) (lines : List (List ℕ)) → 0 < length lines → length (if is_break then [] ∷ lines else onto_first b lines) ≡ length lines + (if is_break then 1 else 0)
length-before true b lines some = omega arith
length-before false b [] some = absurd (omega arith)
length-before false b (line ∷ lines) some = omega arith

some_line : (b : ℕ) (bytes : List ℕ) → 0 < length (lines_of (b ∷ bytes))
some_line b [] = rw (one_line b) (omega arith)
some_line b (c ∷ bytes) = let e = length-before (b == 10) b (lines_of (c ∷ bytes)) (some_line c bytes) in let some = some_line c bytes in omega (arith, e, some)

second_byte : (is_break : Bool) (b : ℕ) (lines : List (List ℕ)) → length lines ≡ 1 → length (if is_break then [] ∷ lines else onto_first b lines) ≡ then_line (not is_break) (length (if is_break then [] ∷ [] else (b ∷ []) ∷ []))
second_byte true b lines one = omega (arith, one)
second_byte false b [] one = absurd (omega arith)
second_byte false b (line ∷ lines) one = one

lines_of-more : (bytes : List ℕ) (byte : ℕ) → length (lines_of (bytes ++ byte ∷ [])) ≡ then_line (ends_open bytes) (length (lines_of bytes))
lines_of-more [] byte = one_line byte
lines_of-more (b ∷ []) byte = second_byte (b == 10) b (lines_of (byte ∷ [])) (one_line byte)
lines_of-more (b ∷ c ∷ bytes) byte =
    length-before (b == 10) b (lines_of (c ∷ (bytes ++ byte ∷ []))) (some_line c (bytes ++ byte ∷ []))
    ∙ ap (λ n. n + (if b == 10 then 1 else 0)) (lines_of-more (c ∷ bytes) byte)
    ∙ sym (then_line-add (ends_open (c ∷ bytes)) (length (lines_of (c ∷ bytes))) (if b == 10 then 1 else 0))
    ∙ ap (then_line (ends_open (c ∷ bytes))) (sym (length-before (b == 10) b (lines_of (c ∷ bytes)) (some_line c bytes)))

pub line_begins : (bytes : List ℕ) (byte : ℕ) → ends_open bytes ≡ false → length (lines_of (bytes ++ byte ∷ [])) ≡ length (lines_of bytes) + 1
line_begins bytes byte closed = lines_of-more bytes byte ∙ ap (λ v. then_line v (length (lines_of bytes))) closed

pub line_goes_on : (bytes : List ℕ) (byte : ℕ) → ends_open bytes ≡ true → length (lines_of (bytes ++ byte ∷ [])) ≡ length (lines_of bytes)
line_goes_on bytes byte open_line = lines_of-more bytes byte ∙ ap (λ v. then_line v (length (lines_of bytes))) open_line

-- a part of a line begins one where none was open
part_opens : (bytes : List ℕ) (b : ℕ) (part : List ℕ) → NoBreak (b ∷ part) → length (lines_of (bytes ++ b ∷ part)) ≡ then_line (ends_open bytes) (length (lines_of bytes))
part_opens bytes b [] none = lines_of-more bytes b
part_opens bytes b (c ∷ part) none =
    ap (λ (xs : List ℕ). length (lines_of xs)) (sym (append_assoc bytes (b ∷ []) (c ∷ part)))
    ∙ part_opens (bytes ++ b ∷ []) c part none.1
    ∙ ap (λ v. then_line v (length (lines_of (bytes ++ b ∷ [])))) (ends_open_more bytes b ∙ ap not none.0)
    ∙ lines_of-more bytes b

stays_open : (bytes : List ℕ) (b : ℕ) (part : List ℕ) → NoBreak (b ∷ part) → ends_open (bytes ++ b ∷ part) ≡ true
stays_open bytes b [] none = ends_open_more bytes b ∙ ap not none.0
stays_open bytes b (c ∷ part) none = ap ends_open (sym (append_assoc bytes (b ∷ []) (c ∷ part))) ∙ stays_open (bytes ++ b ∷ []) c part none.1

pub part_begins : (bytes part : List ℕ) → NoBreak part → 0 < length part → ends_open bytes ≡ false → length (lines_of (bytes ++ part)) ≡ length (lines_of bytes) + 1
part_begins bytes [] none some closed = absurd (omega arith)
part_begins bytes (b ∷ part) none some closed = part_opens bytes b part none ∙ ap (λ v. then_line v (length (lines_of bytes))) closed

pub part_goes_on : (bytes part : List ℕ) → NoBreak part → 0 < length part → ends_open bytes ≡ true → length (lines_of (bytes ++ part)) ≡ length (lines_of bytes)
part_goes_on bytes [] none some open_line = absurd (omega arith)
part_goes_on bytes (b ∷ part) none some open_line = part_opens bytes b part none ∙ ap (λ v. then_line v (length (lines_of bytes))) open_line

pub ends_open_part : (bytes part : List ℕ) → NoBreak part → 0 < length part → ends_open (bytes ++ part) ≡ true
ends_open_part bytes [] none some = absurd (omega arith)
ends_open_part bytes (b ∷ part) none some = stays_open bytes b part none
