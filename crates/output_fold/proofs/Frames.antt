-- Bytes that are one frame, and others.
use Rattle.std.proofs.Common.{◌≡◌, ◌≢◌, ℕ, ◌+◌, ◌-◌, ◌*◌, ◌<◌, ◌≤◌, Bool, true, false, cond, List, [], ◌∷◌, length, take, drop, get_or, Some, None, Ok, Err, nat_le, refl, sym, ap, ◌∙◌, arith, length-drop}
use Rattle.std.proofs.lemmas.Bool.Decides.{nat_tests}
use Rattle.std.proofs.lemmas.List.{drop_all, take_all, take_rest}
use Rattle.proto_wire.specs.Frames.{cut_off}
use Rattle.output_fold.specs.Lines.{alone, message_in}
use Rattle.output_fold.specs.declared.fault.FoldFault.TheVariants.{NotLine}

-- the length that four bytes say
abbrev said : List ℕ → ℕ
said bytes = ((get_or bytes 1 0 * 16777216 + get_or bytes 2 0 * 65536) + get_or bytes 3 0 * 256) + get_or bytes 4 0

framed : (bytes : List ℕ) → 5 ≤ length bytes → get_or bytes 0 0 ≡ 0 → message_in bytes ≡ alone (cut_off (said bytes) (drop 5 bytes))
framed [] long flag = absurd (omega arith)
framed (f ∷ []) long flag = absurd (omega arith)
framed (f ∷ a ∷ []) long flag = absurd (omega arith)
framed (f ∷ a ∷ b ∷ []) long flag = absurd (omega arith)
framed (f ∷ a ∷ b ∷ c ∷ []) long flag = absurd (omega arith)
framed (f ∷ a ∷ b ∷ c ∷ d ∷ message) long flag = rw flag refl

-- behind the five bytes there stands the message
rest_of : (bytes : List ℕ) → take (length bytes - 5) (drop 5 bytes) ≡ drop 5 bytes
rest_of bytes = take_rest bytes 5

followed : (message rest : List ℕ) → 0 < length rest → alone (Some (message, rest)) ≡ Err NotLine
followed message [] some = absurd (omega arith)
followed message (byte ∷ bytes) some = refl

-- a message of another length than the frame says
other_length : (len : ℕ) (message : List ℕ) → length message ≢ len → alone (cut_off len message) ≡ Err NotLine
other_length len message other = by_test (nat_le len (length message)) refl
  where
    by_test : (b : Bool) → nat_le len (length message) ≡ b → alone (cond b (Some (take len message, drop len message)) None) ≡ Err NotLine
    by_test false e = refl
    by_test true e = let low : len ≤ length message = grind (arith, nat_tests) in followed (take len message) (drop len message) (simp length-drop (omega arith))

that_length : (message : List ℕ) → alone (cut_off (length message) message) ≡ Ok message
that_length message =
    let low : nat_le (length message) (length message) ≡ true = grind (arith, nat_tests) in
    rw (low, take_all (length message) message (omega arith), drop_all (length message) message (omega arith)) refl

pub not_one : (bytes : List ℕ) (len : ℕ) → 5 ≤ length bytes → get_or bytes 0 0 ≡ 0 → len ≡ said bytes → length (take (length bytes - 5) (drop 5 bytes)) ≢ len → message_in bytes ≡ Err NotLine
not_one bytes len long flag is other = framed bytes long flag ∙ other_length (said bytes) (drop 5 bytes) (λ same. other (ap length (rest_of bytes) ∙ same ∙ sym is))

pub is_one : (bytes : List ℕ) (len : ℕ) → 5 ≤ length bytes → get_or bytes 0 0 ≡ 0 → len ≡ said bytes → length (take (length bytes - 5) (drop 5 bytes)) ≡ len
    → message_in bytes ≡ Ok (take (length bytes - 5) (drop 5 bytes))
is_one bytes len long flag is same =
    framed bytes long flag ∙ ap (λ (n : ℕ). alone (cut_off n (drop 5 bytes))) (sym is ∙ sym same ∙ ap length (rest_of bytes)) ∙ that_length (drop 5 bytes) ∙ ap Ok (sym (rest_of bytes))
