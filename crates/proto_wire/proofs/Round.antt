-- What is spelled is read again.
use Rattle.std.proofs.Common.{◌≡◌, ℕ, zero, suc, ◌+◌, ◌-◌, ◌*◌, ◌/◌, ◌%◌, ◌^◌, ◌<◌, ◌≤◌, false, ltb, List, [], ◌∷◌, ◌++◌, length, None, Ok, refl, sym, ap, subst, ◌∙◌, append_assoc, arith, inl, inr, lit<, lit≤}
use Rattle.std.specs.List.{AllByRecursion}
use Rattle.std.specs.Int.{Width, w32, w64, byte_len, from_le_bytes, to_le_bytes}
use Rattle.std.proofs.lemmas.Bool.{cases_lt, lt-ltb, le-ltb}
use Rattle.std.proofs.lemmas.List.{take_at, drop_at, length-append}
use Rattle.std.proofs.lemmas.List.Concat.{flat_map-cons}
use Rattle.std.proofs.lemmas.Nat.{from_le_bytes-to_le_bytes_4, from_le_bytes-to_le_bytes_8, div_below, div-mul-add, mod-mul-add}
use Rattle.std.proofs.Math.Nat.{pow-suc, mul_assoc, mod-add-div}
use Rattle.proto_wire.specs.declared.record.Rec.{Rec}
use Rattle.proto_wire.specs.declared.record.WireValue.{WireValue}
use Rattle.proto_wire.specs.declared.record.WireValue.TheVariants.{Varint, Fixed64, Fixed32, Chunk}
use Rattle.proto_wire.specs.Wire.{varint_in, fixed_in, chunk_in, value_in, record_in, scan_in, scan_of, with_record, varint_up_to, varint, wire_type, value_spelled, spelled, spelling, FitsValue, Fits}

varint_again : (k at n : ℕ) (rest : List ℕ) → n < 2 * 128 ^ k → varint_in k at (varint_up_to k n ++ rest) ≡ Ok (n, rest)
unfolding varint_in varint_up_to
varint_again zero at n rest lt =
    let small : n < 2 = lt in
    rw (lt-ltb n 2 small) refl
varint_again (suc k) at n rest lt =
    elim (cases_lt n 128) [
      | inl small ↦ rw (lt-ltb n 128 small, lt-ltb n 128 small) refl
      | inr large ↦
          let e : 2 * 128 ^ suc k ≡ 2 * 128 ^ k * 128 = rw (pow-suc 128 k) (sym (mul_assoc 2 (128 ^ k) 128)) in
          let high : n / 128 < 2 * 128 ^ k = div_below n 128 (2 * 128 ^ k) (lit< tt) (subst (λ (m : ℕ). n < m) e lt) in
          let again = varint_again k at (n / 128) rest high in
          let b : ltb (n % 128 + 128) 128 ≡ false = le-ltb (n % 128 + 128) 128 (omega arith) in
          let whole : n % 128 + 128 - 128 + 128 * (n / 128) ≡ n = omega (arith, mod-add-div n 128) in
          rw (le-ltb n 128 large, b, again, whole) refl
    ]

varint_again_64 : (at n : ℕ) (rest : List ℕ) → n < 2 ^ 64 → varint_in 9 at (varint n ++ rest) ≡ Ok (n, rest)
varint_again_64 at n rest lt = varint_again 9 at n rest lt

fixed_again : (w : Width) (at n : ℕ) (rest : List ℕ) → length (to_le_bytes w n) ≡ byte_len w → from_le_bytes w (to_le_bytes w n) ≡ n → fixed_in w at (to_le_bytes w n ++ rest) ≡ Ok (n, rest)
fixed_again w at n rest len again =
    let long : ltb (length (to_le_bytes w n ++ rest)) (byte_len w) ≡ false = le-ltb _ _ (omega (arith, length-append (to_le_bytes w n) rest)) in
    rw (long, take_at (to_le_bytes w n) rest (byte_len w) len, drop_at (to_le_bytes w n) rest (byte_len w) len, again) refl

chunk_again : (at : ℕ) (text rest : List ℕ) → length text < 2 ^ 64 → chunk_in at ((varint (length text) ++ text) ++ rest) ≡ Ok (text, rest)
unfolding chunk_in
chunk_again at text rest lt =
    let long : ltb (length (text ++ rest)) (length text) ≡ false = le-ltb _ _ (omega (arith, length-append text rest)) in
    rw (append_assoc (varint (length text)) text rest, varint_again_64 at (length text) (text ++ rest) lt, long, take_at text rest (length text) refl, drop_at text rest (length text) refl) refl

value_again : (at : ℕ) (v : WireValue) (rest : List ℕ) → FitsValue v → value_in (wire_type v) at (value_spelled v ++ rest) ≡ Ok (v, rest)
unfolding value_in
value_again at (Varint n) rest fits = rw (varint_again_64 at n rest fits) refl
value_again at (Fixed64 n) rest fits = rw (fixed_again w64 at n rest refl (from_le_bytes-to_le_bytes_8 n fits)) refl
value_again at (Chunk text) rest fits = rw (chunk_again at text rest fits) refl
value_again at (Fixed32 n) rest fits = rw (fixed_again w32 at n rest refl (from_le_bytes-to_le_bytes_4 n fits)) refl

type_small : (v : WireValue) → wire_type v < 8
type_small (Varint n) = lit< tt
type_small (Fixed64 n) = lit< tt
type_small (Chunk text) = lit< tt
type_small (Fixed32 n) = lit< tt

record_again : (at : ℕ) (r : Rec) (rest : List ℕ) → Fits r → record_in at (spelled r ++ rest) ≡ Ok (r, rest)
unfolding record_in spelled
record_again at r rest fits =
    let kind = type_small r.value in
    let n = fits.named in
    let m = fits.number in
    let tag = varint_again_64 at (r.number * 8 + wire_type r.value) (value_spelled r.value ++ rest) (omega arith) in
    let low : ltb (r.number * 8 + wire_type r.value) 8 ≡ false = le-ltb _ _ (omega arith) in
    let number : (r.number * 8 + wire_type r.value) / 8 ≡ r.number = div-mul-add r.number 8 (wire_type r.value) kind in
    let rest_is : (r.number * 8 + wire_type r.value) % 8 ≡ wire_type r.value = mod-mul-add r.number 8 (wire_type r.value) kind in
    let high : ltb 536870911 r.number ≡ false = le-ltb _ _ (omega arith) in
    rw (append_assoc (varint (r.number * 8 + wire_type r.value)) (value_spelled r.value) rest, tag, low, number, high, rest_is, value_again at r.value rest fits.value) refl

varint_some : (k n : ℕ) (rest : List ℕ) → (b : ℕ) × (bytes : List ℕ) × (varint_up_to k n ++ rest ≡ b ∷ bytes)
unfolding varint_up_to
varint_some zero n rest = (n, rest, refl)
varint_some (suc k) n rest =
    elim (cases_lt n 128) [
      | inl small ↦ (n, rest, rw (lt-ltb n 128 small) refl)
      | inr large ↦ (n % 128 + 128, varint_up_to k (n / 128) ++ rest, rw (le-ltb n 128 large) refl)
    ]

-- a record takes a byte or more
spelled_some : (r : Rec) (rest : List ℕ) → (b : ℕ) × (bytes : List ℕ) × (spelled r ++ rest ≡ b ∷ bytes)
unfolding spelled
spelled_some r rest =
    let v = varint_some 9 (r.number * 8 + wire_type r.value) (value_spelled r.value ++ rest) in
    (v.0, v.1, append_assoc (varint (r.number * 8 + wire_type r.value)) (value_spelled r.value) rest ∙ v.2)

scan_some : (n total b : ℕ) (bytes after : List ℕ) (r : Rec) → record_in (total - length (b ∷ bytes)) (b ∷ bytes) ≡ Ok (r, after) → scan_in (suc n) total (b ∷ bytes) ≡ with_record r (scan_in n total after)
unfolding scan_in
scan_some n total b bytes after r h = rw h refl

scan_none : (n total : ℕ) → scan_in n total [] ≡ record { records = []; fault = None }
unfolding scan_in
scan_none zero total = refl
scan_none (suc n) total = refl

scan_again : (n total : ℕ) (rs : List Rec) → length rs ≤ n → AllByRecursion Fits rs → scan_in n total (spelling rs) ≡ record { records = rs; fault = None }
scan_again n total [] le fits = scan_none n total
scan_again zero total (r ∷ rs) le fits = absurd (omega arith)
scan_again (suc n) total (r ∷ rs) le fits =
    let some = spelled_some r (spelling rs) in
    let here : record_in (total - length (some.0 ∷ some.1)) (some.0 ∷ some.1) ≡ Ok (r, spelling rs) = subst (λ (bytes : List ℕ). record_in (total - length (some.0 ∷ some.1)) bytes ≡ Ok (r, spelling rs)) some.2 (record_again (total - length (some.0 ∷ some.1)) r (spelling rs) fits.0) in
    let rest = scan_again n total rs (omega arith) fits.1 in
    ap (scan_in (suc n) total) (flat_map-cons spelled r rs ∙ some.2) ∙ scan_some n total some.0 some.1 (spelling rs) r here ∙ ap (with_record r) rest

long_enough : (rs : List Rec) → length rs ≤ length (spelling rs)
long_enough [] = lit≤ tt
long_enough (r ∷ rs) =
    let some = spelled_some r [] in
    let one : length (spelled r ++ []) ≡ length (some.0 ∷ some.1) = ap length some.2 in
    let others = long_enough rs in
    omega (arith, one, length-append (spelled r) [], length-append (spelled r) (spelling rs))

pub reads_back : (rs : List Rec) → AllByRecursion Fits rs → scan_of (spelling rs) ≡ record { records = rs; fault = None }
reads_back rs fits = scan_again (length (spelling rs)) (length (spelling rs)) rs (long_enough rs) fits
