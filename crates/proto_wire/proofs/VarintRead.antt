-- Varints, read a byte at a time.
use Rattle.std.proofs.Common.{◌≡◌, ℕ, zero, suc, ◌+◌, ◌-◌, ◌*◌, ◌^◌, ◌<◌, ◌≤◌, List, Ok, Err, refl, sym, ◌∙◌, add_assoc, add-one, arith, lit<}
use Rattle.std.proofs.lemmas.Bool.{lt-ltb, le-ltb}
use Rattle.std.proofs.Math.Nat.{pow-le-pow_right, pow-suc, mul_assoc, mul-add, mul-one, mul-le-mul_left}
use Rattle.proto_wire.specs.declared.fault.WireFault.{WireFault}
use Rattle.proto_wire.specs.declared.fault.WireFault.TheVariants.{LongVarint}
use Rattle.proto_wire.specs.Wire.{◌>>=◌, Reading, byte_in, varint_in}

-- what is still read, with v in the low places and the rest from p on
abbrev pub with_low : ℕ → ℕ → Reading ℕ → Reading ℕ
with_low v p read = read >>= λ x. Ok (v + p * x.0, x.1)

-- a power of 128 that stays far below 2 ^ 64
pub pow_small : (i : ℕ) → i ≤ 9 → 128 ^ i ≤ 2 ^ 63
pow_small i h = pow-le-pow_right {n = 128} (lit< tt) {i = i} {j = 9} h

regroup : (v p b : ℕ) (read : Reading ℕ) → with_low v p (read >>= λ high. Ok (b + 128 * high.0, high.1)) ≡ with_low (v + p * b) (p * 128) read
regroup v p b (Ok x) =
    let e : v + p * (b + 128 * x.0) ≡ (v + p * b) + p * 128 * x.0 = rw (mul-add p b (128 * x.0), ← mul_assoc p 128 x.0) (sym (add_assoc v (p * b) (p * 128 * x.0))) in
    rw e refl
regroup v p b (Err e) = refl

-- no byte is left
pub short : (k at v p : ℕ) (bytes : List ℕ) (e : WireFault) (total : Reading ℕ) → byte_in at bytes ≡ Err e → with_low v p (varint_in k at bytes) ≡ total → total ≡ Err e
unfolding varint_in
short zero at v p bytes e total h so_far = sym so_far ∙ rw h refl
short (suc k) at v p bytes e total h so_far = sym so_far ∙ rw h refl

-- the last byte, before the tenth
pub last : (i at b v p : ℕ) (bytes after : List ℕ) (total : Reading ℕ) → i < 9 → b < 128 → byte_in at bytes ≡ Ok (b, after) → with_low v p (varint_in (9 - i) at bytes) ≡ total → total ≡ Ok (v + p * b, after)
unfolding varint_in
last i at b v p bytes after total lt small here h =
    let k : 9 - i ≡ suc (9 - (i + 1)) = omega arith in
    let one : with_low v p (varint_in (9 - i) at bytes) ≡ Ok (v + p * b, after) = rw (k, here, lt-ltb b 128 small) refl in
    sym h ∙ one

pub more : (i at b v p : ℕ) (bytes after : List ℕ) (total : Reading ℕ) → i < 9 → 128 ≤ b → byte_in at bytes ≡ Ok (b, after) → with_low v p (varint_in (9 - i) at bytes) ≡ total → with_low (v + p * (b - 128)) (p * 128) (varint_in (9 - (i + 1)) at after) ≡ total
unfolding varint_in
more i at b v p bytes after total lt large here h =
    let k : 9 - i ≡ suc (9 - (i + 1)) = omega arith in
    let one : with_low v p (varint_in (9 - i) at bytes) ≡ with_low (v + p * (b - 128)) (p * 128) (varint_in (9 - (i + 1)) at after) = rw (k, here, le-ltb b 128 large) (regroup v p (b - 128) (varint_in (9 - (i + 1)) at after)) in
    sym one ∙ h

pub tenth : (i at b v p : ℕ) (bytes after : List ℕ) (total : Reading ℕ) → 9 ≤ i → b < 2 → byte_in at bytes ≡ Ok (b, after) → with_low v p (varint_in (9 - i) at bytes) ≡ total → total ≡ Ok (v + p * b, after)
unfolding varint_in
tenth i at b v p bytes after total le small here h =
    let k : 9 - i ≡ 0 = omega arith in
    let one : with_low v p (varint_in (9 - i) at bytes) ≡ Ok (v + p * b, after) = rw (k, here, lt-ltb b 2 small) refl in
    sym h ∙ one

pub too_long : (i at b v p : ℕ) (bytes after : List ℕ) (total : Reading ℕ) → 9 ≤ i → 2 ≤ b → byte_in at bytes ≡ Ok (b, after) → with_low v p (varint_in (9 - i) at bytes) ≡ total → total ≡ Err (LongVarint at)
unfolding varint_in
too_long i at b v p bytes after total le large here h =
    let k : 9 - i ≡ 0 = omega arith in
    let one : with_low v p (varint_in (9 - i) at bytes) ≡ Err (LongVarint at) = rw (k, here, le-ltb b 2 large) refl in
    sym h ∙ one

-- the next byte's part fits
pub part_fits : (i p v b : ℕ) → i < 9 → p ≡ 128 ^ i → v < p → b < 128 → (p * b < 2 ^ 64) × (v + p * b < p * 128) × (p * 128 < 2 ^ 64)
part_fits i p v b lt e small b_small =
    let top : 128 ^ (i + 1) ≤ 2 ^ 63 = pow_small (i + 1) (omega arith) in
    let next : 128 ^ (i + 1) ≡ p * 128 = rw (add-one, pow-suc 128 i, ← e) refl in
    let most : p * (b + 1) ≤ p * 128 = mul-le-mul_left p (omega arith) in
    let split : p * (b + 1) ≡ p * b + p = rw (mul-add p b 1, mul-one p) refl in
    (omega arith, omega arith, omega arith)

pub tenth_fits : (i p v b : ℕ) → i ≤ 9 → p ≡ 128 ^ i → v < p → b < 2 → (p * b < 2 ^ 64) × (v + p * b < 2 ^ 64)
tenth_fits i p v b le e small b_small =
    let top : p ≤ 2 ^ 63 = rw e (pow_small i le) in
    let most : p * b ≤ p * 1 = mul-le-mul_left p (omega arith) in
    (omega (arith, mul-one p), omega (arith, mul-one p))
