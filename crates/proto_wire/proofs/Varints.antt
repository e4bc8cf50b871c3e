-- Varints, written from the last byte to the first.
use Rattle.std.proofs.Common.{◌≡◌, ℕ, zero, suc, ◌+◌, ◌-◌, ◌*◌, ◌/◌, ◌%◌, ◌^◌, ◌<◌, ◌≤◌, [], ◌∷◌, refl, sym, subst, arith, lit<}
use Rattle.std.proofs.lemmas.Bool.{lt-ltb, le-ltb}
use Rattle.std.proofs.lemmas.Nat.{div_below}
use Rattle.std.proofs.Math.Nat.{mul_assoc, pow-suc}
use Rattle.proto_wire.specs.Wire.{varint_up_to}

-- a number of several bytes may have one more
pub has_more : (k n : ℕ) → 128 ≤ n → n < 2 * 128 ^ k → 0 < k
has_more zero n large few = let tiny : n < 2 = few in absurd (omega arith)
has_more (suc k) n large few = omega arith

pub fewer : (k n : ℕ) → 0 < k → n < 2 * 128 ^ k → n / 128 < 2 * 128 ^ (k - 1)
fewer zero n some few = absurd (omega (arith, some))
fewer (suc k) n some few =
    let e : 2 * 128 ^ suc k ≡ 2 * 128 ^ k * 128 = rw (pow-suc 128 k) (sym (mul_assoc 2 (128 ^ k) 128)) in
    let j : suc k - 1 ≡ k = omega arith in
    rw j (div_below n 128 (2 * 128 ^ k) (lit< tt) (subst (λ (m : ℕ). n < m) e few))

pub one_byte : (k n : ℕ) → n < 128 → varint_up_to k n ≡ n ∷ []
unfolding varint_up_to
one_byte zero n small = refl
one_byte (suc k) n small = rw (lt-ltb n 128 small) refl

pub more_bytes : (k n : ℕ) → 0 < k → 128 ≤ n → varint_up_to k n ≡ (n % 128 + 128) ∷ varint_up_to (k - 1) (n / 128)
unfolding varint_up_to
more_bytes zero n some large = absurd (omega (arith, some))
more_bytes (suc k) n some large =
    let j : suc k - 1 ≡ k = omega arith in
    rw (le-ltb n 128 large, j) refl

pub ruleset varints = (has_more, fewer, one_byte, more_bytes)
