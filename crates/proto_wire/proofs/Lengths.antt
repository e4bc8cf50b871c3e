-- How many bytes records take.
use Rattle.std.proofs.Common.{◌≡◌, ℕ, zero, suc, ◌+◌, ◌*◌, ◌/◌, ◌<◌, ◌≤◌, List, length, refl, arith, inl, inr, lit<, lit≤}
use Rattle.std.proofs.lemmas.Bool.{cases_lt, lt-ltb, le-ltb}
use Rattle.std.proofs.lemmas.List.{length-append}
use Rattle.proto_wire.specs.declared.record.Rec.{Rec}
use Rattle.proto_wire.specs.declared.record.WireValue.{WireValue}
use Rattle.proto_wire.specs.declared.record.WireValue.TheVariants.{Varint, Fixed64, Fixed32, Chunk}
use Rattle.proto_wire.specs.Wire.{varint_up_to, varint, wire_type, value_spelled, spelled}

varint_up_to-length : (k n : ℕ) → length (varint_up_to k n) ≤ k + 1
unfolding varint_up_to
varint_up_to-length zero n = lit≤ tt
varint_up_to-length (suc k) n =
    elim (cases_lt n 128) [
      | inl small ↦ rw (lt-ltb n 128 small) (omega arith)
      | inr large ↦ let rest = varint_up_to-length k (n / 128) in rw (le-ltb n 128 large) (omega arith)
    ]

pub varint-length : (n : ℕ) → length (varint n) ≤ 10
varint-length n = varint_up_to-length 9 n

varint-small : (n : ℕ) → n < 128 → length (varint n) ≡ 1
unfolding varint_up_to
varint-small n lt = rw (lt-ltb n 128 lt) refl

wire_type-small : (v : WireValue) → wire_type v < 8
wire_type-small (Varint n) = lit< tt
wire_type-small (Fixed64 n) = lit< tt
wire_type-small (Chunk bytes) = lit< tt
wire_type-small (Fixed32 n) = lit< tt

-- A field below 16 takes one byte more than its value.
pub spelled-length : (r : Rec) → r.number < 16 → length (spelled r) ≡ length (value_spelled r.value) + 1
unfolding spelled
spelled-length r lt =
    let kind = wire_type-small r.value in
    let tag = varint-small (r.number * 8 + wire_type r.value) (omega arith) in
    omega (arith, length-append (varint (r.number * 8 + wire_type r.value)) (value_spelled r.value))

pub number-length : (field n : ℕ) → field < 16 → length (spelled (record { number = field; value = Varint n })) ≤ 11
number-length field n lt =
    let all = spelled-length (record { number = field; value = Varint n }) lt in
    let most = varint-length n in
    omega arith

pub fixed64-length : (field n : ℕ) → field < 16 → length (spelled (record { number = field; value = Fixed64 n })) ≡ 9
fixed64-length field n lt = spelled-length (record { number = field; value = Fixed64 n }) lt

pub fixed32-length : (field n : ℕ) → field < 16 → length (spelled (record { number = field; value = Fixed32 n })) ≡ 5
fixed32-length field n lt = spelled-length (record { number = field; value = Fixed32 n }) lt

pub chunk-length : (field : ℕ) (bytes : List ℕ) → field < 16 → length (spelled (record { number = field; value = Chunk bytes })) ≤ length bytes + 11
chunk-length field bytes lt =
    let all = spelled-length (record { number = field; value = Chunk bytes }) lt in
    let most = varint-length (length bytes) in
    omega (arith, length-append (varint (length bytes)) bytes)
