-- Records in the wire format: how each is read, and its one canonical encoding.
use Rattle.std.specs.Prelude.{ℕ, zero, suc, ◌+◌, ◌-◌, ◌*◌, ◌/◌, ◌%◌, ◌^◌, ◌<◌, List, [], ◌∷◌, ◌++◌, length, take, drop, Option, Some, None, Result, Ok, Err, nat_lt, ◌==◌, ◌||◌, if◌then◌else◌}
use Rattle.std.specs.List.{flat_map}
use Rattle.std.specs.Int.{Width, w32, w64, byte_len, from_le_bytes, to_le_bytes}
use Rattle.proto_wire.specs.declared.fault.WireFault.{WireFault}
use Rattle.proto_wire.specs.declared.fault.WireFault.TheVariants.{Truncated, BadTag, LongVarint}
use Rattle.proto_wire.specs.declared.record.Rec.{Rec}
use Rattle.proto_wire.specs.declared.record.WireValue.{WireValue}
use Rattle.proto_wire.specs.declared.record.WireValue.TheVariants.{Varint, Fixed64, Fixed32, Chunk}

-- ---- reading a record that begins at this index: the value and the bytes after it, or the error

abbrev pub Reading : Type 0 → Type 0
Reading A = Result (A × List ℕ) WireFault

infixl 10 ◌>>=◌
abbrev pub ◌>>=◌ : {A B : Type 0} → Result A WireFault → (A → Result B WireFault) → Result B WireFault
(Ok x) >>= f = f x
(Err e) >>= f = Err e

abbrev pub byte_in : ℕ → List ℕ → Reading ℕ
byte_in at [] = Err (Truncated at)
byte_in at (b ∷ bytes) = Ok (b, bytes)

-- A varint with at most k bytes before the last one: seven bits a byte, the low ones first. After k
-- bytes the last one is 0 or 1.
unfoldable pub varint_in : ℕ → ℕ → List ℕ → Reading ℕ
varint_in zero at bytes = byte_in at bytes >>= λ b. if nat_lt b.0 2 then Ok b else Err (LongVarint at)
varint_in (suc k) at bytes = byte_in at bytes >>= λ b. if nat_lt b.0 128 then Ok b else (varint_in k at b.1 >>= λ high. Ok (b.0 - 128 + 128 * high.0, high.1))

abbrev pub fixed_in : Width → ℕ → List ℕ → Reading ℕ
fixed_in w at bytes = if nat_lt (length bytes) (byte_len w) then Err (Truncated at) else Ok (from_le_bytes w (take (byte_len w) bytes), drop (byte_len w) bytes)

unfoldable pub chunk_in : ℕ → List ℕ → Reading (List ℕ)
chunk_in at bytes = do
  n ← varint_in 9 at bytes
  if nat_lt (length n.1) n.0 then Err (Truncated at) else Ok (take n.0 n.1, drop n.0 n.1)

-- the value after a tag of this wire type
unfoldable pub value_in : ℕ → ℕ → List ℕ → Reading WireValue
value_in kind at bytes =
    if kind == 0 then (varint_in 9 at bytes >>= λ n. Ok (Varint n.0, n.1))
    else (if kind == 1 then (fixed_in w64 at bytes >>= λ n. Ok (Fixed64 n.0, n.1))
    else (if kind == 2 then (chunk_in at bytes >>= λ text. Ok (Chunk text.0, text.1))
    else (if kind == 5 then (fixed_in w32 at bytes >>= λ n. Ok (Fixed32 n.0, n.1))
    else Err (BadTag at))))

-- a record: a varint of the field number times 8 plus the wire type, and the value
unfoldable pub record_in : ℕ → List ℕ → Reading Rec
record_in at bytes = do
  tag ← varint_in 9 at bytes
  if nat_lt tag.0 8 || nat_lt 536870911 (tag.0 / 8) then Err (BadTag at)
      else (value_in (tag.0 % 8) at tag.1 >>= λ value. Ok (record { number = tag.0 / 8; value = value.0 }, value.1))

-- the records before the first malformed one, and its error
pub record Scan : Type 0 where
  pub records : List Rec
  pub fault : Option WireFault

abbrev pub with_record : Rec → Scan → Scan
with_record r s = record { records = r ∷ s.records; fault = s.fault }

abbrev pub scan_step : (List ℕ → Scan) → Reading Rec → Scan
scan_step more (Ok r) = with_record r.0 (more r.1)
scan_step more (Err e) = record { records = []; fault = Some e }

-- at most n records, from the last bytes of a message of this many bytes
unfoldable pub scan_in : ℕ → ℕ → List ℕ → Scan
scan_in n total [] = record { records = []; fault = None }
scan_in zero total (b ∷ bytes) = record { records = []; fault = None }
scan_in (suc n) total (b ∷ bytes) = scan_step (scan_in n total) (record_in (total - length (b ∷ bytes)) (b ∷ bytes))

-- Each record has at least one byte, and the length bounds their number.
abbrev pub scan_of : List ℕ → Scan
scan_of bytes = scan_in (length bytes) (length bytes) bytes

-- a value, or the error if there is one
abbrev pub unless_fault : {A : Type 0} → Option WireFault → A → Result A WireFault
unless_fault None x = Ok x
unless_fault (Some fault) x = Err fault

-- the records of a message, or the first error
abbrev pub records_of : List ℕ → Result (List Rec) WireFault
records_of bytes = unless_fault (scan_of bytes).fault (scan_of bytes).records

-- ---- the canonical encoding

-- the shortest varint, of at most k bytes before the last
unfoldable pub varint_up_to : ℕ → ℕ → List ℕ
varint_up_to zero n = n ∷ []
varint_up_to (suc k) n = if nat_lt n 128 then n ∷ [] else (n % 128 + 128) ∷ varint_up_to k (n / 128)

abbrev pub varint : ℕ → List ℕ
varint n = varint_up_to 9 n

abbrev pub wire_type : WireValue → ℕ
wire_type (Varint n) = 0
wire_type (Fixed64 n) = 1
wire_type (Chunk bytes) = 2
wire_type (Fixed32 n) = 5

abbrev pub value_spelled : WireValue → List ℕ
value_spelled (Varint n) = varint n
value_spelled (Fixed64 n) = to_le_bytes w64 n
value_spelled (Chunk bytes) = varint (length bytes) ++ bytes
value_spelled (Fixed32 n) = to_le_bytes w32 n

unfoldable pub spelled : Rec → List ℕ
spelled r = varint (r.number * 8 + wire_type r.value) ++ value_spelled r.value

abbrev pub spelling : List Rec → List ℕ
spelling rs = flat_map spelled rs

-- ---- records that can be encoded

abbrev pub FitsValue : WireValue → Type 0
FitsValue (Varint n) = n < 2 ^ 64
FitsValue (Fixed64 n) = n < 2 ^ 64
FitsValue (Chunk bytes) = length bytes < 2 ^ 64
FitsValue (Fixed32 n) = n < 2 ^ 32

pub record Fits (r : Rec) : Type 0 where
  pub named : 0 < r.number
  pub number : r.number < 536870912
  pub value : FitsValue r.value
