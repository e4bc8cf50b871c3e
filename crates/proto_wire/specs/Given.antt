-- The result of a function, compared with that of a definition.
use Rattle.std.specs.Prelude.{◌≡◌, map, Result, Ok, Err}
use Rattle.proto_wire.specs.declared.fault.WireFault.{WireFault}
use Rattle.proto_wire.specs.declared.fault.WireFault.TheVariants.{Memory, Truncated, BadTag, LongVarint, Compressed, TooLong}
use Rattle.proto_wire.specs.declared.record.Rec.{Rec}
use Rattle.proto_wire.specs.declared.record.WireValue.{WireValue}
use Rattle.proto_wire.specs.declared.record.WireValue.TheVariants.{Varint, Fixed64, Fixed32, Chunk}
use Rattle.proto_wire.specs.declared.scan.ValueRef.{ValueRef}
use Rattle.proto_wire.specs.declared.scan.ValueRef.TheVariants as lent
use Rattle.proto_wire.specs.declared.scan.RecRef.{RecRef}
use Rattle.proto_wire.specs.declared.scan.Scanned.{Scanned}
use Rattle.proto_wire.specs.Wire.{Scan}

-- The error is that of the definition, or Memory.
abbrev pub Fails : {A : Type 0} → WireFault → Result A WireFault → Type 0
Fails Memory read = Unit {0}
Fails (Truncated at) read = read ≡ Err (Truncated at)
Fails (BadTag at) read = read ≡ Err (BadTag at)
Fails (LongVarint at) read = read ≡ Err (LongVarint at)
Fails Compressed read = read ≡ Err Compressed
Fails (TooLong len) read = read ≡ Err (TooLong len)

-- The result is that of the definition, or the error Memory.
abbrev pub Gives : {A : Type 0} → Result A WireFault → Result A WireFault → Type 0
Gives (Ok x) read = read ≡ Ok x
Gives (Err fault) read = Fails fault read

-- a property, unless the error is Memory
abbrev pub UnlessMemory : {A : Type 0} → Result A WireFault → Type 0 → Type 0
UnlessMemory (Ok x) P = P
UnlessMemory (Err Memory) P = Unit {0}
UnlessMemory (Err (Truncated at)) P = P
UnlessMemory (Err (BadTag at)) P = P
UnlessMemory (Err (LongVarint at)) P = P
UnlessMemory (Err Compressed) P = P
UnlessMemory (Err (TooLong len)) P = P

-- the same for a result that is converted by `view`
abbrev pub GivesAs : {A B : Type 0} → (A → B) → Result A WireFault → Result B WireFault → Type 0
GivesAs view (Ok x) read = read ≡ Ok (view x)
GivesAs view (Err fault) read = Fails fault read

-- The result, converted by `view`, is that of the definition. Nothing is allocated.
abbrev pub IsAs : {A B : Type 0} → (A → B) → Result A WireFault → Result B WireFault → Type 0
IsAs view (Ok x) read = read ≡ Ok (view x)
IsAs view (Err fault) read = read ≡ Err fault

-- ---- borrowed records, as records

abbrev pub view_value : ValueRef → WireValue
view_value (lent.Varint n) = Varint n
view_value (lent.Fixed64 n) = Fixed64 n
view_value (lent.Fixed32 n) = Fixed32 n
view_value (lent.Chunk bytes) = Chunk bytes.now

abbrev pub view_record : RecRef → Rec
view_record r = record { number = r.number; value = view_value r.value }

abbrev pub view_scan : Scanned → Scan
view_scan s = record { records = map view_record s.records.items; fault = s.fault }
