-- The check of a value without that of a message nested in it.
use Rattle.std.specs.Prelude.{ℕ, not, List, Option, Some, None, Result, Ok, Err, nat_lt, if◌then◌else◌, option_map}
use Rattle.std.specs.Borrow.{Bor}
use Rattle.std.specs.Str.{is_utf8}
use Rattle.proto_wire.specs.declared.record.WireValue.{WireValue}
use Rattle.proto_wire.specs.declared.record.WireValue.TheVariants as wire
use Rattle.proxy_proto.specs.declared.fault.ProtoFault.{ProtoFault}
use Rattle.proxy_proto.specs.declared.fault.ProtoFault.TheVariants.{WrongWire, NotUtf8, Range}
use Rattle.proxy_proto.specs.declared.table.FieldKind.{FieldKind}
use Rattle.proxy_proto.specs.declared.table.FieldKind.TheVariants.{Number, Fixed32, Fixed64, Text, Message}
use Rattle.proxy_proto.specs.declared.table.Schema.{Schema}

-- the nested message that is still to be checked, if there is one, or the fault
abbrev pub Look : Type 0
Look = Result (Option (Schema × List ℕ)) ProtoFault

abbrev pub nested_in : ℕ → FieldKind → WireValue → Look
nested_in n (Number most) (wire.Varint x) = if nat_lt most x then Err (Range n) else Ok None
nested_in n Fixed32 (wire.Fixed32 x) = Ok None
nested_in n Fixed64 (wire.Fixed64 x) = Ok None
nested_in n Text (wire.Chunk bytes) = if not (is_utf8 bytes) then Err (NotUtf8 n) else Ok None
nested_in n (Message schema) (wire.Chunk bytes) = Ok (Some (schema, bytes))
nested_in n _ _ = Err (WrongWire n)

-- the result of a check, without the place of the nested message; a check needs no memory
abbrev pub seen_as : Result (Option (Schema × Bor (List ℕ))) ProtoFault → Look
seen_as (Ok found) = Ok (option_map (λ p. (p.0, p.1.now)) found)
seen_as (Err fault) = Err fault
