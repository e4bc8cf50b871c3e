-- The first fault of a message, in the order of its bytes; faults of a nested message are found at its record.
use Rattle.std.specs.Prelude.{ℕ, zero, suc, ◌+◌, ◌^◌, ◌||◌, ◌&&◌, Bool, true, false, not, List, [], ◌∷◌, ◌++◌, length, Option, Some, None, nat_lt, ◌==◌, if◌then◌else◌}
use Rattle.std.specs.Str.{is_utf8, bytes_eq}
use Rattle.proto_wire.specs.declared.fault.WireFault.{WireFault}
use Rattle.proto_wire.specs.declared.record.Rec.{Rec}
use Rattle.proto_wire.specs.declared.record.WireValue.{WireValue}
use Rattle.proto_wire.specs.declared.record.WireValue.TheVariants as wire
use Rattle.proto_wire.specs.Wire.{Scan, scan_of}
use Rattle.proxy_proto.specs.declared.fault.ProtoFault.{ProtoFault}
use Rattle.proxy_proto.specs.declared.fault.ProtoFault.TheVariants.{Wire, Repeated as RepeatedField, WrongWire, NotUtf8, Range, Absent, NoChoice}
use Rattle.proxy_proto.specs.declared.table.Field.{Field}
use Rattle.proxy_proto.specs.declared.table.FieldKind.{FieldKind}
use Rattle.proxy_proto.specs.declared.table.FieldKind.TheVariants.{Number, Fixed32, Fixed64, Text, Message}
use Rattle.proxy_proto.specs.declared.table.Label.{Label}
use Rattle.proxy_proto.specs.declared.table.Label.TheVariants.{Single, Required, Choice, Repeated, Map}
use Rattle.proxy_proto.specs.declared.table.Schema.{Schema}
use Rattle.proxy_proto.specs.declared.table.Schema.TheVariants.{Duration, IpNetwork, Server, Authz, AuthzKey, HttpRoute, PathMatch, PortSpec}
use Rattle.proxy_proto.specs.LookUps.{records_in, value_at, has, number_from, nanoseconds_in, chunk_from, chunk_in, inside}
use Rattle.proxy_proto.specs.Tables.{number_of, label_of, kind_of, fields_of}

abbrev pub or_fault : Option ProtoFault → Option ProtoFault → Option ProtoFault
or_fault None later = later
or_fault (Some fault) later = Some fault

abbrev pub fault_if : Bool → ProtoFault → Option ProtoFault
fault_if b fault = if b then Some fault else None

-- ---- fields

-- the field of this number
abbrev pub field_at : ℕ → List Field → Option Field
field_at n [] = None
field_at n (f ∷ fs) = if number_of f == n then Some f else field_at n fs

abbrev pub is_choice : Label → Bool
is_choice Choice = true
is_choice _ = false

abbrev pub is_required : Label → Bool
is_required Required = true
is_required _ = false

-- the message has a member of the choice
abbrev pub has_choice : List Field → List Rec → Bool
has_choice [] rs = false
has_choice (f ∷ fs) rs = (is_choice (label_of f) && has (number_of f) rs) || has_choice fs rs

-- the key of a map's entry; an omitted key is empty
abbrev pub key_of : WireValue → List ℕ
key_of value = chunk_in 1 (records_in (chunk_from (Some value)))

-- an entry of this field has this key
abbrev pub has_key : ℕ → List ℕ → List Rec → Bool
has_key n key [] = false
has_key n key (r ∷ rs) = (r.number == n && bytes_eq (key_of r.value) key) || has_key n key rs

-- ---- one record; `seen` are the records before it, and `inner` returns the fault of a nested message

-- the message already has as many records of this field, or of the choice, as it may
abbrev pub is_repeated : List Field → List Rec → ℕ → Label → Bool
is_repeated fs seen n Single = has n seen
is_repeated fs seen n Required = has n seen
is_repeated fs seen n Choice = has_choice fs seen
is_repeated fs seen n Repeated = false
is_repeated fs seen n Map = false

-- an earlier entry of the map has the same key
abbrev pub is_repeated_key : List Rec → Rec → Label → Bool
is_repeated_key seen r Map = has_key r.number (key_of r.value) seen
is_repeated_key seen r _ = false

-- the fault of a value: its wire type, its string, its number, or the message that it holds
abbrev pub value_fault : (Schema → List ℕ → Option ProtoFault) → ℕ → FieldKind → WireValue → Option ProtoFault
value_fault inner n (Number most) (wire.Varint x) = fault_if (nat_lt most x) (Range n)
value_fault inner n Fixed32 (wire.Fixed32 x) = None
value_fault inner n Fixed64 (wire.Fixed64 x) = None
value_fault inner n Text (wire.Chunk bytes) = fault_if (not (is_utf8 bytes)) (NotUtf8 n)
value_fault inner n (Message schema) (wire.Chunk bytes) = inner schema bytes
value_fault inner n _ _ = Some (WrongWire n)

-- The value of an entry is checked before its key is compared. Records of unknown fields are skipped.
abbrev pub field_fault : (Schema → List ℕ → Option ProtoFault) → List Field → List Rec → Rec → Option Field → Option ProtoFault
field_fault inner fs seen r None = None
field_fault inner fs seen r (Some f) =
    or_fault (fault_if (is_repeated fs seen r.number (label_of f)) (RepeatedField r.number))
    (or_fault (value_fault inner r.number (kind_of f) r.value)
    (fault_if (is_repeated_key seen r (label_of f)) (RepeatedField r.number)))

unfoldable pub record_fault : (Schema → List ℕ → Option ProtoFault) → List Field → List Rec → Rec → Option ProtoFault
record_fault inner fs seen r = field_fault inner fs seen r (field_at r.number fs)

-- ---- a message

-- the first fault of these records, where `seen` are the records before them
abbrev pub records_fault : (Schema → List ℕ → Option ProtoFault) → List Field → List Rec → List Rec → Option ProtoFault
records_fault inner fs seen [] = None
records_fault inner fs seen (r ∷ rs) = or_fault (record_fault inner fs seen r) (records_fault inner fs (seen ++ r ∷ []) rs)

abbrev pub wire_fault : Option WireFault → Option ProtoFault
wire_fault None = None
wire_fault (Some fault) = Some (Wire fault)

abbrev pub number_in : ℕ → List Rec → ℕ
number_in n rs = number_from (value_at n rs)

-- the number of bits of an address, by the member of its choice
abbrev pub bits_of : List Rec → ℕ
bits_of address = if has 1 address then 32 else 128

-- the fault of a number that is 0 or omitted but must not be
abbrev pub zero_fault : ℕ → List Rec → Option ProtoFault
zero_fault n rs = fault_if (number_in n rs == 0) (Range n)

-- Faults of the records together: a duration must be below 2 ^ 63 nanoseconds, a network's prefix at most as long as its address, and
-- enums and ports must not be 0. A Server whose protocol is 0 means that there is no Server; its policy is not checked.
abbrev pub whole_fault : Schema → List Rec → Option ProtoFault
whole_fault Duration rs = fault_if (not (nat_lt (nanoseconds_in rs) (2 ^ 63))) (Range 1)
whole_fault IpNetwork rs = fault_if (has 1 rs && nat_lt (bits_of (inside 1 rs)) (number_in 2 rs)) (Range 2)
whole_fault Server rs = fault_if (not (number_in 1 rs == 0) && number_in 2 rs == 0) (Range 2)
whole_fault Authz rs = zero_fault 1 rs
whole_fault AuthzKey rs = zero_fault 1 rs
whole_fault HttpRoute rs = zero_fault 1 rs
whole_fault PathMatch rs = zero_fault 1 rs
whole_fault PortSpec rs = zero_fault 2 rs
whole_fault _ rs = None

-- the fault of the first required field that is missing
abbrev pub absent_fault : List Field → List Rec → Option ProtoFault
absent_fault [] rs = None
absent_fault (f ∷ fs) rs = if is_required (label_of f) && not (has (number_of f) rs) then Some (Absent (number_of f)) else absent_fault fs rs

abbrev pub has_choices : List Field → Bool
has_choices [] = false
has_choices (f ∷ fs) = is_choice (label_of f) || has_choices fs

abbrev pub choice_fault : List Field → List Rec → Option ProtoFault
choice_fault fs rs = fault_if (has_choices fs && not (has_choice fs rs)) NoChoice

-- the fault after the readable records: of the next record, or of the message as a whole
abbrev pub end_fault : Schema → List Field → Scan → Option ProtoFault
end_fault schema fs found =
    or_fault (wire_fault found.fault)
    (or_fault (whole_fault schema found.records)
    (or_fault (absent_fault fs found.records)
    (choice_fault fs found.records)))

abbrev pub message_fault : (Schema → List ℕ → Option ProtoFault) → Schema → List Field → Scan → Option ProtoFault
message_fault inner schema fs found = or_fault (records_fault inner fs [] found.records) (end_fault schema fs found)

-- the first fault of a message in which messages nest at most this deep
unfoldable pub fault_at : ℕ → Schema → List ℕ → Option ProtoFault
fault_at zero schema bytes = None
fault_at (suc depth) schema bytes = message_fault (fault_at depth) schema (fields_of schema) (scan_of bytes)

-- Nested messages are shorter, so the length bounds the depth.
abbrev pub fault_of : Schema → List ℕ → Option ProtoFault
fault_of schema bytes = fault_at (length bytes + 1) schema bytes
