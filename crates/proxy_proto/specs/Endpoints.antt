-- The records of an endpoint's message, `WeightedAddr`, and of the messages nested in it.
use Rattle.std.specs.Prelude.{ℕ, ◌/◌, ◌%◌, ◌^◌, Bool, true, false, List, [], ◌∷◌, ◌++◌, Option, None}
use Rattle.std.specs.FinMap.{entries}
use Rattle.net_cidr.specs.declared.ip.Ip.{Ip}
use Rattle.net_cidr.specs.declared.ip.Ip.TheVariants.{V4, V6}
use Rattle.view_types.specs.declared.endpoint.EndpointRow.{EndpointRow}
use Rattle.proto_wire.specs.declared.record.Rec.{Rec}
use Rattle.proto_wire.specs.declared.record.WireValue.TheVariants.{Fixed32}
use Rattle.proto_wire.specs.Wire.{spelling}
use Rattle.proxy_proto.specs.FieldRecords.{chunk, number_field, fixed64_field, text_field, optional_field, each_field}

-- ---- IPAddress, with IPv6, and TcpAddress

abbrev pub half_records : ℕ → ℕ → List Rec
half_records high low = fixed64_field 1 high ++ fixed64_field 2 low

unfoldable pub ip_records : Ip → List Rec
ip_records (V4 n) = record { number = 1; value = Fixed32 n } ∷ []
ip_records (V6 n) = chunk 2 (spelling (half_records (n / 2 ^ 64) (n % 2 ^ 64))) ∷ []

unfoldable pub address_records : Ip → ℕ → List Rec
address_records ip port = chunk 1 (spelling (ip_records ip)) ∷ number_field 2 port

-- ---- WeightedAddr

unfoldable pub label_records : List ℕ × List ℕ → List Rec
label_records label = chunk 1 label.0 ∷ chunk 2 label.1 ∷ []

-- TlsIdentity, with DnsLikeIdentity
unfoldable pub identity_records : List ℕ → List Rec
identity_records name = chunk 1 (spelling (text_field 1 name)) ∷ []

-- ProtocolHint: h2, an empty message, and OpaqueTransport
abbrev pub h2_field : Bool → List Rec
h2_field true = chunk 1 [] ∷ []
h2_field false = []

unfoldable pub hint_records : Bool → Option ℕ → List Rec
hint_records h2 tunnel = h2_field h2 ++ optional_field 2 (number_field 1) tunnel

-- a hint with neither part is omitted
unfoldable pub hint_field : Bool → Option ℕ → List Rec
hint_field false None = []
hint_field h2 tunnel = chunk 6 (spelling (hint_records h2 tunnel)) ∷ []

unfoldable pub row_records : EndpointRow → List Rec
row_records row =
    chunk 1 (spelling (address_records row.ip row.port))
    ∷ (number_field 3 row.weight
    ++ (each_field 4 label_records (entries row.labels)
    ++ (optional_field 5 identity_records row.identity
    ++ hint_field row.h2 row.tunnel)))
