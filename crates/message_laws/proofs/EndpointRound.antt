-- What is written of an endpoint is read back.
use Rattle.std.proofs.Common.{◌≡◌, ◌≢◌, ℕ, ◌+◌, ◌*◌, ◌/◌, ◌%◌, ◌^◌, ◌<◌, ◌≤◌, Bool, true, false, if◌then◌else◌, List, [], ◌∷◌, ◌++◌, length, Option, Some, None, refl, sym, ap, ◌∙◌, arith, lit<, lit≤}
use Rattle.std.specs.List.{AllByRecursion}
use Rattle.std.specs.Cmp.Lexicographic.{slice_cmp}
use Rattle.std.specs.FinMap.{FinMap, entries, from_entries, get-entries, get-from_entries, same_map, slice_cmp-IsAntisymmetric, nat_cmp-IsAntisymmetric}
use Rattle.std.specs.Ordering.{nat_cmp}
use Rattle.std.proofs.lemmas.Cmp.{nat_list_cmp_total}
use Rattle.view_types.specs.declared.endpoint.EndpointRow.{EndpointRow}
use Rattle.std.specs.Str.{IsUtf8, is_utf8}
use Rattle.std.proofs.lemmas.Nat.{div_below}
use Rattle.std.proofs.Math.Nat.{mod-add-div}
use Rattle.net_cidr.specs.Texts.{FitsIp}
use Rattle.net_cidr.specs.declared.ip.Ip.{Ip}
use Rattle.net_cidr.specs.declared.ip.Ip.TheVariants.{V4, V6}
use Rattle.proto_wire.specs.declared.record.Rec.{Rec}
use Rattle.proto_wire.specs.declared.record.WireValue.TheVariants.{Chunk}
use Rattle.proto_wire.specs.Wire.{spelling, scan_in}
use Rattle.proxy_proto.specs.declared.table.Schema.TheVariants as schemas
use Rattle.proxy_proto.specs.FieldRecords.{chunk, number_field, fixed64_field, text_field, optional_field, each_field}
use Rattle.proxy_proto.specs.Endpoints.{half_records, ip_records, address_records, label_records, identity_records, h2_field, hint_records, hint_field, row_records}
use Rattle.proxy_proto.specs.EndpointReading.{ip_in, pair_in, label_in, identity_in, tunnel_in, row_in}
use Rattle.proxy_proto.specs.Faults.{record_fault, records_fault, end_fault, fault_at, key_of}
use Rattle.proxy_proto.specs.LookUps.{has, records_in, value_at, fixed64_from, chunk_in, inside, number_below, some_string}
use Rattle.proxy_proto.specs.Messages.{pair_records}
use Rattle.proxy_proto.specs.Sendable.{PortFits, IsSendableIdentity, IsSendableLabel, IsSendablePair, IsSendableRow}
use Rattle.proxy_proto.specs.Tables.{fields_of}
use Rattle.message_laws.proofs.Coming.{Comes, comes, each_comes, each_such, first_inside, first_short, text_comes}
use Rattle.message_laws.proofs.FieldBlocks.{AllWritten, FieldBlock, Written, block, has_in, laid, laid_comes}
use Rattle.message_laws.proofs.Found.{IsSound, found_fixed64, kept, not_fixed64, only_fixed64, only_number, recorded, skip, sound_append, sound_chunk, sound_fixed64, sound_number, text_kept}
use Rattle.message_laws.proofs.MapPassing.{HasKey, entries_apart}
use Rattle.message_laws.proofs.Passing.{chosen, pass_fixed64, pass_number, pass_required, pass_string, pass_then}
use Rattle.message_laws.proofs.WrittenFields.{ComesIfShort, EachComes, OptionalComes, below_read, each_read, empty_clean, has_read, inside_read, inside_short, map_written, message_read, none_written, number_written, optional_read, optional_written, part_short, present_written, required_written}

-- ---- an address

half_sound : (high low : ℕ) → high < 2 ^ 64 → low < 2 ^ 64 → AllByRecursion IsSound (half_records high low)
half_sound high low h l = sound_append (fixed64_field 1 high) (fixed64_field 2 low) (sound_fixed64 1 high (lit< tt) (lit< tt) h) (sound_fixed64 2 low (lit< tt) (lit< tt) l)

half_passes : (d high low : ℕ) → records_fault (fault_at d) (fields_of schemas.Ipv6) [] (half_records high low) ≡ None
half_passes d high low =
    let inner = fault_at d in
    let fs = fields_of schemas.Ipv6 in
    (pass_then inner fs 0 2 3 (fixed64_field 1 high) (fixed64_field 2 low) (lit≤ tt) (lit≤ tt) (pass_fixed64 inner fs 0 1 high refl (lit≤ tt)) (pass_fixed64 inner fs 2 2 low refl (lit≤ tt))).pass [] tt

abbrev halves_in : List Rec → ℕ × ℕ
halves_in rs = (fixed64_from (value_at 1 rs), fixed64_from (value_at 2 rs))

half_back : (high low : ℕ) → halves_in (half_records high low) ≡ (high, low)
half_back high low =
    let high_is = found_fixed64 1 high (fixed64_field 2 low) (not_fixed64 1 2 low (λ e. cc)) in
    let low_is = ap fixed64_from (skip 2 (fixed64_field 1 high) (fixed64_field 2 low) (not_fixed64 2 1 high (λ e. cc))) ∙ only_fixed64 2 low in
    rw (high_is, low_is) refl

half_comes : (high low : ℕ) → high < 2 ^ 64 → low < 2 ^ 64 → length (spelling (half_records high low)) < 2 ^ 64 → Comes schemas.Ipv6 halves_in (half_records high low) (high, low)
half_comes high low h l short = comes schemas.Ipv6 halves_in (half_records high low) (high, low) (half_sound high low h l) short (λ d le. half_passes d high low) refl (half_back high low)

high_half : (n : ℕ) → n < 2 ^ 128 → n / 2 ^ 64 < 2 ^ 64
high_half n lt = div_below n (2 ^ 64) (2 ^ 64) (lit< tt) lt

low_half : (n : ℕ) → n % 2 ^ 64 < 2 ^ 64
low_half n = omega arith

pub ip_comes : (ip : Ip) → FitsIp ip → length (spelling (ip_records ip)) < 2 ^ 64 → Comes schemas.IpAddress ip_in (ip_records ip) ip
unfolding ip_records ip_in record_fault
ip_comes (V4 n) fits short = comes schemas.IpAddress ip_in (ip_records (V4 n)) (V4 n) (record { named = lit< tt; number = lit< tt; value = fits }, tt) short (λ d le. refl) refl refl
ip_comes (V6 n) fits short =
    let high = n / 2 ^ 64 in
    let low = n % 2 ^ 64 in
    let halves = half_records high low in
    let less = first_short 2 (spelling halves) [] in
    let inside_less = first_inside 2 (spelling halves) [] in
    let half = half_comes high low (high_half n fits) (low_half n) (omega arith) in
    let whole : n / 2 ^ 64 * 2 ^ 64 + n % 2 ^ 64 ≡ n = omega (arith, mod-add-div n (2 ^ 64)) in
    comes schemas.IpAddress ip_in (ip_records (V6 n)) (V6 n) (sound_chunk 2 (spelling halves) (lit< tt) (lit< tt), tt) short
    (λ d le. chosen (fault_at d) (fields_of schemas.IpAddress) 2 schemas.Ipv6 (spelling halves) refl refl (half.clean d (omega arith))) refl
    (ap (λ p. V6 (p.0 * 2 ^ 64 + p.1)) half.back ∙ ap V6 whole)

address_sound : (ip : Ip) (port : ℕ) → port < 65536 → AllByRecursion IsSound (address_records ip port)
unfolding address_records
address_sound ip port lt = (sound_chunk 1 (spelling (ip_records ip)) (lit< tt) (lit< tt), sound_number 2 port (lit< tt) (lit< tt) (omega arith))

pub address_comes : (ip : Ip) (port : ℕ) → FitsIp ip → port < 65536 → length (spelling (address_records ip port)) < 2 ^ 64 → Comes schemas.TcpAddress pair_in (address_records ip port) (ip, port)
unfolding address_records pair_in
address_comes ip port fits lt short =
    let less = first_short 1 (spelling (ip_records ip)) (number_field 2 port) in
    let inside_less = first_inside 1 (spelling (ip_records ip)) (number_field 2 port) in
    let there = ip_comes ip fits (omega arith) in
    let fs = fields_of schemas.TcpAddress in
    comes schemas.TcpAddress pair_in (address_records ip port) (ip, port) (address_sound ip port lt) short
    (λ d le. (pass_then (fault_at d) fs 0 2 3 (chunk 1 (spelling (ip_records ip)) ∷ []) (number_field 2 port) (lit≤ tt) (lit≤ tt)
    (pass_required (fault_at d) fs 0 1 schemas.IpAddress (spelling (ip_records ip)) refl (lit≤ tt) (there.clean d (omega arith)))
    (pass_number (fault_at d) fs 2 2 65535 port refl (lit≤ tt) (omega arith))).pass [] tt)
    refl
    (rw (there.back, only_number 2 port, kept 65536 port lt) refl)

-- ---- a label

pub label_sound : (label : List ℕ × List ℕ) → AllByRecursion IsSound (label_records label)
unfolding label_records
label_sound label = (sound_chunk 1 label.0 (lit< tt) (lit< tt), (sound_chunk 2 label.1 (lit< tt) (lit< tt), tt))

pub label_comes : (label : List ℕ × List ℕ) → IsSendableLabel label → length (spelling (label_records label)) < 2 ^ 64 → Comes schemas.MetricLabel label_in (label_records label) label
unfolding label_records label_in
label_comes label fits short =
    let fs = fields_of schemas.MetricLabel in
    comes schemas.MetricLabel label_in (label_records label) label (label_sound label) short
    (λ d le. (pass_then (fault_at d) fs 0 2 3 (chunk 1 label.0 ∷ []) (chunk 2 label.1 ∷ []) (lit≤ tt) (lit≤ tt) (pass_string (fault_at d) fs 0 1 label.0 refl (lit≤ tt) fits.0) (pass_string (fault_at d) fs 2 2 label.1 refl (lit≤ tt) fits.1)).pass [] tt)
    refl
    (rw (text_kept label.0 fits.0, text_kept label.1 fits.1) refl)

first_chunk : (label : List ℕ × List ℕ) → chunk_in 1 (label_records label) ≡ label.0
unfolding label_records
first_chunk label = refl

pub label_key : (label : List ℕ × List ℕ) → length (spelling (label_records label)) < 2 ^ 64 → key_of (Chunk (spelling (label_records label))) ≡ label.0
label_key label short = ap (chunk_in 1) (recorded (label_records label) (label_sound label) short) ∙ first_chunk label

-- ---- an identity

some_name : (name : List ℕ) → name ≢ [] → some_string name ≡ Some name
some_name [] h = absurd (h refl)
some_name (b ∷ bytes) h = refl

name_ends : (name : List ℕ) → end_fault schemas.DnsLikeIdentity (fields_of schemas.DnsLikeIdentity) (record { records = text_field 1 name; fault = None }) ≡ None
name_ends name = refl

identity_comes : (name : List ℕ) → name ≢ [] → IsUtf8 name → length (spelling (identity_records name)) < 2 ^ 64 → Comes schemas.TlsIdentity identity_in (identity_records name) (Some name)
unfolding identity_records identity_in
identity_comes name some text short =
    let less = first_short 1 (spelling (text_field 1 name)) [] in
    let inside_less = first_inside 1 (spelling (text_field 1 name)) [] in
    let there = text_comes schemas.DnsLikeIdentity name refl (name_ends name) text (omega arith) in
    comes schemas.TlsIdentity identity_in (identity_records name) (Some name) (sound_chunk 1 (spelling (text_field 1 name)) (lit< tt) (lit< tt), tt) short
    (λ d le. (pass_required (fault_at d) (fields_of schemas.TlsIdentity) 0 1 schemas.DnsLikeIdentity (spelling (text_field 1 name)) refl (lit≤ tt) (there.clean d (omega arith))).pass [] tt)
    refl
    (ap some_string there.back ∙ some_name name some)

-- ---- a hint

port_comes : (port : ℕ) → port < 65536 → length (spelling (number_field 1 port)) < 2 ^ 64 → Comes schemas.OpaqueTransport (number_below 65536 1) (number_field 1 port) port
port_comes port fits short =
    comes schemas.OpaqueTransport (number_below 65536 1) (number_field 1 port) port (sound_number 1 port (lit< tt) (lit< tt) (omega arith)) short
    (λ d le. (pass_number (fault_at d) (fields_of schemas.OpaqueTransport) 0 1 65535 port refl (lit≤ tt) (omega arith)).pass [] tt)
    refl
    (rw (only_number 1 port) (kept 65536 port fits))

tunnel_comes : (tunnel : Option ℕ) → PortFits tunnel → OptionalComes 2 schemas.OpaqueTransport (number_below 65536 1) (number_field 1) tunnel
tunnel_comes None fits short = tt
tunnel_comes (Some port) fits short = let less = first_inside 2 (spelling (number_field 1 port)) [] in port_comes port fits (omega arith)

h2_written : (h2 : Bool) → Written schemas.ProtocolHint (block 1 (h2_field h2))
h2_written true = present_written schemas.ProtocolHint 1 schemas.Empty (λ rs. true) [] true (lit< tt, lit< tt) refl (λ short. record { clean = empty_clean; back = refl })
h2_written false = none_written schemas.ProtocolHint 1

h2_there : (h2 : Bool) → has 1 (h2_field h2 ++ []) ≡ h2
h2_there true = refl
h2_there false = refl

-- whether there is HTTP/2, and the tunnel
abbrev pub hint_in : List Rec → Bool × Option ℕ
hint_in rs = (has 1 rs, tunnel_in rs)

module _ (h2 : Bool) (tunnel : Option ℕ) (fits : PortFits tunnel) where
  abbrev hint_blocks : List FieldBlock
  hint_blocks = block 1 (h2_field h2) ∷ block 2 (optional_field 2 (number_field 1) tunnel) ∷ []

  hint_laid : hint_records h2 tunnel ≡ laid hint_blocks
  unfolding hint_records laid
  hint_laid = refl

  hint_parts : AllWritten schemas.ProtocolHint hint_blocks
  hint_parts = (h2_written h2, (optional_written schemas.ProtocolHint 2 schemas.OpaqueTransport (number_below 65536 1) (number_field 1) tunnel (lit< tt, lit< tt) refl (tunnel_comes tunnel fits), tt))

  hint_said : length (spelling (laid hint_blocks)) < 2 ^ 64 → hint_in (laid hint_blocks) ≡ (h2, tunnel)
  unfolding tunnel_in
  hint_said short =
      let s = schemas.ProtocolHint in
      let there = has_in s 1 hint_blocks hint_parts ∙ h2_there h2 in
      rw (there, optional_read s hint_blocks hint_parts 2 schemas.OpaqueTransport (number_below 65536 1) (number_field 1) tunnel refl (tunnel_comes tunnel fits) short) refl

  hint_comes : ComesIfShort schemas.ProtocolHint hint_in (hint_records h2 tunnel) (h2, tunnel)
  hint_comes = rw hint_laid (λ short. laid_comes schemas.ProtocolHint hint_in hint_blocks (h2, tunnel) hint_parts refl refl (hint_said short) short)

-- ---- parts that are left out

nothing_read : records_in [] ≡ []
unfolding scan_in
nothing_read = refl

no_hint : hint_in [] ≡ (false, None)
unfolding tunnel_in
no_hint = refl

either_empty : (b : Bool) (none : List ℕ) → none ≡ [] → (if b then none else []) ≡ []
either_empty true none is = is
either_empty false none is = refl

no_identity : identity_in [] ≡ None
unfolding identity_in scan_in
no_identity = ap some_string (either_empty (is_utf8 []) [] refl)

-- ---- the hint of an endpoint, which may be left out

hint_present : (h2 : Bool) (tunnel : Option ℕ) → PortFits tunnel → Written schemas.WeightedAddr (block 6 (chunk 6 (spelling (hint_records h2 tunnel)) ∷ []))
hint_present h2 tunnel fits = present_written schemas.WeightedAddr 6 schemas.ProtocolHint hint_in (hint_records h2 tunnel) (h2, tunnel) (lit< tt, lit< tt) refl (hint_comes h2 tunnel fits)

hint_inside : (h2 : Bool) (tunnel : Option ℕ) → PortFits tunnel → length (spelling (chunk 6 (spelling (hint_records h2 tunnel)) ∷ [])) < 2 ^ 64 → hint_in (records_in (spelling (hint_records h2 tunnel))) ≡ (h2, tunnel)
hint_inside h2 tunnel fits short = let less = first_inside 6 (spelling (hint_records h2 tunnel)) [] in (hint_comes h2 tunnel fits (omega arith)).back

hint_written : (h2 : Bool) (tunnel : Option ℕ) → PortFits tunnel → Written schemas.WeightedAddr (block 6 (hint_field h2 tunnel))
unfolding hint_field
hint_written false None fits = none_written schemas.WeightedAddr 6
hint_written false (Some port) fits = hint_present false (Some port) fits
hint_written true None fits = hint_present true None fits
hint_written true (Some port) fits = hint_present true (Some port) fits

hint_back : (h2 : Bool) (tunnel : Option ℕ) → PortFits tunnel → length (spelling (hint_field h2 tunnel)) < 2 ^ 64 → hint_in (inside 6 (hint_field h2 tunnel)) ≡ (h2, tunnel)
unfolding hint_field
hint_back false None fits short = ap hint_in nothing_read ∙ no_hint
hint_back false (Some port) fits short = hint_inside false (Some port) fits short
hint_back true None fits short = hint_inside true None fits short
hint_back true (Some port) fits short = hint_inside true (Some port) fits short

-- ---- the identity of an endpoint, which may be left out

identity_written : (identity : Option (List ℕ)) → IsSendableIdentity identity → Written schemas.WeightedAddr (block 5 (optional_field 5 identity_records identity))
identity_written None fits = none_written schemas.WeightedAddr 5
identity_written (Some name) fits = present_written schemas.WeightedAddr 5 schemas.TlsIdentity identity_in (identity_records name) (Some name) (lit< tt, lit< tt) refl (identity_comes name fits.0 fits.1)

identity_back : (identity : Option (List ℕ)) → IsSendableIdentity identity → length (spelling (optional_field 5 identity_records identity)) < 2 ^ 64 → identity_in (inside 5 (optional_field 5 identity_records identity)) ≡ identity
identity_back None fits short = ap identity_in nothing_read ∙ no_identity
identity_back (Some name) fits short = let less = first_inside 5 (spelling (identity_records name)) [] in (identity_comes name fits.0 fits.1 (omega arith)).back

-- ---- an endpoint

labels_back : (m : FinMap (slice_cmp nat_cmp) (List ℕ)) → from_entries (entries m) ≡ m
labels_back m = same_map nat_list_cmp_total (slice_cmp-IsAntisymmetric nat_cmp-IsAntisymmetric) (from_entries (entries m)) m (λ q. get-from_entries nat_list_cmp_total (entries m) q ∙ sym (get-entries m q))

abbrev row_blocks : EndpointRow → List FieldBlock
row_blocks row =
    block 1 (chunk 1 (spelling (address_records row.ip row.port)) ∷ [])
    ∷ block 3 (number_field 3 row.weight)
    ∷ block 4 (each_field 4 label_records (entries row.labels))
    ∷ block 5 (optional_field 5 identity_records row.identity)
    ∷ block 6 (hint_field row.h2 row.tunnel)
    ∷ []

row_laid : (row : EndpointRow) → row_records row ≡ laid (row_blocks row)
unfolding row_records laid
row_laid row = refl

module _ (row : EndpointRow) (fits : IsSendableRow row) where
  labels_come : EachComes 4 schemas.MetricLabel label_in label_records (entries row.labels)
  labels_come = each_comes 4 schemas.MetricLabel label_in label_records IsSendableLabel (entries row.labels) label_comes fits.labels

  keys_are : length (spelling (each_field 4 label_records (entries row.labels))) < 2 ^ 64 → AllByRecursion (HasKey label_records) (entries row.labels)
  keys_are = each_such 4 label_records IsSendableLabel (HasKey label_records) (entries row.labels) (λ label ok lt. label_key label lt) fits.labels

  row_written : AllWritten schemas.WeightedAddr (row_blocks row)
  row_written =
      let weight = fits.weight in (
        required_written schemas.WeightedAddr 1 schemas.TcpAddress pair_in (address_records row.ip row.port) (row.ip, row.port) (lit< tt, lit< tt) refl (address_comes row.ip row.port fits.ip fits.port),
        (
          number_written schemas.WeightedAddr 3 4294967295 row.weight (lit< tt, lit< tt) refl (omega arith) (lit< tt),
          (
            map_written schemas.WeightedAddr 4 schemas.MetricLabel label_in label_records (entries row.labels) (lit< tt, lit< tt) refl labels_come keys_are (entries_apart row.labels),
            (identity_written row.identity fits.identity, (hint_written row.h2 row.tunnel fits.tunnel, tt)),
          ),
        ),
      )

  row_ends : end_fault schemas.WeightedAddr (fields_of schemas.WeightedAddr) (record { records = laid (row_blocks row); fault = None }) ≡ None
  row_ends = rw (has_read schemas.WeightedAddr (row_blocks row) row_written 1 (spelling (address_records row.ip row.port)) refl) refl

  row_address : length (spelling (laid (row_blocks row))) < 2 ^ 64 → (ip_in (inside 1 (inside 1 (laid (row_blocks row)))) ≡ row.ip) × (number_below 65536 2 (inside 1 (laid (row_blocks row))) ≡ row.port)
  unfolding pair_in
  row_address short =
      let s = schemas.WeightedAddr in
      let bs = row_blocks row in
      let rs = address_records row.ip row.port in
      let low = inside_short s bs row_written 1 rs refl short in
      let pair = message_read s bs row_written 1 pair_in rs (row.ip, row.port) refl (address_comes row.ip row.port fits.ip fits.port low).back in
      (ap (λ p. p.0) pair, ap (λ p. p.1) pair)

  row_hint : length (spelling (laid (row_blocks row))) < 2 ^ 64 → hint_in (inside 6 (laid (row_blocks row))) ≡ (row.h2, row.tunnel)
  row_hint short =
      let s = schemas.WeightedAddr in
      let bs = row_blocks row in
      let low = part_short s bs row_written 6 (hint_field row.h2 row.tunnel) refl short in
      ap hint_in (inside_read s bs row_written 6 (hint_field row.h2 row.tunnel) refl) ∙ hint_back row.h2 row.tunnel fits.tunnel low

  row_identity : length (spelling (laid (row_blocks row))) < 2 ^ 64 → identity_in (inside 5 (laid (row_blocks row))) ≡ row.identity
  row_identity short =
      let s = schemas.WeightedAddr in
      let bs = row_blocks row in
      let rs = optional_field 5 identity_records row.identity in
      ap identity_in (inside_read s bs row_written 5 rs refl) ∙ identity_back row.identity fits.identity (part_short s bs row_written 5 rs refl short)

  row_back : length (spelling (laid (row_blocks row))) < 2 ^ 64 → row_in (laid (row_blocks row)) ≡ row
  unfolding row_in
  row_back short =
      let s = schemas.WeightedAddr in
      let bs = row_blocks row in
      let address = row_address short in
      let weight = below_read s bs row_written 4294967296 3 row.weight refl fits.weight in
      let labels = each_read s bs row_written 4 schemas.MetricLabel label_in label_records (entries row.labels) refl labels_come short in
      let hint = row_hint short in
      rw (address.0, address.1, weight, labels, labels_back row.labels, row_identity short, ap (λ p. p.0) hint, ap (λ p. p.1) hint) refl

pub row_comes : (row : EndpointRow) → IsSendableRow row → ComesIfShort schemas.WeightedAddr row_in (row_records row) row
row_comes row fits =
    rw (row_laid row) (λ short. laid_comes schemas.WeightedAddr row_in (row_blocks row) row (row_written row fits) refl (row_ends row fits) (row_back row fits short) short)

pub pair_comes : (pair : Ip × ℕ) → IsSendablePair pair → ComesIfShort schemas.TcpAddress pair_in (pair_records pair) pair
pair_comes pair fits = address_comes pair.0 pair.1 fits.ip fits.port
