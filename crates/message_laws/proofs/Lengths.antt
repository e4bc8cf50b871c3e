-- How long messages are.
use Rattle.std.proofs.Common.{◌≡◌, ℕ, ◌+◌, ◌*◌, ◌/◌, ◌%◌, ◌^◌, ◌<◌, ◌≤◌, List, [], ◌∷◌, ◌++◌, length, suc, Bool, ap, ◌∙◌, arith, inl, inr, lit<, lit≤, true, false}
use Rattle.std.specs.List.{All}
use Rattle.std.proofs.lemmas.Bool.Decides.{eqb_tells}
use Rattle.std.proofs.lemmas.List.{append-nil, length-append}
use Rattle.net_cidr.specs.declared.ip.Ip.{Ip}
use Rattle.net_cidr.specs.declared.ip.Ip.TheVariants.{V4, V6}
use Rattle.view_types.specs.declared.endpoint.EndpointRow.{EndpointRow}
use Rattle.view_types.specs.declared.message.Message.{Message}
use Rattle.view_types.specs.declared.message.Message.TheVariants.{Add, Remove, NoEndpoints, Profile, Server, Outbound, Whole, AuthzPut, AuthzGone}
use Rattle.proto_wire.specs.declared.record.Rec.{Rec}
use Rattle.proto_wire.specs.declared.record.WireValue.TheVariants.{Varint, Fixed64, Fixed32}
use Rattle.proto_wire.specs.Wire.{varint_up_to, spelled, spelling}
use Rattle.proto_wire.proofs.Lengths.{number-length, fixed64-length, fixed32-length, chunk-length}
use Rattle.proto_wire.proofs.Spellings.{spelling-append}
use Rattle.proxy_proto.specs.FieldRecords.{chunk, number_field, fixed64_field, each_field}
use Rattle.proxy_proto.specs.Endpoints.{half_records, ip_records, address_records, hint_field, row_records}
use Rattle.proxy_proto.specs.Messages.{pair_records, message_records, canonical}
use Rattle.proxy_proto.specs.Plain.{IsPlain, IsPlainMessage, count_in}

-- joined records, by the lengths of the parts
joined : (xs ys : List Rec) → length (spelling (xs ++ ys)) ≡ length (spelling xs) + length (spelling ys)
joined xs ys = ap length (spelling-append xs ys) ∙ length-append (spelling xs) (spelling ys)

one : (r : Rec) → length (spelling (r ∷ [])) ≡ length (spelled r)
one r = ap length (append-nil (spelled r))

first : (r : Rec) (rs : List Rec) → length (spelling (r ∷ rs)) ≡ length (spelled r) + length (spelling rs)
first r rs = length-append (spelled r) (spelling rs)

number_most : (field n : ℕ) → field < 16 → length (spelling (number_field field n)) ≤ 11
number_most field n lt =
    elim (eqb_tells n 0) [
      | inl w ↦ rw w.0 (lit≤ tt)
      | inr w ↦ rw w.0 (let most = number-length field n lt in let only = one (record { number = field; value = Varint n }) in omega arith)
    ]

fixed64_most : (field n : ℕ) → field < 16 → length (spelling (fixed64_field field n)) ≤ 9
fixed64_most field n lt =
    elim (eqb_tells n 0) [
      | inl w ↦ rw w.0 (lit≤ tt)
      | inr w ↦ rw w.0 (let most = fixed64-length field n lt in let only = one (record { number = field; value = Fixed64 n }) in omega arith)
    ]

chunk_most : (field : ℕ) (bytes : List ℕ) (rs : List Rec) → field < 16 → length (spelling (chunk field bytes ∷ rs)) ≤ length bytes + 11 + length (spelling rs)
chunk_most field bytes rs lt =
    let most = chunk-length field bytes lt in
    let parts = first (chunk field bytes) rs in
    omega arith

half_most : (high low : ℕ) → length (spelling (half_records high low)) ≤ 18
half_most high low =
    let parts = joined (fixed64_field 1 high) (fixed64_field 2 low) in
    let h = fixed64_most 1 high (lit< tt) in
    let l = fixed64_most 2 low (lit< tt) in
    omega arith

ip_most : (ip : Ip) → length (spelling (ip_records ip)) ≤ 29
unfolding ip_records
ip_most (V4 n) =
    let most = fixed32-length 1 n (lit< tt) in
    let only = one (record { number = 1; value = Fixed32 n }) in
    omega arith
ip_most (V6 n) =
    let halves = half_most (n / 2 ^ 64) (n % 2 ^ 64) in
    let most = chunk_most 2 (spelling (half_records (n / 2 ^ 64) (n % 2 ^ 64))) [] (lit< tt) in
    omega arith

address_most : (ip : Ip) (port : ℕ) → length (spelling (address_records ip port)) ≤ 51
unfolding address_records
address_most ip port =
    let inside = ip_most ip in
    let most = chunk_most 1 (spelling (ip_records ip)) (number_field 2 port) (lit< tt) in
    let number = number_most 2 port (lit< tt) in
    omega arith

plain_records : (row : EndpointRow) → IsPlain row → row_records row ≡ chunk 1 (spelling (address_records row.ip row.port)) ∷ number_field 3 row.weight
unfolding row_records hint_field
plain_records row plain = rw (plain.labels, plain.identity, plain.tunnel, plain.h2) (ap (λ (rs : List Rec). chunk 1 (spelling (address_records row.ip row.port)) ∷ rs) (append-nil (number_field 3 row.weight)))

row_most : (row : EndpointRow) → IsPlain row → length (spelling (row_records row)) ≤ 73
row_most row plain =
    let inside = address_most row.ip row.port in
    let most = chunk_most 1 (spelling (address_records row.ip row.port)) (number_field 3 row.weight) (lit< tt) in
    let number = number_most 3 row.weight (lit< tt) in
    rw (plain_records row plain) (omega arith)

rows_most : (rows : List EndpointRow) → All IsPlain rows → length (spelling (each_field 1 row_records rows)) ≤ 84 * length rows
rows_most [] plain = lit≤ tt
rows_most (row ∷ rows) plain =
    let here = row_most row (plain 0 row (omega arith)) in
    let most = chunk_most 1 (spelling (row_records row)) (each_field 1 row_records rows) (lit< tt) in
    let rest = rows_most rows (λ k d lt. plain (suc k) d (omega arith)) in
    omega arith

pairs_most : (pairs : List (Ip × ℕ)) → length (spelling (each_field 1 pair_records pairs)) ≤ 62 * length pairs
pairs_most [] = lit≤ tt
pairs_most (pair ∷ pairs) =
    let here = address_most pair.0 pair.1 in
    let most = chunk_most 1 (spelling (pair_records pair)) (each_field 1 pair_records pairs) (lit< tt) in
    let rest = pairs_most pairs in
    omega arith

none_most : (exists : Bool) → length (canonical (NoEndpoints exists)) ≤ 11
unfolding message_records spelled varint_up_to
none_most true = lit≤ tt
none_most false = lit≤ tt

-- a message of plain rows
pub plain_length : (message : Message) → IsPlainMessage message → length (canonical message) ≤ 84 * count_in message + 11
unfolding message_records
plain_length (Add rows) plain =
    let inside = rows_most rows plain in
    let most = chunk_most 1 (spelling (each_field 1 row_records rows)) [] (lit< tt) in
    omega arith
plain_length (Remove pairs) plain =
    let inside = pairs_most pairs in
    let most = chunk_most 2 (spelling (each_field 1 pair_records pairs)) [] (lit< tt) in
    omega arith
plain_length (NoEndpoints exists) plain = none_most exists
plain_length (Profile view) plain = absurd plain
plain_length (Server view) plain = absurd plain
plain_length (Outbound view) plain = absurd plain
plain_length (Whole view) plain = absurd plain
plain_length (AuthzPut rows) plain = absurd plain
plain_length (AuthzGone keys) plain = absurd plain

-- a message of at most a thousand plain rows or addresses fits a frame
pub plain_fits : (message : Message) → IsPlainMessage message → count_in message ≤ 1000 → length (canonical message) < 2 ^ 32
plain_fits message plain few =
    let most = plain_length message plain in
    omega arith
