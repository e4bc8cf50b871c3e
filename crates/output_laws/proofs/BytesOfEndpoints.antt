-- The records of endpoints and of authorizations are in bytes.
use Rattle.std.proofs.Common.{◌≤◌, ℕ, ◌/◌, ◌%◌, ◌^◌, ◌<◌, Bool, true, false, List, [], ◌∷◌, ◌++◌, Option, Some, None, arith, lit<}
use Rattle.std.specs.FinMap.{entries}
use Rattle.net_cidr.specs.declared.block.Block.{Block}
use Rattle.net_cidr.specs.declared.ip.Ip.{Ip}
use Rattle.net_cidr.specs.declared.ip.Ip.TheVariants.{V4, V6}
use Rattle.net_cidr.specs.declared.net.Net.{Net}
use Rattle.net_cidr.specs.Network.{width}
use Rattle.proto_wire.specs.Wire.{spelling}
use Rattle.proxy_proto.specs.Authorizations.{authn_records, authz_records, block_records, clients_records, net_records}
use Rattle.proxy_proto.specs.Endpoints.{address_records, h2_field, half_records, hint_field, hint_records, identity_records, ip_records, label_records, row_records}
use Rattle.proxy_proto.specs.FieldRecords.{bool_field, chunk, each_field, fixed64_field, number_field, optional_field, text_field, texts_field}
use Rattle.proxy_proto.specs.Sendable.{IsSendableAuthn, IsSendableAuthz, IsSendableIdentity, IsSendableLabel, IsSendableRow, PortFits}
use Rattle.view_types.specs.Lawful.{IsLawfulBlock, IsLawfulNet}
use Rattle.view_types.specs.Numbers.{authz_number}
use Rattle.view_types.specs.declared.endpoint.EndpointRow.{EndpointRow}
use Rattle.view_types.specs.declared.server_view.Authn.{Authn}
use Rattle.view_types.specs.declared.server_view.Authn.TheVariants.{Anyone, AnyTls, Clients}
use Rattle.view_types.specs.declared.server_view.AuthzKind.{AuthzKind}
use Rattle.view_types.specs.declared.server_view.AuthzKind.TheVariants.{ServerAuthorization, AuthorizationPolicy}
use Rattle.view_types.specs.declared.server_view.AuthzRow.{AuthzRow}
use Rattle.output_laws.proofs.Bytes.{AreSound, sound_bool, sound_both, sound_chunk, sound_each, sound_fixed32, sound_half, sound_inside, sound_number, sound_text, sound_texts, text_bytes}

pub port_small : (port : ℕ) → port < 65536 → port < 2 ^ 64
port_small port low = let bound : 65536 < 2 ^ 64 = lit< tt in omega (arith, low, bound)

pub weight_small : (n : ℕ) → n < 2 ^ 32 → n < 2 ^ 64
weight_small n low = let bound : 2 ^ 32 < 2 ^ 64 = lit< tt in omega (arith, low, bound)

pub ip_sound : (ip : Ip) → AreSound (ip_records ip)
unfolding ip_records
ip_sound (V4 n) = (sound_fixed32 1 n (lit< tt), tt)
ip_sound (V6 n) = (
  sound_inside 2 (half_records (n / 2 ^ 64) (n % 2 ^ 64)) (lit< tt)
      (sound_both (fixed64_field 1 (n / 2 ^ 64)) (fixed64_field 2 (n % 2 ^ 64)) (sound_half 1 (n / 2 ^ 64) (lit< tt)) (sound_half 2 (n % 2 ^ 64) (lit< tt))),
  tt,
)

pub address_sound : (ip : Ip) (port : ℕ) → port < 65536 → AreSound (address_records ip port)
unfolding address_records
address_sound ip port low = (sound_inside 1 (ip_records ip) (lit< tt) (ip_sound ip), sound_number 2 port (lit< tt) (port_small port low))

pub label_sound : (label : List ℕ × List ℕ) → IsSendableLabel label → AreSound (label_records label)
unfolding label_records
label_sound label good = (sound_chunk 1 label.0 (lit< tt) (λ short. text_bytes label.0 good.0), (sound_chunk 2 label.1 (lit< tt) (λ short. text_bytes label.1 good.1), tt))

identity_sound : (name : Option (List ℕ)) → IsSendableIdentity name → AreSound (optional_field 5 identity_records name)
unfolding identity_records
identity_sound None good = tt
identity_sound (Some name) good = (sound_inside 5 (identity_records name) (lit< tt) (sound_inside 1 (text_field 1 name) (lit< tt) (sound_text 1 name (lit< tt) good.1), tt), tt)

tunnel_sound : (tunnel : Option ℕ) → PortFits tunnel → AreSound (optional_field 2 (number_field 1) tunnel)
tunnel_sound None fits = tt
tunnel_sound (Some port) fits = (sound_inside 2 (number_field 1 port) (lit< tt) (sound_number 1 port (lit< tt) (port_small port fits)), tt)

h2_sound : (h2 : Bool) → AreSound (h2_field h2)
h2_sound true = (sound_chunk 1 [] (lit< tt) (λ short. tt), tt)
h2_sound false = tt

hint_inside : (h2 : Bool) (tunnel : Option ℕ) → PortFits tunnel → AreSound (hint_records h2 tunnel)
unfolding hint_records
hint_inside h2 tunnel fits = sound_both (h2_field h2) (optional_field 2 (number_field 1) tunnel) (h2_sound h2) (tunnel_sound tunnel fits)

hint_sound : (h2 : Bool) (tunnel : Option ℕ) → PortFits tunnel → AreSound (hint_field h2 tunnel)
unfolding hint_field
hint_sound false None fits = tt
hint_sound true None fits = (sound_inside 6 (hint_records true None) (lit< tt) (hint_inside true None fits), tt)
hint_sound false (Some port) fits = (sound_inside 6 (hint_records false (Some port)) (lit< tt) (hint_inside false (Some port) fits), tt)
hint_sound true (Some port) fits = (sound_inside 6 (hint_records true (Some port)) (lit< tt) (hint_inside true (Some port) fits), tt)

pub row_sound : (row : EndpointRow) → IsSendableRow row → AreSound (row_records row)
unfolding row_records
row_sound row good = (
  sound_inside 1 (address_records row.ip row.port) (lit< tt) (address_sound row.ip row.port good.port),
  sound_both (number_field 3 row.weight) (each_field 4 label_records (entries row.labels) ++ (optional_field 5 identity_records row.identity ++ hint_field row.h2 row.tunnel))
      (sound_number 3 row.weight (lit< tt) (weight_small row.weight good.weight))
      (sound_both (each_field 4 label_records (entries row.labels)) (optional_field 5 identity_records row.identity ++ hint_field row.h2 row.tunnel)
      (sound_each 4 IsSendableLabel label_records (lit< tt) label_sound (entries row.labels) good.labels)
      (sound_both (optional_field 5 identity_records row.identity) (hint_field row.h2 row.tunnel) (identity_sound row.identity good.identity) (hint_sound row.h2 row.tunnel good.tunnel))),
)

-- ---- authorizations

bits_small : (base : Ip) (bits : ℕ) → bits ≤ width base → bits < 2 ^ 64
bits_small (V4 n) bits low = let bound : 32 < 2 ^ 64 = lit< tt in omega (arith, low, bound)
bits_small (V6 n) bits low = let bound : 128 < 2 ^ 64 = lit< tt in omega (arith, low, bound)

net_sound : (net : Net) → IsLawfulNet net → AreSound (net_records net)
unfolding net_records
net_sound net good = (sound_inside 1 (ip_records net.base) (lit< tt) (ip_sound net.base), sound_number 2 net.bits (lit< tt) (bits_small net.base net.bits good.round.sized))

block_sound : (b : Block) → IsLawfulBlock b → AreSound (block_records b)
unfolding block_records
block_sound b good = (sound_inside 1 (net_records b.net) (lit< tt) (net_sound b.net good.whole), sound_each 2 IsLawfulNet net_records (lit< tt) net_sound b.except good.except)

authn_sound : (authn : Authn) → IsSendableAuthn authn → AreSound (authn_records authn)
unfolding authn_records clients_records
authn_sound Anyone good = (sound_chunk 1 [] (lit< tt) (λ short. tt), tt)
authn_sound AnyTls good = (sound_chunk 2 [] (lit< tt) (λ short. tt), tt)
authn_sound (Clients ids suffixes everyone) good = (
  sound_inside 3 (clients_records ids suffixes everyone) (lit< tt)
      (sound_both (texts_field 1 ids) (texts_field 2 suffixes ++ bool_field 3 everyone) (sound_texts 1 ids (lit< tt) good.each_id)
      (sound_both (texts_field 2 suffixes) (bool_field 3 everyone) (sound_texts 2 suffixes (lit< tt) good.each_suffix) (sound_bool 3 everyone (lit< tt)))),
  tt,
)

pub kind_sound : (kind : AuthzKind) → AreSound (number_field 1 (authz_number kind))
kind_sound ServerAuthorization = sound_number 1 1 (lit< tt) (lit< tt)
kind_sound AuthorizationPolicy = sound_number 1 2 (lit< tt) (lit< tt)

pub authz_sound : (row : AuthzRow) → IsSendableAuthz row → AreSound (authz_records row)
unfolding authz_records
authz_sound row good =
    let last = chunk 4 (spelling (authn_records row.authn)) ∷ [] in
    sound_both (number_field 1 (authz_number row.kind)) (text_field 2 row.name ++ (each_field 3 block_records row.blocks ++ last)) (kind_sound row.kind)
    (sound_both (text_field 2 row.name) (each_field 3 block_records row.blocks ++ last) (sound_text 2 row.name (lit< tt) good.name)
    (sound_both (each_field 3 block_records row.blocks) last (sound_each 3 IsLawfulBlock block_records (lit< tt) block_sound row.blocks good.blocks)
    (sound_inside 4 (authn_records row.authn) (lit< tt) (authn_sound row.authn good.authn), tt)))
