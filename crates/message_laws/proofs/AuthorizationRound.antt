-- What is written of an authorization is read back.
use Rattle.std.proofs.Common.{◌≡◌, ℕ, suc, ◌/◌, ◌%◌, ◌^◌, ◌<◌, ◌≤◌, ◌==◌, Bool, false, List, [], ◌∷◌, length, None, refl, sym, ap, ◌∙◌, arith, lit<, lit≤}
use Rattle.std.proofs.lemmas.Bool.{le-ltb}
use Rattle.std.specs.List.{AllByRecursion}
use Rattle.net_cidr.specs.Network.{net_round, width}
use Rattle.net_cidr.specs.Texts.{FitsIp}
use Rattle.net_cidr.specs.declared.block.Block.{Block}
use Rattle.net_cidr.specs.declared.ip.Ip.{Ip}
use Rattle.net_cidr.specs.declared.ip.Ip.TheVariants.{V4, V6}
use Rattle.net_cidr.specs.declared.net.Net.{Net}
use Rattle.view_types.specs.Lawful.{IsLawfulBlock, IsLawfulNet}
use Rattle.view_types.specs.Numbers.{authz_number}
use Rattle.view_types.specs.declared.server_view.Authn.{Authn}
use Rattle.view_types.specs.declared.server_view.Authn.TheVariants.{Anyone, AnyTls, Clients}
use Rattle.view_types.specs.declared.server_view.AuthzKind.{AuthzKind}
use Rattle.view_types.specs.declared.server_view.AuthzKind.TheVariants.{ServerAuthorization, AuthorizationPolicy}
use Rattle.view_types.specs.declared.server_view.AuthzRow.{AuthzRow}
use Rattle.proto_wire.specs.Wire.{spelling}
use Rattle.proxy_proto.specs.declared.table.Schema.TheVariants as schemas
use Rattle.proxy_proto.specs.AuthorizationReading.{authn_in, authz_in, authz_key_in, authz_kind, block_in, clients_in, net_from, net_in}
use Rattle.proxy_proto.specs.Authorizations.{authn_records, authz_key_records, authz_records, block_records, clients_records, net_records}
use Rattle.proxy_proto.specs.EndpointReading.{ip_in}
use Rattle.proxy_proto.specs.Endpoints.{ip_records, half_records}
use Rattle.proxy_proto.specs.Faults.{bits_of, end_fault}
use Rattle.proxy_proto.specs.FieldRecords.{chunk, number_field, bool_field, text_field, texts_field, each_field}
use Rattle.proxy_proto.specs.LookUps.{number_from, value_at}
use Rattle.proxy_proto.specs.Sendable.{AreSendableClients, IsSendableAuthn, IsSendableAuthz, IsSendableAuthzKey}
use Rattle.proxy_proto.specs.Tables.{fields_of}
use Rattle.message_laws.proofs.Coming.{each_comes, first_inside}
use Rattle.message_laws.proofs.EndpointRound.{ip_comes}
use Rattle.message_laws.proofs.FieldBlocks.{AllWritten, FieldBlock, block, laid, laid_comes}
use Rattle.message_laws.proofs.Found.{IsSound, kept, recorded, sound_chunk}
use Rattle.message_laws.proofs.WrittenFields.{ComesIfShort, EachComes, each_read, each_written, empty_clean, flag_read, flag_written, has_read, inside_short, member_comes, message_read, number_read, number_written, required_written, text_read, text_written, texts_read, texts_written}

-- ---- a network

ip_sound : (ip : Ip) → FitsIp ip → AllByRecursion IsSound (ip_records ip)
unfolding ip_records
ip_sound (V4 n) fits = (record { named = lit< tt; number = lit< tt; value = fits }, tt)
ip_sound (V6 n) fits = (sound_chunk 2 (spelling (half_records (n / 2 ^ 64) (n % 2 ^ 64))) (lit< tt) (lit< tt), tt)

bits_are : (ip : Ip) → bits_of (ip_records ip) ≡ width ip
unfolding ip_records
bits_are (V4 n) = refl
bits_are (V6 n) = refl

width_most : (ip : Ip) → width ip ≤ 128
width_most (V4 n) = lit≤ tt
width_most (V6 n) = lit≤ tt

abbrev net_blocks : Net → List FieldBlock
net_blocks net = block 1 (chunk 1 (spelling (ip_records net.base)) ∷ []) ∷ block 2 (number_field 2 net.bits) ∷ []

net_laid : (net : Net) → net_records net ≡ laid (net_blocks net)
unfolding net_records laid
net_laid net = refl

net_written : (net : Net) → IsLawfulNet net → AllWritten schemas.IpNetwork (net_blocks net)
net_written net fits =
    let most = width_most net.base in
    let bits = fits.round.sized in (
      required_written schemas.IpNetwork 1 schemas.IpAddress ip_in (ip_records net.base) net.base (lit< tt, lit< tt) refl (ip_comes net.base fits.base),
      (number_written schemas.IpNetwork 2 4294967295 net.bits (lit< tt, lit< tt) refl (omega arith) (lit< tt), tt),
    )

net_kept : (net : Net) → IsLawfulNet net → net_from net.base net.bits ≡ net
net_kept net fits =
    let bits = fits.round.sized in
    ap (net_round net.base) (kept (suc (width net.base)) net.bits (omega arith)) ∙ sym fits.round.round

net_ends : (net : Net) → IsLawfulNet net → length (spelling (laid (net_blocks net))) < 2 ^ 64 → end_fault schemas.IpNetwork (fields_of schemas.IpNetwork) (record { records = laid (net_blocks net); fault = None }) ≡ None
net_ends net fits short =
    let s = schemas.IpNetwork in
    let bs = net_blocks net in
    let w = net_written net fits in
    let low = inside_short s bs w 1 (ip_records net.base) refl short in
    let there = has_read s bs w 1 (spelling (ip_records net.base)) refl in
    let bits = message_read s bs w 1 bits_of (ip_records net.base) (width net.base) refl (ap bits_of (recorded (ip_records net.base) (ip_sound net.base fits.base) low) ∙ bits_are net.base) in
    let number = number_read s bs w 2 net.bits refl in
    rw (there, bits, number, le-ltb (width net.base) net.bits fits.round.sized) refl

net_back : (net : Net) → IsLawfulNet net → length (spelling (laid (net_blocks net))) < 2 ^ 64 → net_in (laid (net_blocks net)) ≡ net
unfolding net_in
net_back net fits short =
    let s = schemas.IpNetwork in
    let bs = net_blocks net in
    let w = net_written net fits in
    let low = inside_short s bs w 1 (ip_records net.base) refl short in
    let base = message_read s bs w 1 ip_in (ip_records net.base) net.base refl (ip_comes net.base fits.base low).back in
    rw (base, number_read s bs w 2 net.bits refl) (net_kept net fits)

net_comes : (net : Net) → IsLawfulNet net → ComesIfShort schemas.IpNetwork net_in (net_records net) net
net_comes net fits =
    rw (net_laid net) (λ short. laid_comes schemas.IpNetwork net_in (net_blocks net) net (net_written net fits) refl (net_ends net fits short) (net_back net fits short) short)

-- ---- a network without others

abbrev block_blocks : Block → List FieldBlock
block_blocks b = block 1 (chunk 1 (spelling (net_records b.net)) ∷ []) ∷ block 2 (each_field 2 net_records b.except) ∷ []

block_laid : (b : Block) → block_records b ≡ laid (block_blocks b)
unfolding block_records laid
block_laid b = refl

nets_come : (b : Block) → IsLawfulBlock b → EachComes 2 schemas.IpNetwork net_in net_records b.except
nets_come b fits = each_comes 2 schemas.IpNetwork net_in net_records IsLawfulNet b.except net_comes fits.except

block_written : (b : Block) → IsLawfulBlock b → AllWritten schemas.Network (block_blocks b)
block_written b fits = (
  required_written schemas.Network 1 schemas.IpNetwork net_in (net_records b.net) b.net (lit< tt, lit< tt) refl (net_comes b.net fits.whole),
  (each_written schemas.Network 2 schemas.IpNetwork net_in net_records b.except (lit< tt, lit< tt) refl (nets_come b fits), tt),
)

block_ends : (b : Block) → IsLawfulBlock b → end_fault schemas.Network (fields_of schemas.Network) (record { records = laid (block_blocks b); fault = None }) ≡ None
block_ends b fits = rw (has_read schemas.Network (block_blocks b) (block_written b fits) 1 (spelling (net_records b.net)) refl) refl

block_back : (b : Block) → IsLawfulBlock b → length (spelling (laid (block_blocks b))) < 2 ^ 64 → block_in (laid (block_blocks b)) ≡ b
unfolding block_in
block_back b fits short =
    let s = schemas.Network in
    let bs = block_blocks b in
    let w = block_written b fits in
    let low = inside_short s bs w 1 (net_records b.net) refl short in
    let net = message_read s bs w 1 net_in (net_records b.net) b.net refl (net_comes b.net fits.whole low).back in
    rw (net, each_read s bs w 2 schemas.IpNetwork net_in net_records b.except refl (nets_come b fits) short) refl

block_comes : (b : Block) → IsLawfulBlock b → ComesIfShort schemas.Network block_in (block_records b) b
block_comes b fits =
    rw (block_laid b) (λ short. laid_comes schemas.Network block_in (block_blocks b) b (block_written b fits) refl (block_ends b fits) (block_back b fits short) short)

-- ---- whom it admits

abbrev client_blocks : List (List ℕ) → List (List ℕ) → Bool → List FieldBlock
client_blocks ids suffixes everyone = block 1 (texts_field 1 ids) ∷ block 2 (texts_field 2 suffixes) ∷ block 3 (bool_field 3 everyone) ∷ []

clients_laid : (ids suffixes : List (List ℕ)) (everyone : Bool) → clients_records ids suffixes everyone ≡ laid (client_blocks ids suffixes everyone)
unfolding clients_records laid
clients_laid ids suffixes everyone = refl

clients_written : (ids suffixes : List (List ℕ)) (everyone : Bool) → AreSendableClients ids suffixes → AllWritten schemas.Clients (client_blocks ids suffixes everyone)
clients_written ids suffixes everyone fits = (
  texts_written schemas.Clients 1 ids (lit< tt, lit< tt) refl fits.each_id,
  (
    texts_written schemas.Clients 2 suffixes (lit< tt, lit< tt) refl fits.each_suffix,
    (flag_written schemas.Clients 3 everyone (lit< tt, lit< tt) refl, tt),
  ),
)

clients_back : (ids suffixes : List (List ℕ)) (everyone : Bool) → AreSendableClients ids suffixes → clients_in (laid (client_blocks ids suffixes everyone)) ≡ Clients ids suffixes everyone
unfolding clients_in
clients_back ids suffixes everyone fits =
    let s = schemas.Clients in
    let bs = client_blocks ids suffixes everyone in
    let w = clients_written ids suffixes everyone fits in
    rw (texts_read s bs w 1 ids refl fits.each_id, texts_read s bs w 2 suffixes refl fits.each_suffix, flag_read s bs w 3 everyone refl) refl

clients_come : (ids suffixes : List (List ℕ)) (everyone : Bool) → AreSendableClients ids suffixes → ComesIfShort schemas.Clients clients_in (clients_records ids suffixes everyone) (Clients ids suffixes everyone)
clients_come ids suffixes everyone fits =
    rw (clients_laid ids suffixes everyone)
    (λ short. laid_comes schemas.Clients clients_in (client_blocks ids suffixes everyone) (Clients ids suffixes everyone) (clients_written ids suffixes everyone fits) refl refl (clients_back ids suffixes everyone fits) short)

authn_comes : (authn : Authn) → IsSendableAuthn authn → ComesIfShort schemas.Authn authn_in (authn_records authn) authn
unfolding authn_records authn_in
authn_comes Anyone fits short = member_comes schemas.Authn authn_in 1 schemas.Empty [] Anyone (lit< tt, lit< tt) refl refl refl empty_clean refl short
authn_comes AnyTls fits short = member_comes schemas.Authn authn_in 2 schemas.Empty [] AnyTls (lit< tt, lit< tt) refl refl refl empty_clean refl short
authn_comes (Clients ids suffixes everyone) fits short =
    let rs = clients_records ids suffixes everyone in
    let less = first_inside 3 (spelling rs) [] in
    let there = clients_come ids suffixes everyone fits (omega arith) in
    member_comes schemas.Authn authn_in 3 schemas.Clients rs (Clients ids suffixes everyone) (lit< tt, lit< tt) refl refl refl there.clean there.back short

-- ---- an authorization

abbrev authz_blocks : AuthzRow → List FieldBlock
authz_blocks row =
    block 1 (number_field 1 (authz_number row.kind))
    ∷ block 2 (text_field 2 row.name)
    ∷ block 3 (each_field 3 block_records row.blocks)
    ∷ block 4 (chunk 4 (spelling (authn_records row.authn)) ∷ [])
    ∷ []

authz_laid : (row : AuthzRow) → authz_records row ≡ laid (authz_blocks row)
unfolding authz_records laid
authz_laid row = refl

kind_most : (kind : AuthzKind) → authz_number kind ≤ 2
kind_most ServerAuthorization = lit≤ tt
kind_most AuthorizationPolicy = lit≤ tt

kind_some : (kind : AuthzKind) → (authz_number kind == 0) ≡ false
kind_some ServerAuthorization = refl
kind_some AuthorizationPolicy = refl

kind_back : (kind : AuthzKind) → authz_kind (authz_number kind) ≡ kind
kind_back ServerAuthorization = refl
kind_back AuthorizationPolicy = refl

blocks_come : (row : AuthzRow) → IsSendableAuthz row → EachComes 3 schemas.Network block_in block_records row.blocks
blocks_come row fits = each_comes 3 schemas.Network block_in block_records IsLawfulBlock row.blocks block_comes fits.blocks

authz_written : (row : AuthzRow) → IsSendableAuthz row → AllWritten schemas.Authz (authz_blocks row)
authz_written row fits = (
  number_written schemas.Authz 1 2 (authz_number row.kind) (lit< tt, lit< tt) refl (kind_most row.kind) (lit< tt),
  (
    text_written schemas.Authz 2 row.name (lit< tt, lit< tt) refl fits.name,
    (
      each_written schemas.Authz 3 schemas.Network block_in block_records row.blocks (lit< tt, lit< tt) refl (blocks_come row fits),
      (required_written schemas.Authz 4 schemas.Authn authn_in (authn_records row.authn) row.authn (lit< tt, lit< tt) refl (authn_comes row.authn fits.authn), tt),
    ),
  ),
)

authz_ends : (row : AuthzRow) → IsSendableAuthz row → end_fault schemas.Authz (fields_of schemas.Authz) (record { records = laid (authz_blocks row); fault = None }) ≡ None
authz_ends row fits =
    let s = schemas.Authz in
    let bs = authz_blocks row in
    let w = authz_written row fits in
    let kind : (number_from (value_at 1 (laid bs)) == 0) ≡ false = ap (λ n. n == 0) (number_read s bs w 1 (authz_number row.kind) refl) ∙ kind_some row.kind in
    rw (kind, has_read s bs w 4 (spelling (authn_records row.authn)) refl) refl

authz_back : (row : AuthzRow) → IsSendableAuthz row → length (spelling (laid (authz_blocks row))) < 2 ^ 64 → authz_in (laid (authz_blocks row)) ≡ row
unfolding authz_in
authz_back row fits short =
    let s = schemas.Authz in
    let bs = authz_blocks row in
    let w = authz_written row fits in
    let low = inside_short s bs w 4 (authn_records row.authn) refl short in
    let authn = message_read s bs w 4 authn_in (authn_records row.authn) row.authn refl (authn_comes row.authn fits.authn low).back in
    let blocks = each_read s bs w 3 schemas.Network block_in block_records row.blocks refl (blocks_come row fits) short in
    rw (number_read s bs w 1 (authz_number row.kind) refl, kind_back row.kind, text_read s bs w 2 row.name refl fits.name, blocks, authn) refl

pub authz_comes : (row : AuthzRow) → IsSendableAuthz row → ComesIfShort schemas.Authz authz_in (authz_records row) row
authz_comes row fits =
    rw (authz_laid row) (λ short. laid_comes schemas.Authz authz_in (authz_blocks row) row (authz_written row fits) refl (authz_ends row fits) (authz_back row fits short) short)

-- ---- the kind and name of an authorization

abbrev key_blocks : AuthzKind × List ℕ → List FieldBlock
key_blocks key = block 1 (number_field 1 (authz_number key.0)) ∷ block 2 (text_field 2 key.1) ∷ []

key_laid : (key : AuthzKind × List ℕ) → authz_key_records key ≡ laid (key_blocks key)
unfolding authz_key_records laid
key_laid key = refl

key_written : (key : AuthzKind × List ℕ) → IsSendableAuthzKey key → AllWritten schemas.AuthzKey (key_blocks key)
key_written key fits = (
  number_written schemas.AuthzKey 1 2 (authz_number key.0) (lit< tt, lit< tt) refl (kind_most key.0) (lit< tt),
  (text_written schemas.AuthzKey 2 key.1 (lit< tt, lit< tt) refl fits, tt),
)

key_ends : (key : AuthzKind × List ℕ) → IsSendableAuthzKey key → end_fault schemas.AuthzKey (fields_of schemas.AuthzKey) (record { records = laid (key_blocks key); fault = None }) ≡ None
key_ends key fits =
    let s = schemas.AuthzKey in
    let bs = key_blocks key in
    let kind : (number_from (value_at 1 (laid bs)) == 0) ≡ false = ap (λ n. n == 0) (number_read s bs (key_written key fits) 1 (authz_number key.0) refl) ∙ kind_some key.0 in
    rw kind refl

key_back : (key : AuthzKind × List ℕ) → IsSendableAuthzKey key → authz_key_in (laid (key_blocks key)) ≡ key
unfolding authz_key_in
key_back key fits =
    let s = schemas.AuthzKey in
    let bs = key_blocks key in
    let w = key_written key fits in
    rw (number_read s bs w 1 (authz_number key.0) refl, kind_back key.0, text_read s bs w 2 key.1 refl fits) refl

pub key_comes : (key : AuthzKind × List ℕ) → IsSendableAuthzKey key → ComesIfShort schemas.AuthzKey authz_key_in (authz_key_records key) key
key_comes key fits =
    rw (key_laid key) (λ short. laid_comes schemas.AuthzKey authz_key_in (key_blocks key) key (key_written key fits) refl (key_ends key fits) (key_back key fits) short)
