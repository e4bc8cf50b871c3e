-- The records of an authorization's message, `Authz`, and of the messages nested in it.
use Rattle.std.specs.Prelude.{ℕ, Bool, List, [], ◌∷◌, ◌++◌}
use Rattle.net_cidr.specs.declared.block.Block.{Block}
use Rattle.net_cidr.specs.declared.net.Net.{Net}
use Rattle.view_types.specs.Numbers.{authz_number}
use Rattle.view_types.specs.declared.server_view.Authn.{Authn}
use Rattle.view_types.specs.declared.server_view.Authn.TheVariants.{Anyone, AnyTls, Clients}
use Rattle.view_types.specs.declared.server_view.AuthzKind.{AuthzKind}
use Rattle.view_types.specs.declared.server_view.AuthzRow.{AuthzRow}
use Rattle.proto_wire.specs.declared.record.Rec.{Rec}
use Rattle.proto_wire.specs.Wire.{spelling}
use Rattle.proxy_proto.specs.Endpoints.{ip_records}
use Rattle.proxy_proto.specs.FieldRecords.{chunk, number_field, bool_field, text_field, texts_field, each_field}

-- ---- Network, with IPNetwork

unfoldable pub net_records : Net → List Rec
net_records net = chunk 1 (spelling (ip_records net.base)) ∷ number_field 2 net.bits

unfoldable pub block_records : Block → List Rec
block_records block = chunk 1 (spelling (net_records block.net)) ∷ each_field 2 net_records block.except

-- ---- Authn: a choice

unfoldable pub clients_records : List (List ℕ) → List (List ℕ) → Bool → List Rec
clients_records ids suffixes everyone = texts_field 1 ids ++ (texts_field 2 suffixes ++ bool_field 3 everyone)

unfoldable pub authn_records : Authn → List Rec
authn_records Anyone = chunk 1 [] ∷ []
authn_records AnyTls = chunk 2 [] ∷ []
authn_records (Clients ids suffixes everyone) = chunk 3 (spelling (clients_records ids suffixes everyone)) ∷ []

-- ---- Authz

unfoldable pub authz_records : AuthzRow → List Rec
authz_records row =
    number_field 1 (authz_number row.kind)
    ++ (text_field 2 row.name
    ++ (each_field 3 block_records row.blocks
    ++ chunk 4 (spelling (authn_records row.authn)) ∷ []))

-- ---- AuthzKey

unfoldable pub authz_key_records : AuthzKind × List ℕ → List Rec
authz_key_records key = number_field 1 (authz_number key.0) ++ text_field 2 key.1
