-- The contents of an authorization's message, `Authz`, and of the messages nested in it.
use Rattle.std.specs.Prelude.{ℕ, suc, List, ◌==◌, if◌then◌else◌}
use Rattle.net_cidr.specs.Network.{net_round, width}
use Rattle.net_cidr.specs.declared.block.Block.{Block}
use Rattle.net_cidr.specs.declared.ip.Ip.{Ip}
use Rattle.net_cidr.specs.declared.net.Net.{Net}
use Rattle.view_types.specs.declared.server_view.Authn.{Authn}
use Rattle.view_types.specs.declared.server_view.Authn.TheVariants.{Anyone, AnyTls, Clients}
use Rattle.view_types.specs.declared.server_view.AuthzKind.{AuthzKind}
use Rattle.view_types.specs.declared.server_view.AuthzKind.TheVariants.{ServerAuthorization, AuthorizationPolicy}
use Rattle.view_types.specs.declared.server_view.AuthzRow.{AuthzRow}
use Rattle.proto_wire.specs.declared.record.Rec.{Rec}
use Rattle.proxy_proto.specs.EndpointReading.{ip_in}
use Rattle.proxy_proto.specs.Faults.{number_in}
use Rattle.proxy_proto.specs.LookUps.{has, below, flag_in, string_in, texts_in, inside, each_message}

-- The bits of the address after the prefix are set to 0.
abbrev pub net_from : Ip → ℕ → Net
net_from ip bits = net_round ip (below (suc (width ip)) bits)

unfoldable pub net_in : List Rec → Net
net_in rs = net_from (ip_in (inside 1 rs)) (number_in 2 rs)

unfoldable pub block_in : List Rec → Block
block_in rs = record { net = net_in (inside 1 rs); except = each_message 2 net_in rs }

unfoldable pub clients_in : List Rec → Authn
clients_in rs = Clients (texts_in 1 rs) (texts_in 2 rs) (flag_in 3 rs)

unfoldable pub authn_in : List Rec → Authn
authn_in rs =
    if has 1 rs then Anyone
    else (if has 2 rs then AnyTls
    else clients_in (inside 3 rs))

abbrev pub authz_kind : ℕ → AuthzKind
authz_kind n = if n == 1 then ServerAuthorization else AuthorizationPolicy

unfoldable pub authz_in : List Rec → AuthzRow
authz_in rs = record {
  kind = authz_kind (number_in 1 rs);
  name = string_in 2 rs;
  blocks = each_message 3 block_in rs;
  authn = authn_in (inside 4 rs);
}

unfoldable pub authz_key_in : List Rec → AuthzKind × List ℕ
authz_key_in rs = (authz_kind (number_in 1 rs), string_in 2 rs)
