-- Which clients an authorization admits, over the objects held; and which clients a row of a view admits.
use Rattle.std.specs.Prelude.{◌&&◌, ◌||◌, ℕ, Bool, true, false, List, Option, Some, None, drop, length, nat_eq, nat_lt}
use Rattle.std.specs.List.{ends_with, list_any}
use Rattle.std.specs.Str.{bytes_eq}
use Rattle.mesh_text.specs.Mesh.{identity_of}
use Rattle.net_cidr.specs.declared.block.Block.{Block}
use Rattle.net_cidr.specs.declared.ip.Ip.{Ip}
use Rattle.view_types.specs.Objects.{ObjectMap}
use Rattle.view_types.specs.declared.authn.AuthnSpec.{AuthnSpec}
use Rattle.view_types.specs.declared.authn.AuthnSpec.TheVariants as spec
use Rattle.view_types.specs.declared.authn.IdSpec.{IdSpec}
use Rattle.view_types.specs.declared.authn.IdSpec.TheVariants.{Written, Account, Namespace}
use Rattle.view_types.specs.declared.config.Config.{Config}
use Rattle.view_types.specs.declared.object.Object.{Object}
use Rattle.view_types.specs.declared.object.Object.TheVariants as object
use Rattle.view_types.specs.declared.request.ClientTls.{ClientTls}
use Rattle.view_types.specs.declared.request.ClientTls.TheVariants.{Plain, Identity}
use Rattle.view_types.specs.declared.server_view.Authn.{Authn}
use Rattle.view_types.specs.declared.server_view.Authn.TheVariants.{Anyone, AnyTls, Clients}
use Rattle.view_types.specs.declared.server_view.AuthzRow.{AuthzRow}
use Rattle.view_rules.specs.Policies.{clients, is_star, is_wild, namespace_suffix, networks}
use Rattle.request_rules.specs.Networks.{block_holds}

abbrev pub has_tls : ClientTls → Bool
has_tls Plain = false
has_tls _ = true

-- the identity ends in the suffix, after at least one byte
abbrev pub ends_after : List ℕ → List ℕ → Bool
ends_after identity suffix = nat_lt (length suffix) (length identity) && ends_with nat_eq identity suffix

-- ---- over the objects

-- the string is the identity, or `*`, or `*.s` where the identity ends in `.s`
abbrev pub is_written : List ℕ → List ℕ → Bool
is_written string identity = bytes_eq string identity || is_star string || (is_wild string && ends_after identity (drop 1 string))

abbrev pub means_client : Config → List ℕ → IdSpec → Bool
means_client config identity (Written string) = is_written string identity
means_client config identity (Account ns name) = bytes_eq (identity_of config ns name) identity
means_client config identity (Namespace ns) = ends_after identity (namespace_suffix config ns)

abbrev pub is_client : Config → List IdSpec → ClientTls → Bool
is_client config ids (Identity identity) = list_any (means_client config identity) ids
is_client config ids _ = false

abbrev pub is_authenticated : Config → AuthnSpec → ClientTls → Bool
is_authenticated config spec.Anyone tls = true
is_authenticated config spec.AnyTls tls = has_tls tls
is_authenticated config (spec.Clients ids) tls = is_client config ids tls

-- without networks every address is admitted, and without clients everyone
abbrev pub is_from : Option (List Block) → Ip → Bool
is_from None ip = true
is_from (Some blocks) ip = list_any (block_holds ip) blocks

abbrev pub is_by : Config → Option (List IdSpec) → ClientTls → Bool
is_by config None tls = true
is_by config (Some ids) tls = is_client config ids tls

-- the networks of the authorization have the address, and its authentication includes the client
abbrev pub admits : Config → ObjectMap → Ip → ClientTls → Object → Bool
admits config held ip tls (object.ServerAuthorization authorization) =
    is_from (Some authorization.blocks) ip && is_authenticated config authorization.authn tls
admits config held ip tls (object.AuthorizationPolicy policy) = is_from (networks held policy) ip && is_by config (clients held policy) tls
admits config held ip tls _ = false

-- ---- over rows

abbrev pub is_listed : List (List ℕ) → List (List ℕ) → Bool → ClientTls → Bool
is_listed ids suffixes everyone (Identity identity) = everyone || list_any (λ id. bytes_eq id identity) ids || list_any (ends_after identity) suffixes
is_listed ids suffixes everyone _ = false

abbrev pub authn_holds : Authn → ClientTls → Bool
authn_holds Anyone tls = true
authn_holds AnyTls tls = has_tls tls
authn_holds (Clients ids suffixes everyone) tls = is_listed ids suffixes everyone tls

abbrev pub row_admits : Ip → ClientTls → AuthzRow → Bool
row_admits ip tls row = list_any (block_holds ip) row.blocks && authn_holds row.authn tls
