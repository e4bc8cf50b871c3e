-- Which authorizations apply to a Server or a route, and the row of one in a view.
use Rattle.std.specs.Prelude.{◌&&◌, ◌||◌, ℕ, Bool, true, false, if◌then◌else◌, List, [], ◌∷◌, Option, Some, None, codes, drop, filter, filter_map, find, is_some, nat_eq}
use Rattle.std.specs.FinMap.{get, values}
use Rattle.std.specs.List.{list_all, list_any, starts_with}
use Rattle.std.specs.Option.{option_map, unwrap_or}
use Rattle.std.specs.Str.{bytes_eq}
use Rattle.mesh_base.specs.declared.key.Kind.{Kind}
use Rattle.mesh_base.specs.declared.key.Kind.TheVariants as kind
use Rattle.mesh_base.specs.declared.key.ObjKey.{ObjKey}
use Rattle.mesh_text.specs.Mesh.{identity_of}
use Rattle.net_cidr.specs.declared.block.Block.{Block}
use Rattle.net_cidr.specs.declared.ip.Ip.TheVariants.{V4, V6}
use Rattle.view_types.specs.Lawful.{gives_clients, gives_networks}
use Rattle.view_types.specs.Objects.{ObjectMap}
use Rattle.view_types.specs.declared.authn.AuthnSpec.{AuthnSpec}
use Rattle.view_types.specs.declared.authn.AuthnSpec.TheVariants as spec
use Rattle.view_types.specs.declared.authn.AuthzPolicy.{AuthzPolicy}
use Rattle.view_types.specs.declared.authn.IdSpec.{IdSpec}
use Rattle.view_types.specs.declared.authn.IdSpec.TheVariants.{Written, Account, Namespace}
use Rattle.view_types.specs.declared.authn.MeshAuthn.{MeshAuthn}
use Rattle.view_types.specs.declared.authn.NetAuthn.{NetAuthn}
use Rattle.view_types.specs.declared.authn.Ref.{Ref}
use Rattle.view_types.specs.declared.authn.RefKind.{RefKind}
use Rattle.view_types.specs.declared.authn.RefKind.TheVariants as ref
use Rattle.view_types.specs.declared.authn.ServerAuthz.{ServerAuthz}
use Rattle.view_types.specs.declared.authn.ServerRef.{ServerRef}
use Rattle.view_types.specs.declared.authn.ServerRef.TheVariants.{Named, Chosen}
use Rattle.view_types.specs.declared.config.Config.{Config}
use Rattle.view_types.specs.declared.object.Object.{Object}
use Rattle.view_types.specs.declared.object.Object.TheVariants as object
use Rattle.view_types.specs.declared.server.ServerSpec.{ServerSpec}
use Rattle.view_types.specs.declared.server_view.Authn.{Authn}
use Rattle.view_types.specs.declared.server_view.Authn.TheVariants.{Anyone, AnyTls, Clients}
use Rattle.view_types.specs.declared.server_view.AuthzKind.TheVariants as authz
use Rattle.view_types.specs.declared.server_view.AuthzRow.{AuthzRow}
use Rattle.view_rules.specs.InOrder.{in_byte_order}
use Rattle.view_rules.specs.Selects.{selects}

-- ---- what a policy refers to

-- the namespace of a reference; the default is that of its policy
abbrev pub ns_of : List ℕ → Ref → List ℕ
ns_of own need = unwrap_or need.ns own

abbrev pub mesh_authn_key : List ℕ → List ℕ → ObjKey
mesh_authn_key ns name = record { kind = kind.MeshTLSAuthentication; ns = ns; name = name }

abbrev pub mesh_authn_found : Option Object → Option MeshAuthn
mesh_authn_found (Some (object.MeshTLSAuthentication authn)) = Some authn
mesh_authn_found _ = None

abbrev pub mesh_authn_held : ObjectMap → List ℕ → List ℕ → Option MeshAuthn
mesh_authn_held held ns name = mesh_authn_found (get held (mesh_authn_key ns name))

abbrev pub net_authn_key : List ℕ → List ℕ → ObjKey
net_authn_key ns name = record { kind = kind.NetworkAuthentication; ns = ns; name = name }

abbrev pub net_authn_found : Option Object → Option NetAuthn
net_authn_found (Some (object.NetworkAuthentication authn)) = Some authn
net_authn_found _ = None

abbrev pub net_authn_held : ObjectMap → List ℕ → List ℕ → Option NetAuthn
net_authn_held held ns name = net_authn_found (get held (net_authn_key ns name))

-- A ServiceAccount needs no object. Any other kind of object is missing.
abbrev pub is_there : ObjectMap → List ℕ → List ℕ → RefKind → Bool
is_there held ns name ref.ServiceAccount = true
is_there held ns name ref.MeshAuthn = is_some (mesh_authn_held held ns name)
is_there held ns name ref.NetAuthn = is_some (net_authn_held held ns name)
is_there held ns name _ = false

-- none of its references is missing
abbrev pub is_complete : ObjectMap → AuthzPolicy → Bool
is_complete held policy = list_all (λ need. is_there held (ns_of policy.meta.ns need) need.name need.kind) policy.needs

-- ---- authorizations of a Server

abbrev pub names_server : ServerRef → ServerSpec → Bool
names_server (Named name) server = bytes_eq name server.meta.name
names_server (Chosen selector) server = selects selector server.meta.labels

-- a ServerAuthorization applies to the Servers of its namespace that it names or selects
abbrev pub authorizes : ServerAuthz → ServerSpec → Bool
authorizes authorization server = bytes_eq authorization.meta.ns server.meta.ns && names_server authorization.server server

-- the target is the Server, or the Namespace that it is in
abbrev pub is_on_server : ServerSpec → RefKind → List ℕ → Bool
is_on_server server ref.Server name = bytes_eq name server.meta.name
is_on_server server ref.Namespace name = bytes_eq name server.meta.ns
is_on_server server _ name = false

-- The policy and its target are in the namespace, the policy is complete, and its target passes.
abbrev pub policy_applies : ObjectMap → List ℕ → (RefKind → List ℕ → Bool) → AuthzPolicy → Bool
policy_applies held ns is_target policy =
    bytes_eq policy.meta.ns ns
    && bytes_eq (ns_of policy.meta.ns policy.target) ns
    && is_target policy.target.kind policy.target.name
    && is_complete held policy

abbrev pub applies_to_server : ObjectMap → ServerSpec → Object → Bool
applies_to_server held server (object.ServerAuthorization authorization) = authorizes authorization server
applies_to_server held server (object.AuthorizationPolicy policy) = policy_applies held server.meta.ns (is_on_server server) policy
applies_to_server held server _ = false

-- ---- authorizations of a route

abbrev pub is_route_kind : Kind → RefKind → Bool
is_route_kind kind.LinkerdRoute ref.LinkerdRoute = true
is_route_kind kind.GatewayRoute ref.GatewayRoute = true
is_route_kind _ _ = false

-- the target is the route, by kind and name
abbrev pub is_on_route : ObjKey → RefKind → List ℕ → Bool
is_on_route route target name = is_route_kind route.kind target && bytes_eq name route.name

-- to the route of a key, held or not; a ServerAuthorization applies to none
abbrev pub applies_to_route : ObjectMap → ObjKey → Object → Bool
applies_to_route held route (object.AuthorizationPolicy policy) = policy_applies held route.ns (is_on_route route) policy
applies_to_route held route _ = false

-- ---- networks

-- all addresses
abbrev pub everywhere : List Block
everywhere = record { net = record { base = V4 0; bits = 0 }; except = [] } ∷ record { net = record { base = V6 0; bits = 0 }; except = [] } ∷ []

abbrev pub blocks_in : Option NetAuthn → List Block
blocks_in None = []
blocks_in (Some authn) = authn.blocks

-- the networks of the NetworkAuthentication that a policy refers to, if any
abbrev pub networks : ObjectMap → AuthzPolicy → Option (List Block)
networks held policy =
    option_map
    (λ need. blocks_in (net_authn_held held (ns_of policy.meta.ns need) need.name))
    (find (λ need. gives_networks need.kind) policy.needs)

-- ---- clients

abbrev pub ids_in : Option MeshAuthn → List IdSpec
ids_in None = []
ids_in (Some authn) = authn.ids

-- the clients of a MeshTLSAuthentication, or a ServiceAccount
abbrev pub ids_at : ObjectMap → List ℕ → List ℕ → RefKind → List IdSpec
ids_at held ns name ref.MeshAuthn = ids_in (mesh_authn_held held ns name)
ids_at held ns name ref.ServiceAccount = Account ns name ∷ []
ids_at held ns name _ = []

-- the clients that a policy refers to, if any
abbrev pub clients : ObjectMap → AuthzPolicy → Option (List IdSpec)
clients held policy =
    option_map
    (λ need. ids_at held (ns_of policy.meta.ns need) need.name need.kind)
    (find (λ need. gives_clients need.kind) policy.needs)

-- `*` means everyone
abbrev pub is_star : List ℕ → Bool
is_star string = bytes_eq string (codes "*")

-- `*.s` means the identities that end in `.s`
abbrev pub is_wild : List ℕ → Bool
is_wild string = starts_with nat_eq string (codes "*.")

-- what follows the account in the identities of a namespace
abbrev pub namespace_suffix : Config → List ℕ → List ℕ
namespace_suffix config ns = identity_of config ns []

-- what an entry of a list of clients means: an identity, a suffix, or everyone
abbrev pub identity_in : Config → IdSpec → Option (List ℕ)
identity_in config (Written string) = if is_star string || is_wild string then None else Some string
identity_in config (Account ns name) = Some (identity_of config ns name)
identity_in config (Namespace ns) = None

abbrev pub suffix_in : Config → IdSpec → Option (List ℕ)
suffix_in config (Written string) = if is_wild string then Some (drop 1 string) else None
suffix_in config (Account ns name) = None
suffix_in config (Namespace ns) = Some (namespace_suffix config ns)

abbrev pub is_everyone : IdSpec → Bool
is_everyone (Written string) = is_star string
is_everyone _ = false

-- ---- rows

abbrev pub clients_shown : Config → List IdSpec → Authn
clients_shown config ids = Clients (in_byte_order (filter_map (identity_in config) ids)) (in_byte_order (filter_map (suffix_in config) ids)) (list_any is_everyone ids)

abbrev pub authn_shown : Config → AuthnSpec → Authn
authn_shown config spec.Anyone = Anyone
authn_shown config spec.AnyTls = AnyTls
authn_shown config (spec.Clients ids) = clients_shown config ids

-- a policy without clients admits anyone
abbrev pub policy_authn : Config → Option (List IdSpec) → Authn
policy_authn config None = Anyone
policy_authn config (Some ids) = clients_shown config ids

-- the row of an authorization
abbrev pub authz_row : Config → ObjectMap → Object → Option AuthzRow
authz_row config held (object.ServerAuthorization authorization) =
    Some record { kind = authz.ServerAuthorization; name = authorization.meta.name; blocks = authorization.blocks; authn = authn_shown config authorization.authn }
authz_row config held (object.AuthorizationPolicy policy) =
    Some record { kind = authz.AuthorizationPolicy; name = policy.meta.name; blocks = unwrap_or (networks held policy) everywhere; authn = policy_authn config (clients held policy) }
authz_row config held _ = None

-- The rows of those that pass, in order of kind and name, as are the objects of a namespace.
abbrev pub authz_rows : Config → ObjectMap → (Object → Bool) → List AuthzRow
authz_rows config held applies = filter_map (authz_row config held) (filter applies (values held))
