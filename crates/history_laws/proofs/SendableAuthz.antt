-- What is shown of lawful authorizations can be sent: its networks are theirs, or all addresses, and its clients are theirs, by
-- names that the configuration completes.
use Rattle.std.proofs.Common.{◌≡◌, ℕ, ◌||◌, Bool, true, false, List, [], ◌∷◌, Option, Some, None, IfSome, drop, refl, arith, if◌then◌else◌}
use Rattle.std.specs.Prelude.{IsUtf8, filter, filter_map, find, option_map}
use Rattle.std.specs.List.{AllByRecursion}
use Rattle.std.specs.Cmp.Lexicographic.{nat_list_cmp_total}
use Rattle.std.specs.FinMap.{get, values}
use Rattle.std.specs.Option.{unwrap_or}
use Rattle.std.proofs.lemmas.Bool.Decides.{nat_tests}
use Rattle.std.proofs.lemmas.Str.{IsUtf8-drop, IsUtf8-nil}
use Rattle.k8s_meta.specs.Lawful.{IsString}
use Rattle.net_cidr.specs.declared.ip.Ip.TheVariants.{V4, V6}
use Rattle.view_types.specs.Lawful.{IsLawful, IsLawfulAuthnSpec, IsLawfulBlock, IsLawfulId, IsLawfulPolicy, IsLawfulRef, gives_clients, gives_networks}
use Rattle.view_types.specs.Objects.{ObjectMap}
use Rattle.view_types.specs.declared.authn.AuthnSpec.{AuthnSpec}
use Rattle.view_types.specs.declared.authn.AuthnSpec.TheVariants as spec
use Rattle.view_types.specs.declared.authn.AuthzPolicy.{AuthzPolicy}
use Rattle.view_types.specs.declared.authn.IdSpec.{IdSpec}
use Rattle.view_types.specs.declared.authn.IdSpec.TheVariants.{Written, Account, Namespace}
use Rattle.view_types.specs.declared.authn.Ref.{Ref}
use Rattle.view_types.specs.declared.authn.RefKind.{RefKind}
use Rattle.view_types.specs.declared.authn.RefKind.TheVariants as ref
use Rattle.view_types.specs.declared.config.Config.{Config}
use Rattle.view_types.specs.declared.object.Object.{Object}
use Rattle.view_types.specs.declared.object.Object.TheVariants as objects
use Rattle.view_rules.specs.InOrder.{in_byte_order}
use Rattle.view_rules.specs.Policies.{authn_shown, authz_row, authz_rows, blocks_in, clients_shown, everywhere, ids_at, ids_in, identity_in, is_star, is_wild, mesh_authn_found, mesh_authn_key, net_authn_found, net_authn_held, net_authn_key, ns_of, policy_authn, suffix_in}
use Rattle.proxy_proto.specs.Sendable.{IsSendableAuthn, IsSendableAuthz}
use Rattle.feed_history.specs.Sendable.{IsLawfulConfig}
use Rattle.feed_history.proofs.Lists.{all_given, all_kept, found_is}
use Rattle.history_laws.proofs.Ordered.{all_in_order}
use Rattle.feed_history.specs.Lawful.{AreLawfulHeld}
use Rattle.history_laws.proofs.SendableRows.{identity_is_text, of_found, values_are_lawful}

-- ---- clients

-- behind the `*` of `*.s`
behind_star : (string : List ℕ) → is_wild string ≡ true → IsUtf8 string → IsUtf8 (drop 1 string)
behind_star [] wild is = absurd (cc wild)
behind_star (a ∷ []) wild is = absurd (grind (arith, nat_tests))
behind_star (a ∷ b ∷ rest) wild is = IsUtf8-drop (a ∷ b ∷ rest) 1 is (omega arith, λ within high. grind (arith, nat_tests))

module _ (config : Config) (usual : IsLawfulConfig config) where
  identity_is : (id : IdSpec) → IsLawfulId id → IfSome (identity_in config id) IsUtf8
  identity_is (Written string) is = by_test (is_star string || is_wild string)
    where
      by_test : (b : Bool) → IfSome (if b then None else Some string) IsUtf8
      by_test true = tt
      by_test false = is
  identity_is (Account ns name) is = identity_is_text config usual ns name is.0 is.1
  identity_is (Namespace ns) is = tt

  suffix_is : (id : IdSpec) → IsLawfulId id → IfSome (suffix_in config id) IsUtf8
  suffix_is (Written string) is = by_test (is_wild string) refl
    where
      by_test : (b : Bool) → is_wild string ≡ b → IfSome (if b then Some (drop 1 string) else None) IsUtf8
      by_test true wild = behind_star string wild is
      by_test false wild = tt
  suffix_is (Account ns name) is = tt
  suffix_is (Namespace ns) is = identity_is_text config usual ns [] is IsUtf8-nil

  all_texts : (f : IdSpec → Option (List ℕ)) → ((id : IdSpec) → IsLawfulId id → IfSome (f id) IsUtf8) → (ids : List IdSpec) → AllByRecursion IsLawfulId ids → AllByRecursion IsUtf8 (in_byte_order (filter_map f ids))
  all_texts f each ids all = all_in_order nat_list_cmp_total (λ string. string) IsUtf8 (filter_map f ids) (all_given IsLawfulId IsUtf8 f each ids all)

  clients_are_sendable : (ids : List IdSpec) → AllByRecursion IsLawfulId ids → IsSendableAuthn (clients_shown config ids)
  clients_are_sendable ids all = record { each_id = all_texts (identity_in config) identity_is ids all; each_suffix = all_texts (suffix_in config) suffix_is ids all }

  authn_is : (authn : AuthnSpec) → IsLawfulAuthnSpec authn → IsSendableAuthn (authn_shown config authn)
  authn_is spec.Anyone is = tt
  authn_is spec.AnyTls is = tt
  authn_is (spec.Clients ids) is = clients_are_sendable ids is

  policy_authn_is : (found : Option (List IdSpec)) → IfSome found (AllByRecursion IsLawfulId) → IsSendableAuthn (policy_authn config found)
  policy_authn_is None is = tt
  policy_authn_is (Some ids) is = clients_are_sendable ids is

-- ---- what a policy refers to

all_v4 : IsLawfulBlock (record { net = record { base = V4 0; bits = 0 }; except = [] })
all_v4 = record { whole = record { base = omega arith; round = record { sized = omega arith; round = refl } }; except = tt }

all_v6 : IsLawfulBlock (record { net = record { base = V6 0; bits = 0 }; except = [] })
all_v6 = record { whole = record { base = omega arith; round = record { sized = omega arith; round = refl } }; except = tt }

everywhere_is : AllByRecursion IsLawfulBlock everywhere
everywhere_is = (all_v4, (all_v6, tt))

ns_is_text : (own : List ℕ) (named : Option (List ℕ)) → IsUtf8 own → IsString named → IsUtf8 (unwrap_or named own)
ns_is_text own None own_text text = own_text
ns_is_text own (Some ns) own_text text = text

ids_of_object : (o : Object) → IsLawful o → AllByRecursion IsLawfulId (ids_in (mesh_authn_found (Some o)))
ids_of_object (objects.MeshTLSAuthentication authn) lawful = lawful.ids
ids_of_object _ lawful = tt

blocks_of_object : (o : Object) → IsLawful o → AllByRecursion IsLawfulBlock (blocks_in (net_authn_found (Some o)))
blocks_of_object (objects.NetworkAuthentication authn) lawful = lawful.blocks
blocks_of_object _ lawful = tt

module _ (held : ObjectMap) (lawful : AreLawfulHeld held) where
  ids_are_lawful : (ns name : List ℕ) (kind : RefKind) → IsUtf8 ns → IsUtf8 name → AllByRecursion IsLawfulId (ids_at held ns name kind)
  ids_are_lawful ns name ref.MeshAuthn ns_text name_text =
      let key = mesh_authn_key ns name in of_found (λ found. AllByRecursion IsLawfulId (ids_in (mesh_authn_found found))) tt ids_of_object (get held key) (lawful key)
  ids_are_lawful ns name ref.ServiceAccount ns_text name_text = ((ns_text, name_text), tt)
  ids_are_lawful ns name _ ns_text name_text = tt

  module _ (own : List ℕ) (own_text : IsUtf8 own) where
    if_clients : (found : Option Ref) → ((need : Ref) → found ≡ Some need → IsLawfulRef need) → IfSome (option_map (λ (need : Ref). ids_at held (ns_of own need) need.name need.kind) found) (AllByRecursion IsLawfulId)
    if_clients None each = tt
    if_clients (Some need) each = let is = each need refl in ids_are_lawful (ns_of own need) need.name need.kind (ns_is_text own need.ns own_text is.ns) is.name

    blocks_or_everywhere : (found : Option Ref) → AllByRecursion IsLawfulBlock (unwrap_or (option_map (λ (need : Ref). blocks_in (net_authn_held held (ns_of own need) need.name)) found) everywhere)
    blocks_or_everywhere None = everywhere_is
    blocks_or_everywhere (Some need) =
        let key = net_authn_key (ns_of own need) need.name in of_found (λ found. AllByRecursion IsLawfulBlock (blocks_in (net_authn_found found))) tt blocks_of_object (get held key) (lawful key)

  -- ---- rows

  module _ (config : Config) (usual : IsLawfulConfig config) where
    policy_is : (policy : AuthzPolicy) → IsLawfulPolicy policy → IfSome (authz_row config held (objects.AuthorizationPolicy policy)) IsSendableAuthz
    policy_is policy is =
        let own = policy.meta.ns in
        let networks_found = find (λ (need : Ref). gives_networks need.kind) policy.needs in
        let clients_found = find (λ (need : Ref). gives_clients need.kind) policy.needs in
        record {
          name = is.meta.name_text;
          blocks = blocks_or_everywhere own is.meta.ns_text networks_found;
          authn = policy_authn_is config usual (option_map (λ (need : Ref). ids_at held (ns_of own need) need.name need.kind) clients_found)
              (if_clients own is.meta.ns_text clients_found (λ need found. found_is IsLawfulRef _ policy.needs need is.refs found));
        }

    row_is : (o : Object) → IsLawful o → IfSome (authz_row config held o) IsSendableAuthz
    row_is (objects.ServerAuthorization authorization) is = record { name = is.meta.name_text; blocks = is.blocks; authn = authn_is config usual authorization.authn is.authn }
    row_is (objects.AuthorizationPolicy policy) is = policy_is policy is
    row_is _ is = tt

    pub authz_is_sendable : (applies : Object → Bool) → AllByRecursion IsSendableAuthz (authz_rows config held applies)
    authz_is_sendable applies = all_given IsLawful IsSendableAuthz (authz_row config held) row_is (filter applies (values held)) (all_kept IsLawful applies (values held) (values_are_lawful held lawful))
