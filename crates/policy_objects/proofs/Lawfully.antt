-- Each policy object that was read is lawful.
use Rattle.std.proofs.Common.{◌≡◌, ◌≤◌, ◌++◌, ◌&&◌, ◌==◌, ℕ, Bool, true, false, List, Option, Some, None, Ok, Err, nat_le, length, if◌then◌else◌, refl, subst, arith}
use Rattle.std.proofs.lemmas.Bool.Decides.{nat_tests}
use Rattle.std.specs.List.{AllByRecursion}
use Rattle.std.specs.Prelude.{unwrap_or}
use Rattle.std.specs.Str.{IsUtf8}
use Rattle.net_cidr.specs.declared.block.Block.{Block}
use Rattle.net_cidr.specs.declared.ip.Ip.TheVariants.{V4, V6}
use Rattle.k8s_meta.specs.Given.{GivesOnly}
use Rattle.k8s_meta.specs.Lawful.{IsString}
use Rattle.k8s_meta.specs.Scalars.{name, net}
use Rattle.k8s_meta.specs.declared.fault.What.TheVariants as what
use Rattle.k8s_meta.specs.declared.fault.ReadFault.TheVariants as faults
use Rattle.k8s_meta.proofs.Given.{after, last, required_gives, same_value}
use Rattle.k8s_meta.proofs.GivenLists.{IfThere, all-append, each_gives, each_some_gives}
use Rattle.k8s_meta.proofs.GivenMeta.{meta_gives}
use Rattle.k8s_meta.proofs.GivenNets.{base_gives, net_gives}
use Rattle.k8s_meta.proofs.GivenTexts.{name_utf8, namespace_or_gives, some_namespace_gives, text_gives}
use Rattle.mesh_text.proofs.PortRefs.{port_ref_gives}
use Rattle.mesh_text.specs.PortRefs.{port_ref_at}
use Rattle.policy_objects.specs.Authentications.{mesh_authn_at, net_authn_at}
use Rattle.policy_objects.specs.AuthorizationPolicies.{authz_policy_at}
use Rattle.policy_objects.specs.Blocks.{all_blocks, block_at, blocks_or_all, family_block}
use Rattle.policy_objects.specs.Identities.{account_at, identity_by, identity_of, identity_ref_at, written_at}
use Rattle.policy_objects.specs.References.{is_single, ref_at, single}
use Rattle.policy_objects.specs.ServerAuthorizations.{authn_at, authn_of, server_authz_at}
use Rattle.policy_objects.specs.Servers.{server_at}
use Rattle.view_types.specs.Lawful.{AreLawfulNeeds, IsLawfulAuthnSpec, IsLawfulBlock, IsLawfulId, IsLawfulMeshAuthn, IsLawfulNet, IsLawfulNetAuthn, IsLawfulPolicy, IsLawfulPortRef, IsLawfulRef, IsLawfulServer, IsLawfulServerAuthz, count_of, gives_clients, gives_networks}
use Rattle.view_types.specs.declared.authn.IdSpec.{IdSpec}
use Rattle.view_types.specs.declared.authn.IdSpec.TheVariants as ids
use Rattle.view_types.specs.declared.authn.Ref.{Ref}
use Rattle.view_types.specs.declared.authn.RefKind.{RefKind}
use Rattle.view_types.specs.declared.authn.RefKind.TheVariants as kinds

-- ---- networks

lawful_net_gives : GivesOnly IsLawfulNet net
lawful_net_gives s n e = record { base = base_gives s n e; round = net_gives s n e }

block_gives : GivesOnly IsLawfulBlock block_at
unfolding block_at
block_gives s = after IsLawfulBlock _ _ (λ b _. after IsLawfulBlock _ _ (λ whole is. after IsLawfulBlock _ _ (λ except are. last IsLawfulBlock _ (record {
  whole = required_gives IsLawfulNet net lawful_net_gives _ whole is;
  except = each_gives IsLawfulNet net lawful_net_gives _ except are;
}))))

lawful_v4 : IsLawfulBlock (family_block (V4 0))
lawful_v4 = record { whole = record { base = omega arith; round = record { sized = omega arith; round = refl } }; except = tt }

lawful_v6 : IsLawfulBlock (family_block (V6 0))
lawful_v6 = record { whole = record { base = omega arith; round = record { sized = omega arith; round = refl } }; except = tt }

lawful_or_all : (blocks : List Block) → AllByRecursion IsLawfulBlock blocks → AllByRecursion IsLawfulBlock (blocks_or_all blocks)
unfolding blocks_or_all
lawful_or_all blocks are = cases (length blocks == 0)
  where
    cases : (b : Bool) → AllByRecursion IsLawfulBlock (if b then all_blocks else blocks)
    cases true = (lawful_v4, (lawful_v6, tt))
    cases false = are

-- ---- references

ref_gives : GivesOnly IsLawfulRef ref_at
unfolding ref_at
ref_gives s = after IsLawfulRef _ _ (λ r _. after IsLawfulRef _ _ (λ group _. after IsLawfulRef _ _ (λ kind _. after IsLawfulRef _ _ (λ called is. after IsLawfulRef _ _ (λ ns is_ns.
    last IsLawfulRef _ (record { ns = some_namespace_gives _ ns is_ns; name = required_gives IsUtf8 name (name_utf8 253) _ called is }))))))

first_at_most : (a b : ℕ) → (nat_le a 1 && nat_le b 1) ≡ true → a ≤ 1
first_at_most a b e = grind (arith, nat_tests)

last_at_most : (a b : ℕ) → (nat_le a 1 && nat_le b 1) ≡ true → b ≤ 1
last_at_most a b e = grind (arith, nat_tests)

lawful_needs : (needs : List Ref) → is_single needs ≡ true → AreLawfulNeeds needs
lawful_needs needs is = record {
  networks = first_at_most (count_of gives_networks needs) (count_of gives_clients needs) is;
  clients = last_at_most (count_of gives_networks needs) (count_of gives_clients needs) is;
}

single_gives : (at : List ℕ) (found needs : List Ref) → single at found ≡ Ok needs → AreLawfulNeeds needs × (found ≡ needs)
single_gives at found needs e = cases (is_single found) refl e
  where
    cases : (b : Bool) → is_single found ≡ b → (if b then Ok found else Err (faults.BadValue at what.TwoReferences)) ≡ Ok needs → AreLawfulNeeds needs × (found ≡ needs)
    cases true is f = let same = same_value found needs f in (subst AreLawfulNeeds same (lawful_needs found is), same)
    cases false is f = absurd cc

-- ---- identities

written_gives : GivesOnly IsLawfulId written_at
written_gives s = after IsLawfulId _ _ (λ t is. last IsLawfulId (ids.Written t) (text_gives s t is))

module _ (own : List ℕ) (own_text : IsUtf8 own) where
  account_gives : GivesOnly IsLawfulId (account_at own)
  unfolding account_at
  account_gives s = after IsLawfulId _ _ (λ a _. after IsLawfulId _ _ (λ called is. after IsLawfulId _ _ (λ ns is_ns.
      last IsLawfulId (ids.Account ns called) (namespace_or_gives own own_text _ ns is_ns, required_gives IsUtf8 name (name_utf8 253) _ called is))))

  by_kind : (kind : RefKind) (ns called : List ℕ) → IsUtf8 ns → IsUtf8 called → IfThere IsLawfulId (identity_by kind ns called)
  by_kind kinds.ServiceAccount ns called is_ns is = (is_ns, is)
  by_kind kinds.Namespace ns called is_ns is = is
  by_kind _ ns called is_ns is = tt

  or_own : (ns : Option (List ℕ)) → IsString ns → IsUtf8 (unwrap_or ns own)
  or_own None is = own_text
  or_own (Some t) is = is

  identity_ref_gives : GivesOnly (IfThere IsLawfulId) (identity_ref_at own)
  identity_ref_gives s = after (IfThere IsLawfulId) _ _ (λ r is. let lawful = ref_gives s r is in
      last (IfThere IsLawfulId) (identity_of own r) (by_kind r.kind (unwrap_or r.ns own) r.name (or_own r.ns lawful.ns) lawful.name))

  one_of : (without_tls any_tls : Bool) (all : List IdSpec) → AllByRecursion IsLawfulId all → IsLawfulAuthnSpec (authn_of without_tls any_tls all)
  unfolding authn_of
  one_of true any_tls all are = tt
  one_of false true all are = tt
  one_of false false all are = are

  authn_gives : GivesOnly IsLawfulAuthnSpec (authn_at own)
  unfolding authn_at
  authn_gives s = after IsLawfulAuthnSpec _ _ (λ without_tls _. after IsLawfulAuthnSpec _ _ (λ tls _. after IsLawfulAuthnSpec _ _ (λ any_tls _. after IsLawfulAuthnSpec _ _ (λ written are. after IsLawfulAuthnSpec _ _ (λ accounts others.
      last IsLawfulAuthnSpec _ (one_of without_tls any_tls (written ++ accounts)
      (all-append IsLawfulId written accounts (each_gives IsLawfulId written_at written_gives _ written are) (each_gives IsLawfulId (account_at own) account_gives _ accounts others))))))))

-- ---- objects

pub server_gives : GivesOnly IsLawfulServer server_at
unfolding server_at
server_gives s = after IsLawfulServer _ _ (λ meta is_meta. after IsLawfulServer _ _ (λ spec _. after IsLawfulServer _ _ (λ pods _. after IsLawfulServer _ _ (λ port is_port.
    after IsLawfulServer _ _ (λ protocol _. after IsLawfulServer _ _ (λ policy _. last IsLawfulServer _ (record {
      meta = meta_gives 253 _ meta is_meta;
      port = required_gives IsLawfulPortRef port_ref_at (port_ref_gives IsLawfulPortRef (λ n is. is) (λ t is. is)) _ port is_port;
    })))))))

pub server_authz_gives : GivesOnly IsLawfulServerAuthz server_authz_at
unfolding server_authz_at
server_authz_gives s = after IsLawfulServerAuthz _ _ (λ meta is_meta. after IsLawfulServerAuthz _ _ (λ spec _. after IsLawfulServerAuthz _ _ (λ target _. after IsLawfulServerAuthz _ _ (λ server _.
    after IsLawfulServerAuthz _ _ (λ client _. after IsLawfulServerAuthz _ _ (λ blocks are. after IsLawfulServerAuthz _ _ (λ authn is. let lawful = meta_gives 253 _ meta is_meta in last IsLawfulServerAuthz _ (record {
      meta = lawful;
      blocks = lawful_or_all blocks (each_gives IsLawfulBlock block_at block_gives _ blocks are);
      authn = authn_gives meta.ns lawful.ns_text _ authn is;
    }))))))))

pub authz_policy_gives : GivesOnly IsLawfulPolicy authz_policy_at
unfolding authz_policy_at
authz_policy_gives s = after IsLawfulPolicy _ _ (λ meta is_meta. after IsLawfulPolicy _ _ (λ spec _. after IsLawfulPolicy _ _ (λ target _. after IsLawfulPolicy _ _ (λ found are.
    after IsLawfulPolicy _ _ (λ needs is. let one = single_gives _ found needs is in last IsLawfulPolicy _ (record {
      meta = meta_gives 253 _ meta is_meta;
      needs = one.0;
      refs = subst (AllByRecursion IsLawfulRef) one.1 (each_gives IsLawfulRef ref_at ref_gives _ found are);
    }))))))

pub mesh_authn_gives : GivesOnly IsLawfulMeshAuthn mesh_authn_at
unfolding mesh_authn_at
mesh_authn_gives s = after IsLawfulMeshAuthn _ _ (λ meta is_meta. after IsLawfulMeshAuthn _ _ (λ spec _. after IsLawfulMeshAuthn _ _ (λ written are. after IsLawfulMeshAuthn _ _ (λ referred others.
    let lawful = meta_gives 253 _ meta is_meta in last IsLawfulMeshAuthn _ (record {
      meta = lawful;
      ids = all-append IsLawfulId written referred (each_gives IsLawfulId written_at written_gives _ written are)
          (each_some_gives IsLawfulId (identity_ref_at meta.ns) (identity_ref_gives meta.ns lawful.ns_text) _ referred others);
    })))))

pub net_authn_gives : GivesOnly IsLawfulNetAuthn net_authn_at
unfolding net_authn_at
net_authn_gives s = after IsLawfulNetAuthn _ _ (λ meta is_meta. after IsLawfulNetAuthn _ _ (λ spec _. after IsLawfulNetAuthn _ _ (λ blocks are. last IsLawfulNetAuthn _ (record {
  meta = meta_gives 253 _ meta is_meta;
  blocks = each_gives IsLawfulBlock block_at block_gives _ blocks are;
}))))
