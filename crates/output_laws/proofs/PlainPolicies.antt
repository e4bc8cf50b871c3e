-- The faults of policies have plain paths.
use Rattle.std.proofs.Common.{ℕ, true, false, List, Option, Some, None, Ok, Err, if◌then◌else◌}
use Rattle.k8s_meta.specs.Spots.{Spot, ◌·◌}
use Rattle.k8s_meta.specs.declared.key.Key.TheVariants as keys
use Rattle.output_laws.proofs.PlainReads.{IsPlainRead, ReadsPlainly, at_member, boolean_plain, choice_plain, default_plain, each_plain, each_some_plain, labels_plain, meta_plain, net_plain, number_reads, object_then, optional_plain, part_then, required_plain, text_plain, then_plain, within_label, within_name}
use Rattle.line_run.specs.Rows.{NoBreak}
use Rattle.k8s_meta.specs.declared.fault.ReadFault.TheVariants as faults
use Rattle.k8s_meta.specs.declared.fault.What.TheVariants as what
use Rattle.policy_objects.specs.Authentications.{mesh_authn_at, net_authn_at}
use Rattle.policy_objects.specs.AuthorizationPolicies.{authz_policy_at}
use Rattle.policy_objects.specs.Blocks.{block_at}
use Rattle.policy_objects.specs.Identities.{account_at, identity_ref_at, written_at}
use Rattle.policy_objects.specs.References.{is_single, ref_at, single}
use Rattle.policy_objects.specs.Selectors.{rule_at, selector_at}
use Rattle.policy_objects.specs.ServerAuthorizations.{authn_at, named_or_chosen, server_authz_at, server_ref_at}
use Rattle.policy_objects.specs.Servers.{server_at}
use Rattle.view_types.specs.declared.authn.Ref.{Ref}
use Rattle.label_select.specs.declared.selector.Selector.{Selector}
use Rattle.mesh_text.specs.PortRefs.{name_or_number, port_name, port_ref_at}
use Rattle.k8s_meta.specs.Words.{string_in}
use Rattle.std.specs.Prelude.{◌==◌, length}
use Rattle.view_types.specs.declared.server.PortRef.TheVariants.{Named}

written_at_plain : ReadsPlainly written_at
written_at_plain s here = then_plain _ _ (text_plain s here) (λ t. tt)

pub ref_at_plain : ReadsPlainly (ref_at)
unfolding ref_at
ref_at_plain r here = object_then r _ here (then_plain _ _ ((default_plain _ text_plain _) (r · keys.Group) (at_member r keys.Group here)) (λ group. then_plain _ _ ((required_plain _ text_plain) (r · keys.Kind) (at_member r keys.Kind here)) (λ kind. then_plain _ _ ((required_plain _ (within_name 253)) (r · keys.Name) (at_member r keys.Name here)) (λ name. then_plain _ _ ((optional_plain _ (within_label 63)) (r · keys.Namespace) (at_member r keys.Namespace here)) (λ ns. tt)))))

identity_ref_at_plain : (own : List ℕ) → ReadsPlainly (identity_ref_at own)
identity_ref_at_plain own s here = then_plain _ _ (ref_at_plain s here) (λ r. tt)

single_plain : (at : List ℕ) (needs : List Ref) → NoBreak at → IsPlainRead (single at needs)
single_plain at needs here = elim (is_single needs) as (λ b. IsPlainRead (if b then Ok needs else Err (faults.BadValue at what.TwoReferences))) [ true ↦ tt | false ↦ here ]

named_plain : (at : List ℕ) (name : Option (List ℕ)) (selector : Option Selector) → NoBreak at → IsPlainRead (named_or_chosen at name selector)
unfolding named_or_chosen
named_plain at (Some name) selector here = tt
named_plain at None (Some selector) here = tt
named_plain at None None here = here

pub block_at_plain : ReadsPlainly (block_at)
unfolding block_at
block_at_plain b here = object_then b _ here (then_plain _ _ ((required_plain _ net_plain) (b · keys.Cidr) (at_member b keys.Cidr here)) (λ whole. then_plain _ _ ((each_plain _ net_plain) (b · keys.Except) (at_member b keys.Except here)) (λ except. tt)))

pub account_at_plain : (own : List ℕ) → ReadsPlainly (account_at own)
unfolding account_at
account_at_plain own a here = object_then a _ here (then_plain _ _ ((required_plain _ (within_name 253)) (a · keys.Name) (at_member a keys.Name here)) (λ name. then_plain _ _ ((default_plain _ (within_label 63) _) (a · keys.Namespace) (at_member a keys.Namespace here)) (λ ns. tt)))

pub rule_at_plain : ReadsPlainly (rule_at)
unfolding rule_at
rule_at_plain r here = object_then r _ here (then_plain _ _ ((required_plain _ text_plain) (r · keys.LabelKey) (at_member r keys.LabelKey here)) (λ key. then_plain _ _ ((required_plain _ (choice_plain _)) (r · keys.Operator) (at_member r keys.Operator here)) (λ op. then_plain _ _ ((each_plain _ text_plain) (r · keys.Values) (at_member r keys.Values here)) (λ values. tt))))

pub selector_at_plain : ReadsPlainly (selector_at)
unfolding selector_at
selector_at_plain s here = object_then s _ here (then_plain _ _ (labels_plain (s · keys.MatchLabels) (at_member s keys.MatchLabels here)) (λ exact. then_plain _ _ ((each_plain _ rule_at_plain) (s · keys.MatchExpressions) (at_member s keys.MatchExpressions here)) (λ rules. tt)))

pub server_ref_at_plain : ReadsPlainly (server_ref_at)
unfolding server_ref_at
server_ref_at_plain s here = then_plain _ _ ((optional_plain _ (within_name 253)) (s · keys.Name) (at_member s keys.Name here)) (λ by_name. then_plain _ _ ((optional_plain _ selector_at_plain) (s · keys.Selector) (at_member s keys.Selector here)) (λ by_labels. named_plain _ by_name by_labels (at_member s keys.Name here)))

pub authn_at_plain : (own : List ℕ) → ReadsPlainly (authn_at own)
unfolding authn_at
authn_at_plain own client here = then_plain _ _ ((default_plain _ boolean_plain _) (client · keys.Unauthenticated) (at_member client keys.Unauthenticated here)) (λ without_tls. part_then (client · keys.MeshTls) _ (at_member client keys.MeshTls here) (then_plain _ _ ((default_plain _ boolean_plain _) ((client · keys.MeshTls) · keys.UnauthenticatedTls) (at_member (client · keys.MeshTls) keys.UnauthenticatedTls (at_member client keys.MeshTls here))) (λ any_tls. then_plain _ _ ((each_plain _ written_at_plain) ((client · keys.MeshTls) · keys.Identities) (at_member (client · keys.MeshTls) keys.Identities (at_member client keys.MeshTls here))) (λ written. then_plain _ _ ((each_plain _ (account_at_plain own)) ((client · keys.MeshTls) · keys.ServiceAccounts) (at_member (client · keys.MeshTls) keys.ServiceAccounts (at_member client keys.MeshTls here))) (λ accounts. tt)))))

pub server_authz_at_plain : ReadsPlainly (server_authz_at)
unfolding server_authz_at
server_authz_at_plain s here = then_plain _ _ ((meta_plain 253) s here) (λ meta. part_then (s · keys.Spec) _ (at_member s keys.Spec here) (part_then ((s · keys.Spec) · keys.Server) _ (at_member (s · keys.Spec) keys.Server (at_member s keys.Spec here)) (then_plain _ _ (server_ref_at_plain ((s · keys.Spec) · keys.Server) (at_member (s · keys.Spec) keys.Server (at_member s keys.Spec here))) (λ server. part_then ((s · keys.Spec) · keys.Client) _ (at_member (s · keys.Spec) keys.Client (at_member s keys.Spec here)) (then_plain _ _ ((each_plain _ block_at_plain) (((s · keys.Spec) · keys.Client) · keys.Networks) (at_member ((s · keys.Spec) · keys.Client) keys.Networks (at_member (s · keys.Spec) keys.Client (at_member s keys.Spec here)))) (λ blocks. then_plain _ _ ((authn_at_plain meta.ns) ((s · keys.Spec) · keys.Client) (at_member (s · keys.Spec) keys.Client (at_member s keys.Spec here))) (λ authn. tt)))))))

pub mesh_authn_at_plain : ReadsPlainly (mesh_authn_at)
unfolding mesh_authn_at
mesh_authn_at_plain s here = then_plain _ _ ((meta_plain 253) s here) (λ meta. part_then (s · keys.Spec) _ (at_member s keys.Spec here) (then_plain _ _ ((each_plain _ written_at_plain) ((s · keys.Spec) · keys.Identities) (at_member (s · keys.Spec) keys.Identities (at_member s keys.Spec here))) (λ written. then_plain _ _ ((each_some_plain _ (identity_ref_at_plain meta.ns)) ((s · keys.Spec) · keys.IdentityRefs) (at_member (s · keys.Spec) keys.IdentityRefs (at_member s keys.Spec here))) (λ referred. tt))))

pub net_authn_at_plain : ReadsPlainly (net_authn_at)
unfolding net_authn_at
net_authn_at_plain s here = then_plain _ _ ((meta_plain 253) s here) (λ meta. part_then (s · keys.Spec) _ (at_member s keys.Spec here) (then_plain _ _ ((each_plain _ block_at_plain) ((s · keys.Spec) · keys.Networks) (at_member (s · keys.Spec) keys.Networks (at_member s keys.Spec here))) (λ blocks. tt)))

pub authz_policy_at_plain : ReadsPlainly (authz_policy_at)
unfolding authz_policy_at
authz_policy_at_plain s here = then_plain _ _ ((meta_plain 253) s here) (λ meta. part_then (s · keys.Spec) _ (at_member s keys.Spec here) (then_plain _ _ ((required_plain _ ref_at_plain) ((s · keys.Spec) · keys.TargetRef) (at_member (s · keys.Spec) keys.TargetRef (at_member s keys.Spec here))) (λ target. then_plain _ _ ((each_plain _ ref_at_plain) ((s · keys.Spec) · keys.RequiredAuthenticationRefs) (at_member (s · keys.Spec) keys.RequiredAuthenticationRefs (at_member s keys.Spec here))) (λ found. then_plain _ _ (single_plain _ found (at_member (s · keys.Spec) keys.RequiredAuthenticationRefs (at_member s keys.Spec here))) (λ needs. tt)))))

port_name_plain : (at t : List ℕ) → NoBreak at → IsPlainRead (port_name at t)
port_name_plain at t here = elim (length t == 0) as (λ b. IsPlainRead (if b then Err (faults.BadValue at what.Shape) else Ok (Named t))) [ true ↦ here | false ↦ tt ]

name_or_number_plain : (s : Spot) (o : Option (List ℕ)) → NoBreak s.at → IsPlainRead (name_or_number s o)
name_or_number_plain s (Some t) here = port_name_plain s.at t here
name_or_number_plain s None here = then_plain _ _ (number_reads 1 65535 s here) (λ n. tt)

pub port_ref_at_plain : ReadsPlainly port_ref_at
unfolding port_ref_at
port_ref_at_plain s here = name_or_number_plain s (string_in s.value) here

pub server_at_plain : ReadsPlainly (server_at)
unfolding server_at
server_at_plain s here = then_plain _ _ ((meta_plain 253) s here) (λ meta. part_then (s · keys.Spec) _ (at_member s keys.Spec here) (then_plain _ _ ((optional_plain _ selector_at_plain) ((s · keys.Spec) · keys.PodSelector) (at_member (s · keys.Spec) keys.PodSelector (at_member s keys.Spec here))) (λ pods. then_plain _ _ ((required_plain _ port_ref_at_plain) ((s · keys.Spec) · keys.Port) (at_member (s · keys.Spec) keys.Port (at_member s keys.Spec here))) (λ port. then_plain _ _ ((default_plain _ (choice_plain _) _) ((s · keys.Spec) · keys.ProxyProtocol) (at_member (s · keys.Spec) keys.ProxyProtocol (at_member s keys.Spec here))) (λ protocol. then_plain _ _ ((default_plain _ (choice_plain _) _) ((s · keys.Spec) · keys.AccessPolicy) (at_member (s · keys.Spec) keys.AccessPolicy (at_member s keys.Spec here))) (λ policy. tt))))))
