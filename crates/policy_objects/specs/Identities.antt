-- The identities of clients.
use Rattle.std.specs.Prelude.{ℕ, List, Option, Some, None, Result, Ok, unwrap_or}
use Rattle.k8s_meta.specs.Scalars.{name, namespace}
use Rattle.k8s_meta.specs.Spots.{Spot, ◌·◌, ◌>>=◌}
use Rattle.k8s_meta.specs.Words.{default, object, required, text}
use Rattle.k8s_meta.specs.declared.fault.ReadFault.{ReadFault}
use Rattle.k8s_meta.specs.declared.key.Key.TheVariants as keys
use Rattle.policy_objects.specs.References.{ref_at}
use Rattle.view_types.specs.declared.authn.IdSpec.{IdSpec}
use Rattle.view_types.specs.declared.authn.IdSpec.TheVariants as ids
use Rattle.view_types.specs.declared.authn.Ref.{Ref}
use Rattle.view_types.specs.declared.authn.RefKind.{RefKind}
use Rattle.view_types.specs.declared.authn.RefKind.TheVariants as kinds

-- an identity, as written in an object
abbrev pub written_at : Spot → Result IdSpec ReadFault
written_at s = text s >>= λ t. Ok (ids.Written t)

-- a service account; the default namespace is that of the object
unfoldable pub account_at : List ℕ → Spot → Result IdSpec ReadFault
account_at own a = do
  a ← object a
  name ← required name (a · keys.Name)
  ns ← default own namespace (a · keys.Namespace)
  Ok (ids.Account ns name)

-- a service account, or all those of a namespace; none for other kinds
abbrev pub identity_by : RefKind → List ℕ → List ℕ → Option IdSpec
identity_by kinds.ServiceAccount ns name = Some (ids.Account ns name)
identity_by kinds.Namespace ns name = Some (ids.Namespace name)
identity_by _ ns name = None

abbrev pub identity_of : List ℕ → Ref → Option IdSpec
identity_of own r = identity_by r.kind (unwrap_or r.ns own) r.name

abbrev pub identity_ref_at : List ℕ → Spot → Result (Option IdSpec) ReadFault
identity_ref_at own s = ref_at s >>= λ r. Ok (identity_of own r)
