-- The members of a MeshTLSAuthentication and of a NetworkAuthentication.
use Rattle.std.specs.Prelude.{◌++◌, Result, Ok}
use Rattle.k8s_meta.specs.Lists.{each, each_some}
use Rattle.k8s_meta.specs.Metadata.{meta_at}
use Rattle.k8s_meta.specs.Spots.{Spot, ◌·◌, ◌>>=◌}
use Rattle.k8s_meta.specs.Words.{part}
use Rattle.k8s_meta.specs.declared.fault.ReadFault.{ReadFault}
use Rattle.k8s_meta.specs.declared.key.Key.TheVariants as keys
use Rattle.policy_objects.specs.Blocks.{block_at}
use Rattle.policy_objects.specs.Identities.{identity_ref_at, written_at}
use Rattle.view_types.specs.declared.authn.MeshAuthn.{MeshAuthn}
use Rattle.view_types.specs.declared.authn.NetAuthn.{NetAuthn}

unfoldable pub mesh_authn_at : Spot → Result MeshAuthn ReadFault
mesh_authn_at s = do
  meta ← meta_at s
  spec ← part (s · keys.Spec)
  written ← each written_at (spec · keys.Identities)
  referred ← each_some (identity_ref_at meta.ns) (spec · keys.IdentityRefs)
  Ok (record { meta = meta; ids = written ++ referred })

-- without networks it contains no address
unfoldable pub net_authn_at : Spot → Result NetAuthn ReadFault
net_authn_at s = do
  meta ← meta_at s
  spec ← part (s · keys.Spec)
  blocks ← each block_at (spec · keys.Networks)
  Ok (record { meta = meta; blocks = blocks })
