-- The members of an AuthorizationPolicy.
use Rattle.std.specs.Prelude.{Result, Ok}
use Rattle.k8s_meta.specs.Lists.{each}
use Rattle.k8s_meta.specs.Metadata.{meta_at}
use Rattle.k8s_meta.specs.Spots.{Spot, ◌·◌, ◌>>=◌}
use Rattle.k8s_meta.specs.Words.{part, required}
use Rattle.k8s_meta.specs.declared.fault.ReadFault.{ReadFault}
use Rattle.k8s_meta.specs.declared.key.Key.TheVariants as keys
use Rattle.policy_objects.specs.References.{ref_at, single}
use Rattle.view_types.specs.declared.authn.AuthzPolicy.{AuthzPolicy}

unfoldable pub authz_policy_at : Spot → Result AuthzPolicy ReadFault
authz_policy_at s = do
  meta ← meta_at s
  spec ← part (s · keys.Spec)
  target ← required ref_at (spec · keys.TargetRef)
  found ← each ref_at (spec · keys.RequiredAuthenticationRefs)
  needs ← single (spec · keys.RequiredAuthenticationRefs).at found
  Ok (record { meta = meta; target = target; needs = needs })
