-- The members of a Server.
use Rattle.std.specs.Prelude.{Result, Ok}
use Rattle.k8s_meta.specs.Metadata.{meta_at}
use Rattle.k8s_meta.specs.Spots.{Spot, ◌·◌, ◌>>=◌}
use Rattle.k8s_meta.specs.Words.{choice, default, optional, part, required}
use Rattle.k8s_meta.specs.declared.fault.ReadFault.{ReadFault}
use Rattle.k8s_meta.specs.declared.key.Key.TheVariants as keys
use Rattle.mesh_text.specs.PolicyWords.{policy_of}
use Rattle.mesh_text.specs.PortRefs.{port_ref_at}
use Rattle.policy_objects.specs.ProtocolWords.{protocol_of}
use Rattle.policy_objects.specs.Selectors.{selector_at}
use Rattle.view_types.specs.declared.policy.Policy.TheVariants.{Deny}
use Rattle.view_types.specs.declared.policy.Protocol.TheVariants.{Unknown}
use Rattle.view_types.specs.declared.server.ServerSpec.{ServerSpec}

unfoldable pub server_at : Spot → Result ServerSpec ReadFault
server_at s = do
  meta ← meta_at s
  spec ← part (s · keys.Spec)
  pods ← optional selector_at (spec · keys.PodSelector)
  port ← required port_ref_at (spec · keys.Port)
  protocol ← default Unknown (choice protocol_of) (spec · keys.ProxyProtocol)
  policy ← default Deny (choice policy_of) (spec · keys.AccessPolicy)
  Ok (record { meta = meta; pods = pods; port = port; protocol = protocol; policy = policy })
