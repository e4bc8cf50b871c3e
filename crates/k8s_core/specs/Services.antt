-- The members of a Service.
use Rattle.std.specs.Prelude.{codes, ◌++◌, None, Result, Ok, option_to_list, bytes_eq}
use Rattle.k8s_core.specs.Addresses.{cluster_ip, once}
use Rattle.k8s_core.specs.NamedPorts.{port_at}
use Rattle.k8s_meta.specs.Lists.{each, each_some}
use Rattle.k8s_meta.specs.Metadata.{meta_at}
use Rattle.k8s_meta.specs.Spots.{Spot, ◌·◌, ◌>>=◌}
use Rattle.k8s_meta.specs.Words.{default, part, text}
use Rattle.k8s_meta.specs.declared.fault.ReadFault.{ReadFault}
use Rattle.k8s_meta.specs.declared.key.Key.TheVariants as keys
use Rattle.view_types.specs.declared.service.Service.{Service}

unfoldable pub service_at : Spot → Result Service ReadFault
service_at s = do
  meta ← meta_at s
  spec ← part (s · keys.Spec)
  kind ← default (codes "ClusterIP") text (spec · keys.Type)
  first ← default None cluster_ip (spec · keys.ClusterIp)
  others ← each_some cluster_ip (spec · keys.ClusterIps)
  ports ← each (port_at keys.Port) (spec · keys.Ports)
  Ok (record { meta = meta; external = bytes_eq kind (codes "ExternalName"); addrs = once (option_to_list first ++ others); ports = ports })
