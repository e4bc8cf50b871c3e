-- The members of a Pod.
use Rattle.std.specs.Prelude.{codes, ◌++◌, Option, None, Result, Ok, false, flat_map, option_to_list, unwrap_or}
use Rattle.net_cidr.specs.declared.ip.Ip.{Ip}
use Rattle.k8s_core.specs.Addresses.{once}
use Rattle.k8s_core.specs.NamedPorts.{port_at}
use Rattle.k8s_core.specs.Probes.{asked, probe_at}
use Rattle.k8s_core.specs.declared.container.Container.{Container}
use Rattle.k8s_meta.specs.Lists.{each, each_some}
use Rattle.k8s_meta.specs.Metadata.{meta_at}
use Rattle.k8s_meta.specs.Scalars.{ip, name}
use Rattle.k8s_meta.specs.Spots.{Spot, ◌·◌, ◌>>=◌}
use Rattle.k8s_meta.specs.Words.{boolean, default, filled, object, optional, part, text}
use Rattle.k8s_meta.specs.declared.fault.ReadFault.{ReadFault}
use Rattle.k8s_meta.specs.declared.key.Key.TheVariants as keys
use Rattle.view_types.specs.declared.pod.Pod.{Pod}

-- the ports of a container, and those of its probes
unfoldable pub container_at : Spot → Result Container ReadFault
container_at c = do
  c ← object c
  ports ← each (port_at keys.ContainerPort) (c · keys.Ports)
  liveness ← probe_at (c · keys.LivenessProbe)
  readiness ← probe_at (c · keys.ReadinessProbe)
  startup ← probe_at (c · keys.StartupProbe)
  Ok (record { ports = ports; probes = (asked ports liveness ++ asked ports readiness) ++ asked ports startup })

-- an entry of a Pod's addresses
unfoldable pub pod_ip_at : Spot → Result (Option Ip) ReadFault
pod_ip_at e = do
  e ← object e
  default None (filled ip) (e · keys.Ip)

unfoldable pub pod_at : Spot → Result Pod ReadFault
pod_at s = do
  meta ← meta_at s
  spec ← part (s · keys.Spec)
  account ← default None (filled name) (spec · keys.ServiceAccountName)
  host_network ← default false boolean (spec · keys.HostNetwork)
  node ← optional text (spec · keys.NodeName)
  containers ← each container_at (spec · keys.Containers)
  status ← part (s · keys.Status)
  phase ← optional text (status · keys.Phase)
  first ← default None (filled ip) (status · keys.PodIp)
  others ← each_some pod_ip_at (status · keys.PodIps)
  Ok (record {
    meta = meta;
    account = unwrap_or account (codes "default");
    host_network = host_network;
    node = node;
    phase = phase;
    addrs = once (option_to_list first ++ others);
    ports = flat_map (λ (c : Container). c.ports) containers;
    probes = flat_map (λ (c : Container). c.probes) containers;
  })
