-- The members of an EndpointSlice.
use Rattle.std.specs.Prelude.{codes, ℕ, List, [], Option, Some, None, Result, Ok, true, bytes_eq, if◌then◌else◌}
use Rattle.net_cidr.specs.Address.{ip_of}
use Rattle.net_cidr.specs.declared.ip.Ip.{Ip}
use Rattle.net_cidr.specs.declared.ip.Ip.TheVariants as ips
use Rattle.k8s_core.specs.NamedPorts.{slice_port_at}
use Rattle.k8s_meta.specs.Lists.{each, each_some}
use Rattle.k8s_meta.specs.Metadata.{meta_at}
use Rattle.k8s_meta.specs.Scalars.{name, namespace}
use Rattle.k8s_meta.specs.Spots.{Spot, ◌·◌, ◌>>=◌}
use Rattle.k8s_meta.specs.Words.{boolean, choice, default, object, part, required, text, valid}
use Rattle.k8s_meta.specs.declared.fault.ReadFault.{ReadFault}
use Rattle.k8s_meta.specs.declared.fault.What.TheVariants as what
use Rattle.k8s_meta.specs.declared.key.Key.TheVariants as keys
use Rattle.view_types.specs.declared.slice.Family.{Family}
use Rattle.view_types.specs.declared.slice.Family.TheVariants.{V4, V6, Fqdn}
use Rattle.view_types.specs.declared.slice.Point.{Point}
use Rattle.view_types.specs.declared.slice.Slice.{Slice}

abbrev pub family_of : List ℕ → Option Family
family_of t =
    if bytes_eq t (codes "IPv4") then Some V4 else
    if bytes_eq t (codes "IPv6") then Some V6 else
    if bytes_eq t (codes "FQDN") then Some Fqdn else None

-- an address of the family, or none for a host name
abbrev pub in_family : Family → Option Ip → Option (Option Ip)
in_family Fqdn ip = Some None
in_family V4 (Some (ips.V4 n)) = Some (Some (ips.V4 n))
in_family V6 (Some (ips.V6 n)) = Some (Some (ips.V6 n))
in_family _ _ = None

unfoldable pub address_at : Family → Spot → Result (Option Ip) ReadFault
address_at family s = text s >>= λ t. valid s.at what.Address (in_family family (ip_of t))

-- the namespace and name of the Pod
abbrev pub pod_name_at : List ℕ → Spot → Result (Option (List ℕ × List ℕ)) ReadFault
pod_name_at own t = do
  name ← required name (t · keys.Name)
  ns ← default own namespace (t · keys.Namespace)
  Ok (Some (ns, name))

-- Another kind is no target, and its name is not read.
unfoldable pub target_at : List ℕ → Spot → Result (Option (List ℕ × List ℕ)) ReadFault
target_at own t = do
  kind ← default [] text (t · keys.Kind)
  if bytes_eq kind (codes "Pod") then pod_name_at own t else Ok None

unfoldable pub point_at : Family → List ℕ → Spot → Result Point ReadFault
point_at family own p = do
  p ← object p
  addrs ← each_some (address_at family) (p · keys.Addresses)
  conditions ← part (p · keys.Conditions)
  ready ← default true boolean (conditions · keys.Ready)
  target ← part (p · keys.TargetRef)
  pod ← target_at own target
  Ok (record { addrs = addrs; ready = ready; pod = pod })

unfoldable pub slice_at : Spot → Result Slice ReadFault
slice_at s = do
  meta ← meta_at s
  family ← required (choice family_of) (s · keys.AddressType)
  points ← each (point_at family meta.ns) (s · keys.Endpoints)
  ports ← each_some slice_port_at (s · keys.Ports)
  Ok (record { meta = meta; family = family; points = points; ports = ports })
