-- Named ports.
use Rattle.std.specs.Prelude.{codes, [], Option, Result, Ok, bytes_eq, option_map}
use Rattle.k8s_meta.specs.Scalars.{number}
use Rattle.k8s_meta.specs.Spots.{Spot, ◌·◌, ◌>>=◌}
use Rattle.k8s_meta.specs.Words.{default, object, optional, required, text}
use Rattle.k8s_meta.specs.declared.fault.ReadFault.{ReadFault}
use Rattle.k8s_meta.specs.declared.key.Key.{Key}
use Rattle.k8s_meta.specs.declared.key.Key.TheVariants as keys
use Rattle.view_types.specs.declared.service.NamedPort.{NamedPort}

-- a port, whose number is the member under the key
unfoldable pub port_at : Key → Spot → Result NamedPort ReadFault
port_at key p = do
  p ← object p
  name ← default [] text (p · keys.Name)
  port ← required (number 1 65535) (p · key)
  protocol ← default (codes "TCP") text (p · keys.Protocol)
  Ok (record { name = name; port = port; tcp = bytes_eq protocol (codes "TCP") })

-- a port of a slice, or none if it has no number
unfoldable pub slice_port_at : Spot → Result (Option NamedPort) ReadFault
slice_port_at p = do
  p ← object p
  name ← default [] text (p · keys.Name)
  port ← optional (number 1 65535) (p · keys.Port)
  protocol ← default (codes "TCP") text (p · keys.Protocol)
  Ok (option_map (λ n. record { name = name; port = n; tcp = bytes_eq protocol (codes "TCP") }) port)
