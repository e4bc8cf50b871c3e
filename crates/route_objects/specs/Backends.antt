-- The destinations of requests to a route.
use Rattle.std.specs.Prelude.{codes, ℕ, ◌&&◌, Bool, List, [], Option, Result, Ok, bytes_eq, if◌then◌else◌}
use Rattle.k8s_meta.specs.Scalars.{name, namespace, number}
use Rattle.k8s_meta.specs.Spots.{Spot, ◌·◌, ◌>>=◌}
use Rattle.k8s_meta.specs.Words.{default, object, optional, required, some, text}
use Rattle.k8s_meta.specs.declared.fault.ReadFault.{ReadFault}
use Rattle.k8s_meta.specs.declared.key.Key.TheVariants as keys
use Rattle.mesh_text.specs.Groups.{is_core}
use Rattle.view_types.specs.declared.route.BackendRef.{BackendRef}

abbrev pub is_service : List ℕ → List ℕ → Bool
is_service group kind = bytes_eq kind (codes "Service") && is_core group

-- the port, which is required for a Service
unfoldable pub backend_port : Bool → Spot → Result (Option ℕ) ReadFault
backend_port service s = if service then some (required (number 1 65535)) s else optional (number 1 65535) s

unfoldable pub backend_at : List ℕ → Spot → Result BackendRef ReadFault
backend_at own b = do
  b ← object b
  group ← default [] text (b · keys.Group)
  kind ← default (codes "Service") text (b · keys.Kind)
  name ← required name (b · keys.Name)
  ns ← default own namespace (b · keys.Namespace)
  port ← backend_port (is_service group kind) (b · keys.Port)
  weight ← default 1 (number 0 1000000) (b · keys.Weight)
  Ok (record { service = is_service group kind; ns = ns; name = name; port = port; weight = weight })
