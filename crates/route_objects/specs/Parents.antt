-- The parents of a route.
use Rattle.std.specs.Prelude.{codes, ℕ, List, [], Option, Some, None, Result, Ok, bytes_eq, option_map, if◌then◌else◌}
use Rattle.k8s_meta.specs.Scalars.{name, namespace, number}
use Rattle.k8s_meta.specs.Spots.{Spot, ◌·◌, ◌>>=◌}
use Rattle.k8s_meta.specs.Words.{default, object, optional, required, text}
use Rattle.k8s_meta.specs.declared.fault.ReadFault.{ReadFault}
use Rattle.k8s_meta.specs.declared.key.Key.TheVariants as keys
use Rattle.mesh_text.specs.Groups.{is_core}
use Rattle.view_types.specs.declared.route.Parent.{Parent}
use Rattle.view_types.specs.declared.route.ParentKind.{ParentKind}
use Rattle.view_types.specs.declared.route.ParentKind.TheVariants.{Server, Service}

-- The default group is that of Servers.
abbrev pub server_in : Option (List ℕ) → Option ParentKind
server_in None = Some Server
server_in (Some t) = if bytes_eq t (codes "policy.linkerd.io") then Some Server else None

-- The default group is that of Services.
abbrev pub service_in : Option (List ℕ) → Option ParentKind
service_in None = Some Service
service_in (Some t) = if is_core t then Some Service else None

abbrev pub parent_kind : Option (List ℕ) → List ℕ → Option ParentKind
parent_kind group kind =
    if bytes_eq kind (codes "Server") then server_in group else
    if bytes_eq kind (codes "Service") then service_in group else None

-- A parent in another namespace is not supported.
abbrev pub kind_in : List ℕ → List ℕ → Option ParentKind → Option ParentKind
kind_in own ns kind = if bytes_eq ns own then kind else None

-- a parent, if it is supported
unfoldable pub parent_at : List ℕ → Spot → Result (Option Parent) ReadFault
parent_at own p = do
  p ← object p
  group ← optional text (p · keys.Group)
  kind ← default [] text (p · keys.Kind)
  ns ← default own namespace (p · keys.Namespace)
  name ← required name (p · keys.Name)
  port ← optional (number 1 65535) (p · keys.Port)
  Ok (option_map (λ k. record { kind = k; name = name; port = port }) (kind_in own ns (parent_kind group kind)))
