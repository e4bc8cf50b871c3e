-- The Server of a Pod's port: the one with the least name among those of the namespace that select the Pod and the port.
use Rattle.std.specs.Prelude.{◌&&◌, ◌==◌, ℕ, Bool, false, List, Option, Some, None, find}
use Rattle.std.specs.FinMap.{values}
use Rattle.std.specs.List.{list_any}
use Rattle.std.specs.Str.{bytes_eq}
use Rattle.label_select.specs.declared.selector.Selector.{Selector}
use Rattle.view_types.specs.Objects.{ObjectMap}
use Rattle.view_types.specs.declared.object.Object.{Object}
use Rattle.view_types.specs.declared.object.Object.TheVariants as object
use Rattle.view_types.specs.declared.pod.Pod.{Pod}
use Rattle.view_types.specs.declared.server.PortRef.{PortRef}
use Rattle.view_types.specs.declared.server.PortRef.TheVariants.{Number, Named}
use Rattle.view_types.specs.declared.server.ServerSpec.{ServerSpec}
use Rattle.view_types.specs.declared.service.NamedPort.{NamedPort}
use Rattle.view_rules.specs.Selects.{selects}

-- a Server without a podSelector selects no Pod
abbrev pub selects_pod : Option Selector → Pod → Bool
selects_pod None pod = false
selects_pod (Some selector) pod = selects selector pod.meta.labels

-- a TCP port of the name and number
abbrev pub is_named : List ℕ → ℕ → NamedPort → Bool
is_named name number port = port.tcp && bytes_eq port.name name && (port.port == number)

-- the port has the number, or a TCP container port has the name and the number
abbrev pub selects_port : PortRef → Pod → ℕ → Bool
selects_port (Number port) pod number = port == number
selects_port (Named name) pod number = list_any (is_named name number) pod.ports

abbrev pub is_for_port : List ℕ → Pod → ℕ → ServerSpec → Bool
is_for_port ns pod number server = bytes_eq server.meta.ns ns && selects_pod server.pods pod && selects_port server.port pod number

abbrev pub is_server_for : List ℕ → Pod → ℕ → Object → Bool
is_server_for ns pod number (object.Server server) = is_for_port ns pod number server
is_server_for ns pod number _ = false

abbrev pub as_server : Object → Option ServerSpec
as_server (object.Server server) = Some server
as_server _ = None

abbrev pub server_found : Option Object → Option ServerSpec
server_found None = None
server_found (Some o) = as_server o

-- The Servers of a namespace are in the order of their names, so that the first is the least.
abbrev pub chosen_server : ObjectMap → List ℕ → Pod → ℕ → Option ServerSpec
chosen_server held ns pod number = server_found (find (is_server_for ns pod number) (values held))
