-- The HTTP probes of a container.
use Rattle.std.specs.Prelude.{codes, ℕ, ◌&&◌, ◌==◌, Bool, List, [], ◌∷◌, Option, Some, None, Result, Ok, bytes_eq, flat_map, length, if◌then◌else◌}
use Rattle.std.specs.List.{before_first}
use Rattle.k8s_core.specs.declared.probe.HttpGet.{HttpGet}
use Rattle.k8s_meta.specs.Spots.{Spot, ◌·◌, ◌>>=◌}
use Rattle.k8s_meta.specs.Words.{default, object, optional, part, required, text}
use Rattle.k8s_meta.specs.declared.fault.ReadFault.{ReadFault}
use Rattle.k8s_meta.specs.declared.key.Key.TheVariants as keys
use Rattle.mesh_text.specs.PortRefs.{port_ref_at}
use Rattle.view_types.specs.declared.server.PortRef.{PortRef}
use Rattle.view_types.specs.declared.server.PortRef.TheVariants.{Number, Named}
use Rattle.view_types.specs.declared.service.NamedPort.{NamedPort}

-- ---- the request

abbrev pub is_question_mark : ℕ → Bool
is_question_mark byte = byte == 63

abbrev pub or_root : List ℕ → List ℕ
or_root path = if length path == 0 then codes "/" else path

-- the part before the first `?`, or `/` if that is empty
abbrev pub path_in : List ℕ → List ℕ
path_in target = or_root (before_first is_question_mark target)

unfoldable pub http_get_at : Spot → Result HttpGet ReadFault
http_get_at g = do
  g ← object g
  target ← default [] text (g · keys.Path)
  port ← required port_ref_at (g · keys.Port)
  Ok (record { port = port; path = path_in target })

-- none if it is not an HTTP probe
unfoldable pub probe_at : Spot → Result (Option HttpGet) ReadFault
probe_at p = do
  p ← part p
  optional http_get_at (p · keys.HttpGet)

-- ---- the requested ports

-- the number of a TCP port with the name, with the path
abbrev pub at_named : List ℕ → List ℕ → NamedPort → List (ℕ × List ℕ)
at_named name path port = if port.tcp && bytes_eq port.name name then (port.port, path) ∷ [] else []

-- the port with the number, or each TCP port of the container with the name
abbrev pub at_port : List NamedPort → List ℕ → PortRef → List (ℕ × List ℕ)
at_port ports path (Number port) = (port, path) ∷ []
at_port ports path (Named name) = flat_map (at_named name path) ports

abbrev pub asked : List NamedPort → Option HttpGet → List (ℕ × List ℕ)
asked ports None = []
asked ports (Some get) = at_port ports get.path get.port
