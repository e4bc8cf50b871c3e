-- The members of a subscription's query.
use Rattle.std.specs.Prelude.{ℕ, List, Option, Some, None, Result, Ok, bytes_eq, codes, option_and_then, if◌then◌else◌}
use Rattle.k8s_meta.specs.Scalars.{number}
use Rattle.k8s_meta.specs.Spots.{Spot, ◌·◌, ◌>>=◌}
use Rattle.k8s_meta.specs.Words.{default, required, text, valid}
use Rattle.k8s_meta.specs.declared.fault.ReadFault.{ReadFault}
use Rattle.k8s_meta.specs.declared.fault.What.TheVariants as what
use Rattle.k8s_meta.specs.declared.key.Key.TheVariants as keys
use Rattle.mesh_text.specs.Contexts.{context_of}
use Rattle.mesh_text.specs.Targets.{target_of}
use Rattle.mesh_text.specs.Workloads.{workload_of}
use Rattle.view_types.specs.declared.config.Config.{Config}
use Rattle.view_types.specs.declared.query.Context.{Context}
use Rattle.view_types.specs.declared.query.Method.{Method}
use Rattle.view_types.specs.declared.query.Method.TheVariants as methods
use Rattle.view_types.specs.declared.query.PodPort.{PodPort}
use Rattle.view_types.specs.declared.query.Query.{Query}
use Rattle.view_types.specs.declared.query.Query.TheVariants as queries
use Rattle.view_types.specs.declared.query.Target.{Target}
use Rattle.view_types.specs.declared.query.Target.TheVariants.{Service, Address}
use Rattle.watch_events.specs.declared.query.ServicePort.{ServicePort}

-- the names of methods
unfoldable pub method_of : List ℕ → Option Method
method_of t =
    if bytes_eq t (codes "Get") then Some methods.Get else
    if bytes_eq t (codes "GetProfile") then Some methods.GetProfile else
    if bytes_eq t (codes "WatchPort") then Some methods.WatchPort else
    if bytes_eq t (codes "Watch") then Some methods.Watch else
    if bytes_eq t (codes "WatchPort2") then Some methods.WatchPort2 else None

-- An address is not a port of a Service.
abbrev pub service_port : Target → Option ServicePort
service_port (Service ns name port) = Some (record { ns = ns; name = name; port = port })
service_port (Address ip port) = None

-- any target
unfoldable pub target_at : Config → Spot → Result Target ReadFault
target_at config s = text s >>= λ t. valid s.at what.Choice (target_of config t)

-- a target that is a port of a Service
unfoldable pub service_port_at : Config → Spot → Result ServicePort ReadFault
service_port_at config s = text s >>= λ t. valid s.at what.Choice (option_and_then service_port (target_of config t))

-- the namespace and the name of a Pod
unfoldable pub workload_at : Spot → Result (List ℕ × List ℕ) ReadFault
workload_at s = text s >>= λ t. valid s.at what.Choice (workload_of t)

unfoldable pub context_at : Spot → Result Context ReadFault
context_at s = text s >>= λ t. Ok (context_of t)

abbrev pub no_context : Context
no_context = record { ns = None; node = None }

-- the endpoints of a port of a Service
unfoldable pub get_at : Config → Spot → Result Query ReadFault
get_at config q = do
  target ← required (service_port_at config) (q · keys.Path)
  ctx ← default no_context context_at (q · keys.Token)
  Ok (queries.Get target.ns target.name target.port ctx)

-- the profile of a target
unfoldable pub profile_at : Config → Spot → Result Query ReadFault
profile_at config q = do
  target ← required (target_at config) (q · keys.Path)
  ctx ← default no_context context_at (q · keys.Token)
  Ok (queries.Profile target ctx)

-- a port of a Pod
unfoldable pub port_at : Spot → Result PodPort ReadFault
port_at q = do
  pod ← required workload_at (q · keys.Workload)
  port ← required (number 1 65535) (q · keys.Port)
  Ok (record { ns = pod.0; pod = pod.1; port = port })

-- its policy, sent whole or by what changes
unfoldable pub policy_at : (PodPort → Query) → Spot → Result Query ReadFault
policy_at ask q = port_at q >>= λ port. Ok (ask port)

-- the destination of traffic to a target
unfoldable pub traffic_at : Config → Spot → Result Query ReadFault
traffic_at config q = do
  target ← required (target_at config) (q · keys.Path)
  Ok (queries.Traffic target)
