-- The query of `diagnose`. Options that its method does not need are ignored.
use Rattle.std.specs.Prelude.{List, [], Option, Some, None, unwrap_or}
use Rattle.clap.specs.Words.{Row}
use Rattle.mesh_text.specs.Contexts.{context_of}
use Rattle.mesh_text.specs.Targets.{target_of}
use Rattle.mesh_text.specs.Workloads.{workload_of}
use Rattle.view_types.specs.Ports.{query_by_rows, query_whole}
use Rattle.view_types.specs.declared.config.Config.{Config}
use Rattle.view_types.specs.declared.query.Context.{Context}
use Rattle.view_types.specs.declared.query.Method.{Method}
use Rattle.view_types.specs.declared.query.Method.TheVariants as methods
use Rattle.view_types.specs.declared.query.PodPort.{PodPort}
use Rattle.view_types.specs.declared.query.Query.{Query}
use Rattle.view_types.specs.declared.query.Query.TheVariants as queries
use Rattle.view_types.specs.declared.query.Target.{Target}
use Rattle.view_types.specs.declared.query.Target.TheVariants.{Service, Address}
use Rattle.command_words.specs.Arguments.{text_at}
use Rattle.command_words.specs.Gives.{◌>>=◌, needed}
use Rattle.command_words.specs.Numbers.{number_within}
use Rattle.command_words.specs.declared.argument.Argument.TheVariants as arguments

-- An absent context token counts as an empty one.
unfoldable pub context_in : List Row → Context
context_in rows = context_of (unwrap_or (text_at arguments.Token rows) [])

-- `Get` needs a target that is a Service port; an address has no endpoints.
abbrev pub get_of : Context → Target → Option Query
get_of ctx (Service ns name port) = Some (queries.Get ns name port ctx)
get_of ctx (Address ip port) = None

unfoldable pub port_in : List Row → Option PodPort
port_in rows = do
  pod ← needed workload_of (text_at arguments.Workload rows)
  port ← needed (number_within 1 65535) (text_at arguments.Port rows)
  Some (record { ns = pod.0; pod = pod.1; port = port })

abbrev pub target_in : Config → List Row → Option Target
target_in config rows = needed (target_of config) (text_at arguments.Path rows)

unfoldable pub query_in : Config → List Row → Method → Option Query
query_in config rows methods.Get = target_in config rows >>= get_of (context_in rows)
query_in config rows methods.GetProfile = target_in config rows >>= (λ target. Some (queries.Profile target (context_in rows)))
query_in config rows methods.WatchPort = port_in rows >>= (λ port. Some (query_whole port))
query_in config rows methods.Watch = target_in config rows >>= (λ target. Some (queries.Traffic target))
query_in config rows methods.WatchPort2 = port_in rows >>= (λ port. Some (query_by_rows port))
