-- The contents of a control line.
use Rattle.std.specs.Prelude.{ℕ, List, Option, Some, None, Result, Ok, Err, bytes_eq, codes, option_and_then, if◌then◌else◌}
use Rattle.k8s_meta.specs.Scalars.{number}
use Rattle.k8s_meta.specs.Spots.{Spot, ◌·◌}
use Rattle.k8s_meta.specs.Words.{choice, object, required, string_in}
use Rattle.k8s_meta.specs.declared.key.Key.TheVariants as keys
use Rattle.view_types.specs.Ports.{query_by_rows, query_whole}
use Rattle.view_types.specs.declared.config.Config.{Config}
use Rattle.view_types.specs.declared.query.Method.{Method}
use Rattle.view_types.specs.declared.query.Method.TheVariants as methods
use Rattle.view_types.specs.declared.query.Query.{Query}
use Rattle.watch_events.specs.Queries.{get_at, method_of, policy_at, profile_at, traffic_at}
use Rattle.watch_events.specs.Reading.{of_query, ◌>>=◌}
use Rattle.watch_events.specs.Simulations.{request_at}
use Rattle.watch_events.specs.declared.control.ControlWord.{ControlWord}
use Rattle.watch_events.specs.declared.control.ControlWord.TheVariants as words
use Rattle.watch_events.specs.declared.line.Line.{Line}
use Rattle.watch_events.specs.declared.line.Line.TheVariants as lines
use Rattle.watch_events.specs.declared.line.LineFault.{LineFault}
use Rattle.watch_events.specs.declared.line.LineFault.TheVariants as faults

abbrev pub query_of : Config → Method → Spot → Result Query LineFault
query_of config methods.Get q = of_query (get_at config q)
query_of config methods.GetProfile q = of_query (profile_at config q)
query_of config methods.WatchPort q = of_query (policy_at query_whole q)
query_of config methods.Watch q = of_query (traffic_at config q)
query_of config methods.WatchPort2 q = of_query (policy_at query_by_rows q)

unfoldable pub subscription_of : Config → Spot → Result Line LineFault
subscription_of config s = do
  id ← of_query (required (number 0 4294967295) (s · keys.Id))
  q ← of_query (required object (s · keys.Query))
  method ← of_query (required (choice method_of) (q · keys.Method))
  query ← query_of config method q
  Ok (lines.Subscribe (record { 0 = id }) query)

abbrev pub control_word : List ℕ → Option ControlWord
control_word t =
    if bytes_eq t (codes "subscribe") then Some words.Subscribe else
    if bytes_eq t (codes "cancel") then Some words.Cancel else
    if bytes_eq t (codes "drain") then Some words.Drain else
    if bytes_eq t (codes "simulate") then Some words.Simulate else
    if bytes_eq t (codes "stop") then Some words.Stop else None

-- a line that ends or drains a subscription
unfoldable pub cancellation_of : Spot → Result Line LineFault
cancellation_of s = do
  id ← of_query (required (number 0 4294967295) (s · keys.Id))
  Ok (lines.Cancel (record { 0 = id }))

unfoldable pub drain_of : Spot → Result Line LineFault
drain_of s = do
  id ← of_query (required (number 0 4294967295) (s · keys.Id))
  Ok (lines.Drain (record { 0 = id }))

unfoldable pub simulation_of : Spot → Result Line LineFault
simulation_of s = do
  request ← of_query (request_at s)
  Ok (lines.Simulate request)

abbrev pub control_as : Config → Option ControlWord → Spot → Result Line LineFault
control_as config None s = Err (faults.BadQuery (s · keys.Control).at)
control_as config (Some words.Subscribe) s = subscription_of config s
control_as config (Some words.Cancel) s = cancellation_of s
control_as config (Some words.Drain) s = drain_of s
control_as config (Some words.Simulate) s = simulation_of s
control_as config (Some words.Stop) s = Ok lines.Stop

abbrev pub control_of : Config → Spot → Result Line LineFault
control_of config s = control_as config (option_and_then control_word (string_in (s · keys.Control).value)) s
