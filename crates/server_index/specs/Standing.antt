-- What is stored for a port, over the objects held.
use Rattle.std.specs.Prelude.{◌≡◌, ℕ, Option, Some, option_map, slice_get}
use Rattle.std.specs.FinMap.{entries}
use Rattle.std.specs.Option.{ForSome}
use Rattle.view_types.specs.Objects.{AtKeys, ObjectMap}
use Rattle.view_types.specs.declared.config.Config.{Config}
use Rattle.view_types.specs.declared.pod.Pod.{Pod}
use Rattle.view_rules.specs.PodRows.{pod_held}
use Rattle.mark_rules.specs.Reads.{server_reads}
use Rattle.mark_rules.specs.Rows.{ServerPart}
use Rattle.mark_rules.specs.declared.keys.ServerKey.{ServerKey}
use Rattle.server_index.specs.Concerned.{HaveValues}
use Rattle.server_index.specs.Matches.{AreUp, part_from}
use Rattle.server_index.specs.declared.kept.KeptServer.{KeptServer}
use Rattle.server_index.specs.declared.matching.Matching.{Matching}

abbrev pub its_pod : ObjectMap → ServerKey → Option Pod
its_pod held key = pod_held held (Some (key.ns, key.pod))

-- the row of the Pod's port, from the Servers that match it
abbrev pub row_from : Config → ℕ → Matching → Option Pod → Option ServerPart
row_from config port servers found = option_map (λ pod. part_from config pod port (slice_get servers.by_name.entries 0)) found

-- if the Pod is held, the Servers are those that match, the filter has the values of its labels, and
-- the row is that of the first Server; the marks are those that are read
pub record Stands (config : Config) (held : ObjectMap) (key : ServerKey) (kept : KeptServer) : Type 0 where
  pub own : AtKeys held
  pub servers : ForSome (its_pod held key) (λ pod. AreUp held key pod kept.servers)
  pub values : ForSome (its_pod held key) (λ pod. HaveValues kept.values (entries pod.meta.labels))
  pub row : kept.row ≡ row_from config key.port kept.servers (its_pod held key)
  pub marks : kept.marks ≡ server_reads key
