-- The rows of the view of each query are in order.
use Rattle.std.proofs.Common.{ℕ, List, [], Option, Some, None}
use Rattle.std.specs.List.Sorted.{IsStrictlySortedBy}
use Rattle.view_types.specs.Objects.{AtKeys, ObjectMap}
use Rattle.view_types.specs.declared.config.Config.{Config}
use Rattle.view_types.specs.declared.pod.Pod.{Pod}
use Rattle.view_types.specs.declared.query.Query.TheVariants.{Get, Profile, Port, Traffic, PortRows}
use Rattle.view_types.specs.declared.server.ServerSpec.{ServerSpec}
use Rattle.view_rules.specs.AuthzOrder.{RowsRise}
use Rattle.view_rules.specs.Fold.{authz_of}
use Rattle.view_rules.specs.Inbound.{inbound_at, port_row}
use Rattle.view_rules.specs.Laws.{ViewsAreOrderly}
use Rattle.view_rules.specs.PodRows.{pod_held}
use Rattle.view_rules.specs.Servers.{chosen_server}
use Rattle.view_rules.proofs.Orderly.{endpoints_are_orderly}
use Rattle.view_rules.proofs.ShownRows.{rows_are_in_order}

pub none_rise : RowsRise []
unfolding IsStrictlySortedBy
none_rise = tt

module _ (config : Config) (held : ObjectMap) (at_keys : AtKeys held) where
  row_rises : (pod : Pod) (port : ℕ) (chosen : Option ServerSpec) → RowsRise (port_row config held pod port chosen).authz
  row_rises pod port None = none_rise
  row_rises pod port (Some server) = (rows_are_in_order config held at_keys).0 server

  inbound_rises : (ns : List ℕ) (port : ℕ) (found : Option Pod) → RowsRise (authz_of (inbound_at config held ns port found))
  inbound_rises ns port None = none_rise
  inbound_rises ns port (Some pod) = row_rises pod port (chosen_server held ns pod port)

pub views_are_orderly : ViewsAreOrderly
views_are_orderly config held at_keys (Get ns name port ctx) = endpoints_are_orderly config held ns name port
views_are_orderly config held at_keys (Profile target ctx) = tt
views_are_orderly config held at_keys (Port ns pod port) = tt
views_are_orderly config held at_keys (Traffic target) = tt
views_are_orderly config held at_keys (PortRows ns pod port) = inbound_rises config held at_keys ns port (pod_held held (Some (ns, pod)))
