-- The queries for a port of a Pod, and its views.
use Rattle.view_types.specs.declared.query.PodPort.{PodPort}
use Rattle.view_types.specs.declared.query.Query.{Query}
use Rattle.view_types.specs.declared.query.Query.TheVariants.{Port, PortRows}
use Rattle.view_types.specs.declared.view.View.{View}
use Rattle.view_types.specs.declared.view.View.TheVariants.{Server, ServerRows}

abbrev pub query_whole : PodPort → Query
query_whole port = Port port.ns port.pod port.port

abbrev pub query_by_rows : PodPort → Query
query_by_rows port = PortRows port.ns port.pod port.port

-- the inbound view sent by rows
abbrev pub by_rows : View → View
by_rows (Server view) = ServerRows view
by_rows view = view
