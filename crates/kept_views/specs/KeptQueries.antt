-- The queries whose views are kept: all but those for endpoints, each as the part for its kind keeps it.
use Rattle.std.specs.Prelude.{Option, None}
use Rattle.view_types.specs.declared.query.Query.{Query}
use Rattle.view_types.specs.declared.query.Query.TheVariants.{Get, Profile, Port, Traffic, PortRows}
use Rattle.row_views.specs.Queries.{ShowsSame}
use Rattle.key_views.specs.ProfileQueries.{profile_query, profiles_same}
use Rattle.inbound_views.specs.PortRows.{port_query, ports_same}
use Rattle.key_views.specs.OutboundQueries.{outbound_query, outbound_same}

abbrev pub kept_query : Query → Option Query
kept_query (Get ns name port ctx) = None
kept_query (Profile target ctx) = profile_query (Profile target ctx)
kept_query (Port ns pod port) = port_query (Port ns pod port)
kept_query (Traffic target) = outbound_query (Traffic target)
kept_query (PortRows ns pod port) = port_query (PortRows ns pod port)

pub kept_same : ShowsSame kept_query
kept_same (Get ns name port ctx) asked is config held = absurd (cc is)
kept_same (Profile target ctx) asked is config held = profiles_same (Profile target ctx) asked is config held
kept_same (Port ns pod port) asked is config held = ports_same (Port ns pod port) asked is config held
kept_same (Traffic target) asked is config held = outbound_same (Traffic target) asked is config held
kept_same (PortRows ns pod port) asked is config held = ports_same (PortRows ns pod port) asked is config held
