-- Streams of endpoints: which of them a change touches, and what a subscriber is sent.
use Rattle.std.specs.Prelude.{ℕ, Bool, false, List, [], Option, Some, None, Result, Ok, option_map}
use Rattle.mesh_base.specs.declared.limits.Limits.{Limits}
use Rattle.view_types.specs.Objects.{ObjectMap}
use Rattle.view_types.specs.declared.config.Config.{Config}
use Rattle.view_types.specs.declared.endpoint.EndpointView.{EndpointView}
use Rattle.view_types.specs.declared.mark.Mark.{Mark}
use Rattle.view_types.specs.declared.query.Query.{Query}
use Rattle.view_types.specs.declared.query.Query.TheVariants.{Get}
use Rattle.view_rules.specs.Batch.{endpoint_batch}
use Rattle.mark_rules.specs.Marks.{meets}
use Rattle.mark_rules.specs.Reads.{endpoint_reads}
use Rattle.mark_rules.specs.Rows.{endpoint_row}
use Rattle.mark_rules.specs.declared.keys.EndpointKey.{EndpointKey}
use Rattle.feed_history.specs.Drains.{frames_within}
use Rattle.feed_history.specs.declared.refusal.HubFault.{HubFault}

-- the endpoints of a key over the objects held, if there is a key
abbrev pub endpoints_at : Config → ObjectMap → Option EndpointKey → Option EndpointView
endpoints_at config held key = option_map (endpoint_row config held) key

-- a query for the endpoints of a key, from any client
abbrev pub query_for : EndpointKey → Query
query_for key = Get key.ns key.name key.port (record { ns = None; node = None })

-- the endpoints of a key, if there is one, read a mark of the change
abbrev pub is_met : ObjectMap → List Mark → Option EndpointKey → Bool
is_met held changed None = false
is_met held changed (Some key) = meets (endpoint_reads held key) changed

-- The frames that bring a subscriber from the endpoints that it was shown to the current ones. Without a stream there are none.
abbrev pub frames_to : Limits → Option EndpointView → Option EndpointView → Result (List (List ℕ)) HubFault
frames_to limits shown None = Ok []
frames_to limits shown (Some now) = frames_within limits.message (endpoint_batch shown now limits)
