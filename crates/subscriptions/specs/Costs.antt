-- How many objects are looked up for the stream of a subscription.
use Rattle.std.specs.Prelude.{ℕ, Option, Some, None}
use Rattle.view_types.specs.Objects.{ObjectMap}
use Rattle.mark_rules.specs.Reads.{cost, endpoint_reads}
use Rattle.mark_rules.specs.declared.keys.EndpointKey.{EndpointKey}

-- the cost of the endpoints of a key, if there is a key
abbrev pub stream_cost : ObjectMap → Option EndpointKey → ℕ
stream_cost held None = 0
stream_cost held (Some key) = cost held (endpoint_reads held key)
