-- How many users the rows in the indexes of a hub have.
use Rattle.std.specs.Prelude.{◌+◌, ℕ}
use Rattle.mark_rules.specs.declared.keys.RowKey.{RowKey}
use Rattle.kept_views.specs.contracts.views.KeptViewsQueryViews.TheImpl.{ghosts as views}
use Rattle.shared_endpoints.specs.contracts.shared.SharedEndpointsEndpointStreams.TheImpl.{ghosts}
use Rattle.mesh_hub.specs.declared.hub.Hub.{Hub}

-- how many users the row of a key has, in the index of endpoints and in those of other views together
abbrev pub users_in : Hub → RowKey → ℕ
users_in hub key = ghosts.users hub.subscribers.endpoints key + views.users hub.subscribers.views key
