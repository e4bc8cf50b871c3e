-- The live subscriptions of a hub, with the streams of those to endpoints and the kept views of the others.
use Rattle.std.specs.Prelude.{Bool, true, false, List}
use Rattle.mesh_base.specs.declared.limits.Limits.{Limits}
use Rattle.view_types.specs.Objects.{ObjectMap}
use Rattle.view_types.specs.declared.config.Config.{Config}
use Rattle.kept_views.specs.contracts.views.KeptViewsQueryViews.TheImpl.{ghosts as views}
use Rattle.kept_views.specs.contracts.views.KeptViewsQueryViews.TheImpl.Laws.{unique-law as views_unique}
use Rattle.kept_views.specs.declared.views.KeptViews.{KeptViews}
use Rattle.shared_endpoints.specs.contracts.shared.SharedEndpointsEndpointStreams.TheImpl.{ghosts}
use Rattle.shared_endpoints.specs.contracts.shared.SharedEndpointsEndpointStreams.TheImpl.Laws.{unique-law}
use Rattle.shared_endpoints.specs.declared.shared.SharedEndpoints.{SharedEndpoints}
use Rattle.subscriptions.specs.Live.{LiveSubscription, subs_of}
use Rattle.subscriptions.specs.Standing.{AllStand}
use Rattle.subscriptions.specs.Unique.{AllStand-prop}
use Rattle.subscriptions.specs.declared.subscribers.Subscribers.{Subscribers}

-- Each with the view that it was last shown. Once memory ran out, which endpoints were shown is not known.
abbrev pub live_in : Bool → Subscribers SharedEndpoints KeptViews → List LiveSubscription
live_in false all = subs_of (ghosts.shown_to all.endpoints) all.live.subs
live_in true all = all.live.subs

-- They are in the state that belongs to the objects held.
abbrev pub Stand : Config → Limits → ObjectMap → Subscribers SharedEndpoints KeptViews → Type 0
Stand config limits held all = AllStand ghosts.key_of ghosts.shown_to ghosts.stands views.kept_query views.query_of views.stands config limits held all

pub Stand-prop : (config : Config) (limits : Limits) (held : ObjectMap) (all : Subscribers SharedEndpoints KeptViews) → IsProp (Stand config limits held all)
Stand-prop config limits held all = AllStand-prop ghosts.key_of ghosts.shown_to ghosts.stands views.kept_query views.query_of views.stands unique-law views_unique config limits held all
