-- The state of the live subscriptions is a proposition, as the type of a struct's field must be.
use Rattle.std.specs.Prelude.{ℕ, Option}
use Rattle.std.specs.Coded.{codes}
use Rattle.mesh_base.specs.declared.limits.Limits.{Limits}
use Rattle.view_types.specs.Objects.{ObjectMap}
use Rattle.view_types.specs.contracts.endpoint.EndpointView as the_endpoints
use Rattle.view_types.specs.contracts.query.Query as the_query
use Rattle.view_types.specs.contracts.view.View as the_view
use Rattle.view_types.specs.declared.config.Config.{Config}
use Rattle.view_types.specs.declared.endpoint.EndpointView.{EndpointView}
use Rattle.view_types.specs.declared.query.Query.{Query}
use Rattle.mark_rules.specs.contracts.keys.EndpointKey as the_key
use Rattle.mark_rules.specs.declared.keys.EndpointKey.{EndpointKey}
use Rattle.subscriptions.specs.Standing.{AllStand}
use Rattle.subscriptions.specs.declared.subscribers.Subscribers.{Subscribers}

module _ {E V : Type 0} (key_of : E → ℕ → Option EndpointKey) (shown_to : E → ℕ → Option EndpointView) (stand : E → Config → Limits → ObjectMap → Type 0)
    (kept_query : Query → Option Query) (query_of : V → ℕ → Option Query) (viewed : V → Config → ObjectMap → Type 0) where
  pub AllStand-prop : ((e : E) (config : Config) (limits : Limits) (held : ObjectMap) → IsProp (stand e config limits held)) → ((v : V) (config : Config) (held : ObjectMap) → IsProp (viewed v config held))
      → (config : Config) (limits : Limits) (held : ObjectMap) (all : Subscribers E V) → IsProp (AllStand key_of shown_to stand kept_query query_of viewed config limits held all)
  AllStand-prop unique single config limits held all = hlevel (unique, single, codes, the_query.the_row.coded, the_view.the_row.coded, the_key.the_row.coded, the_endpoints.the_row.coded)
