-- Live subscriptions as contracts see them, and the one under an id.
use Rattle.std.specs.Prelude.{◌≡◌, ◌<◌, ℕ, nat_eq, not, List, ◌∷◌, [], Option, Some, None, is_some, if◌then◌else◌, map, option_and_then, option_map}
use Rattle.std.specs.List.{AllByRecursion}
use Rattle.std.specs.List.Sorted.{IsStrictlySortedBy}
use Rattle.std.specs.Ordering.{nat_cmp}
use Rattle.mesh_base.specs.declared.sub_id.SubId.{SubId}
use Rattle.view_types.specs.declared.endpoint.EndpointView.{EndpointView}
use Rattle.view_types.specs.declared.query.Query.{Query}
use Rattle.view_types.specs.declared.query.Query.TheVariants.{Get}
use Rattle.view_types.specs.declared.view.View.{View}
use Rattle.view_types.specs.declared.view.View.TheVariants.{Endpoints}
use Rattle.mark_rules.specs.declared.keys.EndpointKey.{EndpointKey}
use Rattle.feed_history.specs.Ids.{at_id}

-- its id, its query, and the view that its subscriber was last shown; None before the first drain
pub record LiveSubscription : Type 0 where
  pub id : SubId
  pub query : Query
  pub shown : Option View

abbrev pub id_of : LiveSubscription → ℕ
id_of sub = sub.id.0

-- the subscription under an id
abbrev pub sub_at : ℕ → List LiveSubscription → Option LiveSubscription
sub_at id subs = at_id id_of id subs

-- the query of the subscription under an id
abbrev pub query_at : ℕ → List LiveSubscription → Option Query
query_at id subs = option_map (λ sub. sub.query) (sub_at id subs)

-- all ids are below this one
abbrev pub AreBelow : ℕ → List LiveSubscription → Type 0
AreBelow id subs = AllByRecursion (λ sub. id_of sub < id) subs

-- the ids are in strictly ascending order, so that each occurs once
abbrev pub IdsRise : List LiveSubscription → Type 0
IdsRise subs = IsStrictlySortedBy nat_cmp (map id_of subs)

-- the subscription after its subscriber was shown this view
abbrev pub showing : View → LiveSubscription → LiveSubscription
showing view sub = record sub { shown = Some view }

abbrev pub shown_in_place : View → LiveSubscription → List LiveSubscription
shown_in_place view sub = showing view sub ∷ []

-- the subscription under the id becomes this one, or none; those under other ids stay
abbrev pub PutsAt : ℕ → Option LiveSubscription → List LiveSubscription → List LiveSubscription → Type 0
PutsAt id value old new = (n : ℕ) → sub_at n new ≡ (if nat_eq n id then value else sub_at n old)

-- ---- subscriptions to endpoints

-- the key of the requested endpoints, if the query is for endpoints
abbrev pub endpoint_key : Query → Option EndpointKey
endpoint_key (Get ns name port ctx) = Some (record { ns = ns; name = name; port = port })
endpoint_key _ = None

-- the key of the endpoints that the query under an id requests
abbrev pub key_at : ℕ → List LiveSubscription → Option EndpointKey
key_at id subs = option_and_then endpoint_key (query_at id subs)

-- the endpoints if there is a key, and otherwise the view
abbrev pub shown_by : Option EndpointKey → Option EndpointView → Option View → Option View
shown_by None endpoints shown = shown
shown_by (Some key) endpoints shown = option_map Endpoints endpoints

-- The subscription, with the endpoints that its stream has shown if its query is for endpoints.
abbrev pub with_endpoints : (ℕ → Option EndpointView) → LiveSubscription → LiveSubscription
with_endpoints endpoints sub = record { id = sub.id; query = sub.query; shown = shown_by (endpoint_key sub.query) (endpoints (id_of sub)) sub.shown }

-- the subscriptions, each with the endpoints that its stream has shown
abbrev pub subs_of : (ℕ → Option EndpointView) → List LiveSubscription → List LiveSubscription
subs_of endpoints subs = map (with_endpoints endpoints) subs

-- ---- subscriptions to other views

-- Exactly the queries that are not for endpoints have a kept view.
abbrev pub Covers : (Query → Option Query) → Type 0
Covers kept = (query : Query) → is_some (kept query) ≡ not (is_some (endpoint_key query))

-- the query whose view is kept for the subscription under an id, if there is one
abbrev pub kept_at : (Query → Option Query) → ℕ → List LiveSubscription → Option Query
kept_at kept id subs = option_and_then kept (query_at id subs)
