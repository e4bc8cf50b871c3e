-- The state of the live subscriptions over the objects held, which of them are due, and how an event changes this.
use Rattle.std.specs.Prelude.{◌≡◌, ◌||◌, ℕ, Bool, true, false, List, Option, Some, None, is_some}
use Rattle.mesh_base.specs.declared.limits.Limits.{Limits}
use Rattle.mesh_base.specs.declared.sub_id.SubId.{SubId}
use Rattle.view_types.specs.Objects.{ObjectMap}
use Rattle.view_types.specs.declared.config.Config.{Config}
use Rattle.view_types.specs.declared.endpoint.EndpointView.{EndpointView}
use Rattle.view_types.specs.declared.mark.Mark.{Mark}
use Rattle.view_types.specs.declared.query.Query.{Query}
use Rattle.view_types.specs.declared.view.View.{View}
use Rattle.view_rules.specs.PolicyLaws.{AreLawful}
use Rattle.view_rules.specs.Views.{view_of}
use Rattle.mark_graph.specs.RowMarks.{has_row}
use Rattle.mark_rules.specs.Changes.{Leads}
use Rattle.mark_rules.specs.Rows.{endpoint_row}
use Rattle.mark_rules.specs.declared.keys.EndpointKey.{EndpointKey}
use Rattle.watch_events.specs.Lawful.{IsLawfulEvent}
use Rattle.watch_events.specs.declared.event.Event.{Event}
use Rattle.row_views.specs.Ids.{Keeps, SetsAt}
use Rattle.feed_history.specs.Due.{is_touched, marks_of_event}
use Rattle.feed_history.specs.Events.{objects_after}
use Rattle.subscriptions.specs.declared.roster.Roster.{Roster}
use Rattle.subscriptions.specs.declared.subscribers.Subscribers.{Subscribers}
use Rattle.subscriptions.specs.DueIds.{is_among}
use Rattle.subscriptions.specs.Live.{LiveSubscription, endpoint_key, kept_at, key_at, query_at, sub_at, subs_of}

-- a subscription before its first drain
abbrev pub new_sub : SubId → Query → LiveSubscription
new_sub id query = record { id = id; query = query; shown = None }

-- ---- the state over the objects held

-- Each id that is due is live. A live subscription that is not due and not for endpoints was shown its view over the objects held.
pub record Stands (config : Config) (held : ObjectMap) (all : Roster) : Type 0 where
  pub live : (id : ℕ) → is_among id all.due ≡ true → is_some (sub_at id all.subs) ≡ true
  pub current : (id : ℕ) (sub : LiveSubscription) → sub_at id all.subs ≡ Some sub → endpoint_key sub.query ≡ None → is_among id all.due ≡ false
      → sub.shown ≡ Some (view_of config held sub.query)

-- The open streams are those of the live subscriptions to endpoints. A subscription that is not due was shown its endpoints over the
-- objects held.
pub record AreStreamed (config : Config) (held : ObjectMap) (keys : ℕ → Option EndpointKey) (endpoints : ℕ → Option EndpointView) (all : Roster) : Type 0 where
  pub opened : (id : ℕ) → keys id ≡ key_at id all.subs
  pub current : (id : ℕ) (key : EndpointKey) → key_at id all.subs ≡ Some key → is_among id all.due ≡ false → endpoints id ≡ Some (endpoint_row config held key)

-- the view is that of the subscription over the objects held, if there is a subscription
abbrev pub IsShownNow : Config → ObjectMap → View → Option LiveSubscription → Type 0
IsShownNow config held view sub = (found : LiveSubscription) → sub ≡ Some found → view ≡ view_of config held found.query

-- ---- changes

-- each of the ids is live
abbrev pub AreLive : List ℕ → Roster → Type 0
AreLive ids all = (id : ℕ) → has_row id ids ≡ true → is_some (sub_at id all.subs) ≡ true

-- The ids that pass the test become due; the others stay as they were.
pub record MakesDue (test : ℕ → Bool) (old new : Roster) : Type 0 where
  pub each : (id : ℕ) → is_among id new.due ≡ (test id || is_among id old.due)

-- a lawful event changed the objects `before` to these, and these are its marks
pub record IsAfter (before held : ObjectMap) (marks : List Mark) (event : Event) : Type 0 where
  pub lawful : AreLawful before
  pub right : IsLawfulEvent event
  pub objects : held ≡ objects_after before event
  pub is_marked : marks ≡ marks_of_event before event
  pub leads : Leads marks before held

-- ---- the live subscriptions, their streams and kept views

-- If there is a key, a stream is opened under the id, whose subscriber was shown nothing yet. All others stay as they were.
abbrev pub OpensAt : ℕ → Option EndpointKey → (ℕ → Option EndpointView) → (ℕ → Option EndpointView) → Type 0
OpensAt id None old new = Keeps old new
OpensAt id (Some key) old new = SetsAt id None old new

-- The kept views are those of the live subscriptions whose queries have one.
abbrev pub AreKept : (Query → Option Query) → (ℕ → Option Query) → Roster → Type 0
AreKept kept_query queries all = (id : ℕ) → queries id ≡ kept_at kept_query id all.subs

module _ {E V : Type 0} (key_of : E → ℕ → Option EndpointKey) (shown_to : E → ℕ → Option EndpointView) (stand : E → Config → Limits → ObjectMap → Type 0)
    (kept_query : Query → Option Query) (query_of : V → ℕ → Option Query) (viewed : V → Config → ObjectMap → Type 0) where
  pub record AllStand (config : Config) (limits : Limits) (held : ObjectMap) (all : Subscribers E V) : Type 0 where
    pub live : Stands config held all.live
    pub streamed : AreStreamed config held (key_of all.endpoints) (shown_to all.endpoints) all.live
    pub endpoints : stand all.endpoints config limits held
    pub kept : AreKept kept_query (query_of all.views) all.live
    pub views : viewed all.views config held

  -- After an event, those are also due whose queries read one of its marks before it. What subscribers were shown stays as it was.
  pub record AllFollow (config : Config) (limits : Limits) (before : ObjectMap) (event : Event) (old new : Subscribers E V) : Type 0 where
    pub due : (id : ℕ) → is_among id new.live.due ≡ (is_touched config before event (query_at id old.live.subs) || is_among id old.live.due)
    pub shown : subs_of (shown_to new.endpoints) new.live.subs ≡ subs_of (shown_to old.endpoints) old.live.subs
    pub stands : AllStand config limits (objects_after before event) new
