-- The state of a hub as contracts see it, and the effect of its calls.
use Rattle.std.specs.Prelude.{◌≡◌, ℕ, Bool, true, false, List, [], ◌∷◌, ◌++◌, Option, Some, None, Result, Ok, Err, if◌then◌else◌, is_some, length, map, option_and_then}
use Rattle.std.specs.FinMap.{empty}
use Rattle.mesh_base.specs.declared.limits.Limits.{Limits}
use Rattle.mesh_base.specs.declared.sub_id.SubId.{SubId}
use Rattle.view_types.specs.Objects.{ObjectMap}
use Rattle.view_types.specs.declared.config.Config.{Config}
use Rattle.view_types.specs.declared.endpoint.EndpointView.{EndpointView}
use Rattle.view_types.specs.declared.message.Message.{Message}
use Rattle.view_types.specs.declared.query.Query.{Query}
use Rattle.view_types.specs.declared.query.Query.TheVariants.{Get}
use Rattle.view_rules.specs.Batch.{batch}
use Rattle.view_rules.specs.Endpoints.{endpoints}
use Rattle.view_rules.specs.Views.{view_of}
use Rattle.view_types.specs.declared.request.Request.{Request}
use Rattle.view_types.specs.declared.verdict.Verdict.{Verdict}
use Rattle.watch_events.specs.declared.event.Event.{Event}
use Rattle.route_match.specs.Asking.{PatternFacts}
use Rattle.request_sim.specs.Faults.{Simulated}
use Rattle.request_sim.specs.declared.fault.SimFault.{SimFault}
use Rattle.request_sim.specs.declared.fault.SimFault.TheVariants as sim
use Rattle.feed_history.specs.Drains.{frames_within, too_long, unless_too_long}
use Rattle.feed_history.specs.Events.{event_refusal, objects_after}
use Rattle.feed_history.specs.Ids.{ended, in_place, subscribe_refusal, unless_refused}
use Rattle.mesh_hub.specs.LiveSubs.{live_in}
use Rattle.mesh_hub.specs.declared.hub.Hub.{Hub}
pub use Rattle.subscriptions.specs.Live.{LiveSubscription, id_of, sub_at}
use Rattle.subscriptions.specs.Live.{query_at}
use Rattle.feed_history.specs.declared.refusal.HubFault.{HubFault}
use Rattle.feed_history.specs.declared.refusal.HubFault.TheVariants.{Memory, Full, TooManySubs, IdOrder, NoSuchId, Oversize}
use Rattle.feed_history.specs.declared.refusal.NoSuchId.{NoSuchId as NotLive}

-- The objects held; the live subscriptions in the order of their ids, each with the view that it was last shown; and the greatest
-- accepted id. A hub is spent once it was out of memory.
pub record HubState : Type 0 where
  pub config : Config
  pub limits : Limits
  pub objects : ObjectMap
  pub subs : List LiveSubscription
  pub last : Option ℕ
  pub spent : Bool

abbrev pub state_of : Hub → HubState
state_of hub = record { config = hub.config; limits = hub.limits; objects = hub.store.objects; subs = live_in hub.spent hub.subscribers; last = hub.last; spent = hub.spent }

-- no objects and no subscriptions
abbrev pub fresh : Config → Limits → HubState
fresh config limits = record { config = config; limits = limits; objects = empty; subs = []; last = None; spent = false }

-- ---- the result of a call

-- the id and the query of a subscription
abbrev pub asked_in : LiveSubscription → SubId × Query
asked_in sub = (sub.id, sub.query)

-- The hub ran out of memory and is spent. Its subscriptions stay, but which endpoints they were shown is no longer known.
pub record Spends (old new : HubState) : Type 0 where
  pub spent : new.spent ≡ true
  pub subs : map asked_in new.subs ≡ map asked_in old.subs
  pub last : new.last ≡ old.last

-- The call returns `expected`, and the state becomes `after`. The hub was not spent.
pub record Goes {T : Type 0} (old : HubState) (expected : Result T HubFault) (after : HubState) (result : Result T HubFault) (new : HubState) : Type 0 where
  pub going : old.spent ≡ false
  pub answer : result ≡ expected
  pub state : new ≡ after

abbrev pub Answers : {T : Type 0} → HubState → Result T HubFault → HubState → Result T HubFault → HubState → Type 0
Answers old answer after (Ok value) new = Goes old answer after (Ok value) new
Answers old answer after (Err Memory) new = Spends old new
Answers old answer after (Err (Full held)) new = Goes old answer after (Err (Full held)) new
Answers old answer after (Err (TooManySubs live)) new = Goes old answer after (Err (TooManySubs live)) new
Answers old answer after (Err (IdOrder last)) new = Goes old answer after (Err (IdOrder last)) new
Answers old answer after (Err (NoSuchId id)) new = Goes old answer after (Err (NoSuchId id)) new
Answers old answer after (Err (Oversize bytes)) new = Goes old answer after (Err (Oversize bytes)) new

-- the result of a call, given its refusal if there is one
abbrev pub answer_of : Option HubFault → Result (Unit {0}) HubFault
answer_of None = Ok tt
answer_of (Some fault) = Err fault

-- ---- the calls

abbrev pub apply_refusal : HubState → Event → Option HubFault
apply_refusal now event = event_refusal now.limits.objects now.objects event

abbrev pub applied : HubState → Event → HubState
applied now event = unless_refused (apply_refusal now event) now (record now { objects = objects_after now.objects event })

abbrev pub new_refusal : HubState → ℕ → Option HubFault
new_refusal now id = subscribe_refusal now.limits.subs now.last (length now.subs) id

abbrev pub subscribed : HubState → SubId → Query → HubState
subscribed now id query = unless_refused (new_refusal now id.0) now (record now { subs = now.subs ++ record { id = id; query = query; shown = None } ∷ []; last = Some id.0 })

abbrev pub is_live : ℕ → List LiveSubscription → Bool
is_live id subs = is_some (sub_at id subs)

abbrev pub cancel_answer : Option LiveSubscription → Result (Unit {0}) NotLive
cancel_answer (Some sub) = Ok tt
cancel_answer None = Err (record {})

abbrev pub cancelled : HubState → ℕ → HubState
cancelled now id = record now { subs = in_place id_of id ended now.subs }

-- A cancellation needs no memory, and works on a spent hub, too.
pub record Cancels (id : ℕ) (old : HubState) (result : Result (Unit {0}) NotLive) (new : HubState) : Type 0 where
  pub answer : result ≡ cancel_answer (sub_at id old.subs)
  pub state : new ≡ cancelled old id

-- the messages from the view that a subscriber was last shown to the view over the objects held
abbrev pub messages_for : HubState → LiveSubscription → List Message
messages_for now sub = batch sub.shown (view_of now.config now.objects sub.query) now.limits

-- the result of a drain
abbrev pub frames_for : HubState → ℕ → Option LiveSubscription → Result (List (List ℕ)) HubFault
frames_for now id None = Err (NoSuchId id)
frames_for now id (Some sub) = frames_within now.limits.message (messages_for now sub)

abbrev pub frames_at : HubState → ℕ → Result (List (List ℕ)) HubFault
frames_at now id = frames_for now id (sub_at id now.subs)

-- the subscription after a drain, or none if a message was too long
abbrev pub shown_now : HubState → LiveSubscription → List LiveSubscription
shown_now now sub = unless_too_long (too_long now.limits.message (messages_for now sub)) (record sub { shown = Some (view_of now.config now.objects sub.query) })

abbrev pub drained : HubState → ℕ → HubState
drained now id = record now { subs = in_place id_of id (shown_now now) now.subs }

-- ---- endpoints

-- the endpoints that a query requests, over the objects held; none if it requests another view
abbrev pub endpoints_for : HubState → Query → Option EndpointView
endpoints_for now (Get ns name port ctx) = Some (endpoints now.config now.objects ns name port)
endpoints_for now _ = None

-- Those of the live subscription under an id. A spent hub has none.
abbrev pub endpoints_at : HubState → ℕ → Option EndpointView
endpoints_at now id = if now.spent then None else option_and_then (endpoints_for now) (query_at id now.subs)

-- ---- simulations

-- The hub was not spent, and stays as it is.
pub record Rests (old : HubState) (new : HubState) : Type 0 where
  pub going : old.spent ≡ false
  pub same : new ≡ old

abbrev pub RestsUnlessMemory : {T : Type 0} → HubState → Result T SimFault → HubState → Type 0
RestsUnlessMemory old (Ok value) new = Rests old new
RestsUnlessMemory old (Err (sim.Pattern route rule item)) new = Rests old new
RestsUnlessMemory old (Err sim.Memory) new = Spends old new

-- A simulation returns the verdict on the request, or meets a refused pattern, and changes nothing. A spent hub returns Memory.
pub record Simulates (facts : PatternFacts) (request : Request) (result : Result Verdict SimFault) (old new : HubState) : Type 0 where
  pub answer : Simulated old.config old.objects facts request result
  pub state : RestsUnlessMemory old result new
