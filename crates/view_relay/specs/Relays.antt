-- The state of a relay as contracts see it: the streams that it carries, its clients, and the effect of an accepted call.
--
-- A client is served from the carried stream with its query, the one with the least id if several have it. Streams never end and their ids
-- ascend, so that this is the first such stream when the client opens, and always after, and its place stays.
use Rattle.std.specs.Prelude.{ℕ, Bool, false, List, [], ◌∷◌, ◌++◌, Option, Some, None, option_and_then, position, slice_get}
use Rattle.mesh_base.specs.declared.limits.Limits.{Limits}
use Rattle.view_types.specs.declared.config.Config.{Config}
use Rattle.view_types.specs.declared.message.Message.{Message}
use Rattle.view_types.specs.declared.query.Query.{Query}
use Rattle.view_types.specs.declared.view.View.{View}
use Rattle.view_rules.specs.Batch.{batch}
use Rattle.view_rules.specs.Fold.{shown_after}
use Rattle.feed_history.specs.Drains.{too_long, unless_too_long}
use Rattle.feed_history.specs.Ids.{at_id, ended, in_place}
use Rattle.view_relay.specs.ById.{id_of}
use Rattle.view_relay.specs.SameQuery.{same_query}

-- a stream of the origin: its id, its query, and the view that the messages of its accepted frames give; none before the first
pub record Carried : Type 0 where
  pub id : ℕ
  pub query : Query
  pub view : Option View

-- a client: the place of its stream, and the view that its last drain showed it; none before a drain that showed one
pub record Served : Type 0 where
  pub stream : ℕ
  pub shown : Option View

-- The streams, and the live clients by id, both in the order of their ids, and the greatest accepted id of each kind. A relay is spent once it was
-- out of memory.
pub record RelayState : Type 0 where
  pub config : Config
  pub limits : Limits
  pub streams : List Carried
  pub clients : List (ℕ × Served)
  pub last_stream : Option ℕ
  pub last_client : Option ℕ
  pub spent : Bool

abbrev pub idle : Config → Limits → RelayState
idle config limits = record { config = config; limits = limits; streams = []; clients = []; last_stream = None; last_client = None; spent = false }

abbrev pub stream_at : ℕ → List Carried → Option Carried
stream_at id streams = at_id (λ stream. stream.id) id streams

-- the place of the first stream with the query, the one of least id
abbrev pub stream_of : Query → List Carried → Option ℕ
stream_of query streams = position (λ stream. same_query stream.query query) streams

-- ---- drains

-- the view of the stream at this place
abbrev pub view_at : ℕ → List Carried → Option View
view_at place streams = option_and_then (λ stream. stream.view) (slice_get streams place)

-- the view of a client's stream
abbrev pub view_for : RelayState → Served → Option View
view_for now client = view_at client.stream now.streams

-- the messages from what was shown to the view; none while there is no view
abbrev pub messages_between : Limits → Option View → Option View → List Message
messages_between limits shown None = []
messages_between limits shown (Some view) = batch shown view limits

-- A drain without a view shows nothing, and what was shown stays.
abbrev pub shown_then : Option View → Option View → Option View
shown_then shown None = shown
shown_then shown (Some view) = Some view

abbrev pub messages_due : RelayState → Served → List Message
messages_due now client = messages_between now.limits client.shown (view_for now client)

-- the client after a drain, or none if a message was too long
abbrev pub drained : RelayState → ℕ × Served → List (ℕ × Served)
drained now client =
    unless_too_long (too_long now.limits.message (messages_due now client.1))
    (client.0, record client.1 { shown = shown_then client.1.shown (view_for now client.1) })

-- ---- calls

-- A call that is accepted: a stream is carried, a client opens on a stream, a stream has a further message, a client is drained, a client ends.
pub data Call : Type 0 where
  Carries : (id : ℕ) → (query : Query) → Call
  Joins : (id : ℕ) → (stream : ℕ) → Call
  Takes : (id : ℕ) → (message : Message) → Call
  Drains : (id : ℕ) → Call
  Leaves : (id : ℕ) → Call

-- the stream with one more message
abbrev pub with_message : Message → Carried → Carried
with_message message stream = record stream { view = Some (shown_after stream.view message) }

abbrev pub one_more : Message → Carried → List Carried
one_more message stream = with_message message stream ∷ []

abbrev pub after_call : RelayState → Call → RelayState
after_call now (Carries id query) = record now { streams = now.streams ++ record { id = id; query = query; view = None } ∷ []; last_stream = Some id }
after_call now (Joins id stream) = record now { clients = now.clients ++ (id, record { stream = stream; shown = None }) ∷ []; last_client = Some id }
after_call now (Takes id message) = record now { streams = in_place (λ stream. stream.id) id (one_more message) now.streams }
after_call now (Drains id) = record now { clients = in_place id_of id (drained now) now.clients }
after_call now (Leaves id) = record now { clients = in_place id_of id ended now.clients }
