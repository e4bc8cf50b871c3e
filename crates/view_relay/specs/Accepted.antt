-- Which calls of a relay are accepted, and why the others are refused.
use Rattle.std.specs.Prelude.{ℕ, List, length, nat_lt, Option, Some, None, Result, Ok, Err, if◌then◌else◌}
use Rattle.proto_wire.specs.declared.fault.WireFault.TheVariants.{Compressed}
use Rattle.proxy_proto.specs.MessageReading.{message_of}
use Rattle.proxy_proto.specs.declared.fault.ProtoFault.{ProtoFault}
use Rattle.session_core.specs.Phases.{Phase, Opening, Feeding, Asking, Asked, phase_of}
use Rattle.session_core.specs.declared.session.SessionFault.{SessionFault}
use Rattle.view_types.specs.declared.message.Message.{Message}
use Rattle.view_types.specs.declared.query.Method.{Method}
use Rattle.view_types.specs.declared.query.Method.TheVariants as methods
use Rattle.view_types.specs.declared.query.Query.{Query}
use Rattle.view_types.specs.declared.query.Query.TheVariants as queries
use Rattle.feed_history.specs.Ids.{subscribe_refusal}
use Rattle.feed_history.specs.declared.refusal.HubFault.{HubFault}
use Rattle.feed_history.specs.declared.refusal.HubFault.TheVariants as hub
use Rattle.output_fold.specs.Lines.{message_in}
use Rattle.output_fold.specs.declared.fault.FoldFault.{FoldFault}
use Rattle.output_fold.specs.declared.fault.FoldFault.TheVariants as fold
use Rattle.view_relay.specs.ById.{value_at}
use Rattle.view_relay.specs.Relays.{Call, Carries, Drains, Joins, Leaves, RelayState, Served, Takes, stream_at, stream_of}
use Rattle.view_relay.specs.declared.fault.RelayFault.{RelayFault}
use Rattle.view_relay.specs.declared.fault.RelayFault.TheVariants as faults

infixl 10 ◌>>=◌
abbrev pub ◌>>=◌ : {A B : Type 0} → Result A RelayFault → (A → Result B RelayFault) → Result B RelayFault
(Ok x) >>= f = f x
(Err e) >>= f = Err e

abbrev pub unless_none : {A : Type 0} → RelayFault → Option A → Result A RelayFault
unless_none fault None = Err fault
unless_none fault (Some x) = Ok x

-- ---- openings

-- A relay holds no objects, so that it is never full.
abbrev pub relay_fault : HubFault → RelayFault
relay_fault hub.Memory = faults.Memory
relay_fault (hub.Full held) = faults.Memory
relay_fault (hub.TooManySubs live) = faults.TooManySubs live
relay_fault (hub.IdOrder last) = faults.IdOrder last
relay_fault (hub.NoSuchId id) = faults.NoSuchId id
relay_fault (hub.Oversize bytes) = faults.Oversize bytes

abbrev pub unless_refused : Option HubFault → Result (Unit {0}) RelayFault
unless_refused None = Ok tt
unless_refused (Some fault) = Err (relay_fault fault)

-- an id above the greatest accepted one of its kind, and room for one more
abbrev pub new_id : ℕ → Option ℕ → ℕ → ℕ → Result (Unit {0}) RelayFault
new_id limit last live id = unless_refused (subscribe_refusal limit last live id)

-- the query that the bytes request
abbrev pub opened : Result Phase SessionFault → Result Query RelayFault
opened (Err fault) = Err (faults.Session fault)
opened (Ok (Asked query)) = Ok query
opened (Ok Opening) = Err faults.NotOpen
opened (Ok (Feeding text)) = Err faults.NotOpen
opened (Ok Asking) = Err faults.NotOpen

-- the query of a stream that may be carried
abbrev pub carried_query : RelayState → ℕ → List ℕ → Result Query RelayFault
carried_query now id opening = do
  accepted ← new_id now.limits.subs now.last_stream (length now.streams) id
  opened (phase_of now.config now.limits opening)

abbrev pub carry_call : RelayState → ℕ → List ℕ → Result Call RelayFault
carry_call now id opening = do
  query ← carried_query now id opening
  Ok (Carries id query)

-- the place of the stream of a client that may open
abbrev pub joined_stream : RelayState → ℕ → List ℕ → Result ℕ RelayFault
joined_stream now id opening = do
  accepted ← new_id now.limits.subs now.last_client (length now.clients) id
  query ← opened (phase_of now.config now.limits opening)
  unless_none faults.NoStream (stream_of query now.streams)

abbrev pub client_call : RelayState → ℕ → List ℕ → Result Call RelayFault
client_call now id opening = do
  stream ← joined_stream now id opening
  Ok (Joins id stream)

-- ---- frames

-- the method that requests the query
abbrev pub method_for : Query → Method
method_for (queries.Get ns name port ctx) = methods.Get
method_for (queries.Profile target ctx) = methods.GetProfile
method_for (queries.Port ns pod port) = methods.WatchPort
method_for (queries.Traffic target) = methods.Watch
method_for (queries.PortRows ns pod port) = methods.WatchPort2

-- a message that is not longer than the limit
abbrev pub within : ℕ → Result (List ℕ) FoldFault → Result (List ℕ) RelayFault
within limit (Ok message) = if nat_lt limit (length message) then Err faults.NotLine else Ok message
within limit (Err fold.Compressed) = Err (faults.Wire Compressed)
within limit (Err fault) = Err faults.NotLine

-- the message in bytes that are one frame
abbrev pub message_within : ℕ → List ℕ → Result (List ℕ) RelayFault
message_within limit bytes = within limit (message_in bytes)

abbrev pub as_read : Result Message ProtoFault → Result Message RelayFault
as_read (Ok message) = Ok message
as_read (Err fault) = Err (faults.Proto fault)

-- the message of a frame on a stream
abbrev pub taken_message : RelayState → ℕ → List ℕ → Result Message RelayFault
taken_message now id frame = do
  bytes ← message_within now.limits.message frame
  stream ← unless_none (faults.NoSuchId id) (stream_at id now.streams)
  as_read (message_of (method_for stream.query) bytes)

abbrev pub origin_call : RelayState → ℕ → List ℕ → Result Call RelayFault
origin_call now id frame = do
  message ← taken_message now id frame
  Ok (Takes id message)

-- ---- clients

abbrev pub sent_or_fault : {T : Type 0} → Result T HubFault → Result T RelayFault
sent_or_fault (Ok value) = Ok value
sent_or_fault (Err fault) = Err (relay_fault fault)

abbrev pub live_client : RelayState → ℕ → Result Served RelayFault
live_client now id = unless_none (faults.NoSuchId id) (value_at id now.clients)

abbrev pub drain_call : RelayState → ℕ → Result Call RelayFault
drain_call now id = do
  client ← live_client now id
  Ok (Drains id)

abbrev pub leave_call : RelayState → ℕ → Result Call RelayFault
leave_call now id = do
  client ← live_client now id
  Ok (Leaves id)
