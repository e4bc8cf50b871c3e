-- The results of the calls of a relay.
use Rattle.std.specs.Prelude.{◌≡◌, ℕ, true, false, List, Option, Some, None, Result, Ok, Err}
use Rattle.view_types.specs.declared.view.View.{View}
use Rattle.view_rules.specs.Batch.{batch}
use Rattle.feed_history.specs.Drains.{frames_within}
use Rattle.view_relay.specs.Accepted.{◌>>=◌, leave_call, live_client, sent_or_fault}
use Rattle.view_relay.specs.Relays.{Call, RelayState, Served, after_call, messages_due, view_for}
use Rattle.view_relay.specs.declared.fault.RelayFault.{RelayFault}
use Rattle.view_relay.specs.declared.fault.RelayFault.TheVariants as faults
use Rattle.view_relay.specs.declared.relay.Relay.{Relay}

abbrev pub state_of : Relay → RelayState
state_of relay = record {
  config = relay.config;
  limits = relay.limits;
  streams = relay.streams.items;
  clients = relay.clients;
  last_stream = relay.last_stream;
  last_client = relay.last_client;
  spent = relay.spent;
}

-- ---- any call

-- The relay was not spent, the call returns `expected`, and the state becomes `after`.
pub record Goes {T : Type 0} (old : RelayState) (expected : Result T RelayFault) (after : RelayState) (result : Result T RelayFault) (new : RelayState) : Type 0 where
  pub going : old.spent ≡ false
  pub answer : result ≡ expected
  pub state : new ≡ after

-- A relay that runs out of memory is spent, and otherwise stays as it was.
abbrev pub Answers : {T : Type 0} → RelayState → Result T RelayFault → RelayState → Result T RelayFault → RelayState → Type 0
Answers old expected after (Ok value) new = Goes old expected after (Ok value) new
Answers old expected after (Err faults.Memory) new = new ≡ record old { spent = true }
Answers old expected after (Err fault) new = Goes old expected after (Err fault) new

-- a call that returns nothing
abbrev pub done : Result Call RelayFault → Result (Unit {0}) RelayFault
done (Ok call) = Ok tt
done (Err fault) = Err fault

-- A refused call changes nothing.
abbrev pub after_called : RelayState → Result Call RelayFault → RelayState
after_called now (Ok call) = after_call now call
after_called now (Err fault) = now

-- ---- drains

-- the frames that a client is sent
abbrev pub frames_for : RelayState → Served → Result (List (List ℕ)) RelayFault
frames_for now client = sent_or_fault (frames_within now.limits.message (messages_due now client))

abbrev pub frames_at : RelayState → ℕ → Result (List (List ℕ)) RelayFault
frames_at now id = do
  client ← live_client now id
  frames_for now client

-- the client after a drain that shows it a view, with the frames that it is sent
abbrev pub sent_with : Served → View → List (List ℕ) → Result (Option (Served × List (List ℕ))) RelayFault
sent_with client view frames = Ok (Some (record client { shown = Some view }, frames))

-- the same, or none while its stream has no view
abbrev pub next_to : RelayState → Served → Option View → Result (Option (Served × List (List ℕ))) RelayFault
next_to now client None = Ok None
next_to now client (Some view) = sent_or_fault (frames_within now.limits.message (batch client.shown view now.limits)) >>= sent_with client view

abbrev pub next_of : RelayState → ℕ → Result (Option (Served × List (List ℕ))) RelayFault
next_of now id = do
  client ← live_client now id
  next_to now client (view_for now client)

-- ---- the end of a client

-- It needs no memory, and works on a spent relay, too.
pub record Ends (id : ℕ) (old : RelayState) (result : Result (Unit {0}) RelayFault) (new : RelayState) : Type 0 where
  pub answer : result ≡ done (leave_call old id)
  pub state : new ≡ after_called old (leave_call old id)

-- ---- the fault of a call

abbrev pub stopped : RelayFault → RelayState → RelayState
stopped faults.Memory old = record old { spent = true }
stopped fault old = old

-- A call with this fault is refused. If it ran out of memory, the relay is spent.
abbrev pub Stops : RelayFault → RelayState → Result (Unit {0}) RelayFault → RelayState → Type 0
Stops fault old result new = (result ≡ Err fault) × (new ≡ stopped fault old)
