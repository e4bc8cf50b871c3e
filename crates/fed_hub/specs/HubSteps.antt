-- The effects of a request, a cancellation and a drain.
use Rattle.std.specs.Prelude.{◌≡◌, ◌<◌, ◌+◌, ◌^◌, ℕ, nat_eq, List, Option, Some, None, Result, Ok, Err}
use Rattle.mesh_base.specs.declared.sub_id.SubId.{SubId}
use Rattle.view_types.specs.declared.query.Query.{Query}
use Rattle.feed_history.specs.declared.refusal.HubFault.{HubFault}
use Rattle.mesh_hub.specs.Due.{AlsoDue, Undue, is_due}
use Rattle.mesh_hub.specs.Hub.{cancelled, drained, frames_at, new_refusal, state_of, subscribed}
use Rattle.fed_hub.specs.declared.hub.FedHub.{FedHub}

abbrev pub id_at : ℕ → SubId
id_at number = record { 0 = number }

-- only the hub and the number of requests may differ
pub record Same (old new : FedHub) : Type 0 where
  pub config : new.config ≡ old.config
  pub stopped : new.stopped ≡ old.stopped

-- A request is accepted under the next number, and its subscription is due.
pub record IsSubscribed (query : Query) (old new : FedHub) (id : SubId) : Type 0 where
  pub same : Same old new
  pub id_is : id ≡ id_at (old.requests + 1)
  pub requests : new.requests ≡ old.requests + 1
  pub accepted : new_refusal (state_of old.hub) (old.requests + 1) ≡ None
  pub state : state_of new.hub ≡ subscribed (state_of old.hub) (id_at (old.requests + 1)) query
  pub due : AlsoDue (λ n. nat_eq n (old.requests + 1)) old.hub new.hub

-- The request is refused, which changes nothing. After 2 ^ 32 - 1 accepted requests every request is refused.
pub record IsTurnedAway (old new : FedHub) : Type 0 where
  pub same : Same old new
  pub requests : new.requests ≡ old.requests
  pub state : state_of new.hub ≡ state_of old.hub
  pub due : (id : ℕ) → is_due new.hub id ≡ is_due old.hub id
  pub cause : old.requests + 1 < 2 ^ 32 → (fault : HubFault) × (new_refusal (state_of old.hub) (old.requests + 1) ≡ Some fault)

abbrev pub SubscribesNext : FedHub → Query → FedHub → Option SubId → Type 0
SubscribesNext old query new (Some id) = IsSubscribed query old new id
SubscribesNext old query new None = IsTurnedAway old new

-- A subscription ends, if it is live. Nothing else changes.
pub record CancelsAt (id : ℕ) (old new : FedHub) : Type 0 where
  pub same : Same old new
  pub requests : new.requests ≡ old.requests
  pub state : state_of new.hub ≡ cancelled (state_of old.hub) id
  pub due : Undue id old.hub new.hub

-- the frames, unless a message is too long
abbrev pub frames_in : Result (List (List ℕ)) HubFault → Option (List (List ℕ))
frames_in (Ok frames) = Some frames
frames_in (Err fault) = None

-- A subscription is drained and is then not due; if a message is too long, it ends.
pub record DrainsAt (id : ℕ) (old new : FedHub) (answer : Option (List (List ℕ))) : Type 0 where
  pub same : Same old new
  pub requests : new.requests ≡ old.requests
  pub answer_is : answer ≡ frames_in (frames_at (state_of old.hub) id)
  pub state : state_of new.hub ≡ drained (state_of old.hub) id
  pub due : Undue id old.hub new.hub
