-- What an answer of a request and of a drain comes to.
use Rattle.std.proofs.Common.{◌≡◌, ◌≢◌, ℕ, ◌+◌, ◌||◌, List, [], ◌∷◌, ◌++◌, Option, Some, None, refl, sym, ap, ◌∙◌, subst, arith}
use Rattle.std.specs.Prelude.{Ok, Err, nat_eq}
use Rattle.session_core.specs.Outboxes.{NoneEmpty}
use Rattle.view_types.specs.declared.message.Message.{Message}
use Rattle.view_types.specs.declared.query.Query.{Query}
use Rattle.feed_history.specs.Drains.{frames_of, frames_unless, too_long}
use Rattle.feed_history.specs.Ids.{unless_refused}
use Rattle.feed_history.specs.declared.refusal.HubFault.{HubFault}
use Rattle.feed_history.specs.declared.refusal.HubFault.TheVariants as hub_faults
use Rattle.mesh_hub.specs.Due.{IsUndueUnlessMemory, StaysDueOr, Undue, is_due}
use Rattle.mesh_hub.specs.Hub.{Answers, HubState, LiveSubscription, answer_of, drained, frames_at, frames_for, messages_for, new_refusal, state_of, sub_at, subscribed}
use Rattle.mesh_hub.specs.declared.hub.Hub.{Hub}
use Rattle.fed_hub.specs.HubSteps.{DrainsAt, IsSubscribed, IsTurnedAway, Same, frames_in, id_at}
use Rattle.fed_hub.specs.declared.hub.FedHub.{FedHub}
use Rattle.fed_hub.proofs.LineAnswers.{due_for, goes_for, none_answer, some_answer}

-- ---- a request

module _ (query : Query) (old new : FedHub) (same : Same old new) (number : ℕ) (is : number ≡ old.requests + 1) where
  abbrev before : HubState
  before = state_of old.hub

  pub subscribed_ok : (u : Unit {0}) → new.requests ≡ number → Answers before (answer_of (new_refusal before number)) (subscribed before (id_at number) query) (Ok u) (state_of new.hub)
      → StaysDueOr (λ n. nat_eq n number) (Ok u) old.hub new.hub → IsSubscribed query old new (id_at number)
  subscribed_ok u counted goes due = record {
    same = same;
    id_is = ap id_at is;
    requests = counted ∙ is;
    accepted = ap (new_refusal before) (sym is) ∙ none_answer u (new_refusal before number) goes.answer;
    state = goes.state ∙ ap (λ n. subscribed before (id_at n) query) is;
    due = λ id. due id ∙ ap (λ n. nat_eq id n || is_due old.hub id) is;
  }

  pub turned_away : (cause : HubFault) → cause ≢ hub_faults.Memory → new.requests ≡ old.requests
      → Answers {T = Unit {0}} before (answer_of (new_refusal before number)) (subscribed before (id_at number) query) (Err cause) (state_of new.hub)
      → StaysDueOr (λ n. nat_eq n number) (Err cause) old.hub new.hub → IsTurnedAway old new
  turned_away cause going counted answers due =
      let goes = goes_for cause going answers in
      let some : new_refusal before number ≡ Some cause = some_answer cause (new_refusal before number) goes.answer in record {
        same = same;
        requests = counted;
        state = goes.state ∙ ap (λ fault. unless_refused {A = HubFault} fault before (record before { subs = before.subs ++ record { id = id_at number; query = query; shown = None } ∷ []; last = Some number })) some;
        due = due_for (λ n. nat_eq n number) old.hub new.hub cause going due;
        cause = λ fits. (cause, ap (new_refusal before) (sym is) ∙ some);
      }

-- ---- a drain

undue_for : (T : Type 0) (gone : ℕ) (old new : Hub) (cause : HubFault) → cause ≢ hub_faults.Memory → IsUndueUnlessMemory {T = T} gone (Err cause) old new → Undue gone old new
undue_for T gone old new hub_faults.Memory going undue = absurd (going refl)
undue_for T gone old new (hub_faults.Full held) going undue = undue
undue_for T gone old new (hub_faults.TooManySubs live) going undue = undue
undue_for T gone old new (hub_faults.IdOrder last) going undue = undue
undue_for T gone old new (hub_faults.NoSuchId id) going undue = undue
undue_for T gone old new (hub_faults.Oversize bytes) going undue = undue

module _ (id : ℕ) (old new : FedHub) (same : Same old new) (counted : new.requests ≡ old.requests) where
  pub drained_ok : (frames : List (List ℕ)) → Answers (state_of old.hub) (frames_at (state_of old.hub) id) (drained (state_of old.hub) id) (Ok frames) (state_of new.hub)
      → IsUndueUnlessMemory id (Ok frames) old.hub new.hub → DrainsAt id old new (Some frames)
  drained_ok frames goes undue = record { same = same; requests = counted; answer_is = ap frames_in goes.answer; state = goes.state; due = undue }

  pub drained_err : (cause : HubFault) → cause ≢ hub_faults.Memory → Answers {T = List (List ℕ)} (state_of old.hub) (frames_at (state_of old.hub) id) (drained (state_of old.hub) id) (Err cause) (state_of new.hub)
      → IsUndueUnlessMemory {T = List (List ℕ)} id (Err cause) old.hub new.hub → DrainsAt id old new None
  drained_err cause going answers undue =
      let goes = goes_for cause going answers in
      record { same = same; requests = counted; answer_is = ap frames_in goes.answer; state = goes.state; due = undue_for (List (List ℕ)) id old.hub new.hub cause going undue }

-- a frame has a byte
framed : (messages : List Message) → NoneEmpty (frames_of messages)
framed [] = tt
framed (message ∷ messages) = (omega arith, framed messages)

framed_unless : (messages : List Message) (bytes : Option ℕ) (frames : List (List ℕ)) → Ok frames ≡ frames_unless bytes messages → NoneEmpty frames
framed_unless messages None frames is = let same : frames_of messages ≡ frames = cc in subst NoneEmpty same (framed messages)
framed_unless messages (Some n) frames is = absurd cc

framed_for : (now : HubState) (id : ℕ) (found : Option LiveSubscription) (frames : List (List ℕ)) → Ok frames ≡ frames_for now id found → NoneEmpty frames
framed_for now id None frames is = absurd cc
framed_for now id (Some sub) frames is = framed_unless (messages_for now sub) (too_long now.limits.message (messages_for now sub)) frames is

pub frames_framed : (now : HubState) (id : ℕ) (frames : List (List ℕ)) → Ok frames ≡ frames_at now id → NoneEmpty frames
frames_framed now id frames is = framed_for now id (sub_at id now.subs) frames is
