-- What a subscription is due: a new view, and the frames that bring its subscriber to it.
use Rattle.std.specs.Prelude.{◌≡◌, ℕ, List, Some, Result, Ok, Err}
use Rattle.view_types.specs.declared.view.View.{View}
use Rattle.view_rules.specs.Fold.{IsOrderlyIfShown}
use Rattle.view_rules.specs.Views.{view_of}
use Rattle.feed_history.specs.Drains.{IsOrMemory, frames_within}
use Rattle.feed_history.specs.Ids.{in_place}
use Rattle.mesh_hub.specs.Hub.{HubState, messages_for}
use Rattle.subscriptions.specs.Live.{LiveSubscription, id_of, shown_in_place}
use Rattle.feed_history.specs.declared.refusal.HubFault.{HubFault}

-- the view that the subscriber is to be shown, and the frames of its messages, none of which is too long
pub record IsDue (now : HubState) (sub : LiveSubscription) (seen : View) (sent : List (List ℕ)) : Type 0 where
  pub frames : Ok sent ≡ frames_within now.limits.message (messages_for now sub)
  pub view : seen ≡ view_of now.config now.objects sub.query
  pub orderly : IsOrderlyIfShown (Some seen)

abbrev pub IsDueOrTooLong : HubState → LiveSubscription → Result (View × List (List ℕ)) HubFault → Type 0
IsDueOrTooLong now sub (Ok due) = IsDue now sub due.0 due.1
IsDueOrTooLong now sub (Err fault) = IsOrMemory (frames_within now.limits.message (messages_for now sub)) (Err fault)

-- ---- sending

-- the state after a subscription was sent its frames, or none
abbrev pub sent : HubState → ℕ → LiveSubscription → Result (List (List ℕ)) HubFault → HubState
sent now id sub (Ok frames) = record now { subs = in_place id_of id (shown_in_place (view_of now.config now.objects sub.query)) now.subs }
sent now id sub (Err fault) = now

-- The subscriber is sent its messages and is shown its view; or one of them is too long, or memory ran out, and the hub is as before.
pub record IsSent (now : HubState) (id : ℕ) (sub : LiveSubscription) (result : Result (List (List ℕ)) HubFault) (new : HubState) : Type 0 where
  pub answer : IsOrMemory (frames_within now.limits.message (messages_for now sub)) result
  pub state : new ≡ sent now id sub result
