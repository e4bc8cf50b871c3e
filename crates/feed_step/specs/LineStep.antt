-- The effect of a step of a replay, by the machine's state and by its replies.
use Rattle.std.specs.Prelude.{◌≡◌, ◌≤◌, ◌<◌, ◌+◌, ◌-◌, ◌^◌, ℕ, Bool, nat_eq, List, [], ◌∷◌, ◌++◌, Option, Some, None, Result, Ok, Err, IfSome, is_some, min, option_map}
use Rattle.mesh_base.specs.declared.sub_id.SubId.{SubId}
use Rattle.view_types.specs.Objects.{ObjectMap}
use Rattle.view_types.specs.declared.request.Request.{Request}
use Rattle.view_types.specs.declared.verdict.Verdict.{Verdict}
use Rattle.watch_events.specs.declared.line.Line.{Line}
use Rattle.watch_events.specs.declared.line.Line.TheVariants as lines
use Rattle.request_rules.specs.Verdicts.{verdict}
use Rattle.request_sim.specs.Faults.{IsMet}
use Rattle.request_sim.specs.declared.fault.SimFault.{SimFault}
use Rattle.request_sim.specs.declared.fault.SimFault.TheVariants as sim
use Rattle.route_match.specs.Asking.{PatternFacts}
use Rattle.route_match.specs.Matching.{Pat}
use Rattle.feed_history.specs.Drains.{too_long}
use Rattle.feed_history.specs.Due.{is_touched}
use Rattle.feed_history.specs.Events.{objects_after}
use Rattle.feed_history.specs.History.{State, after_line, refusal_of, ids_of}
use Rattle.mesh_hub.specs.Hub.{HubState, applied, apply_refusal, cancelled, drained, messages_for, new_refusal, sub_at, subscribed}
use Rattle.feed_history.specs.Ids.{ended, in_place, unknown_refusal, unless_refused}
use Rattle.feed_history.specs.Marks.{mark}
use Rattle.feed_history.specs.Output.{line_text, message_lines, row_piece}
use Rattle.feed_history.specs.Program.{Program}
use Rattle.mesh_hub.specs.Due.{BecomeDue, Leaves, StayUnlessSpent}
use Rattle.mesh_hub.specs.HubAfter.{seen}
use Rattle.feed_history.specs.Text.{oversize_line}
use Rattle.feed_history.specs.VerdictText.{verdict_line}
use Rattle.subscriptions.specs.Live.{LiveSubscription, query_at}
use Rattle.mesh_hub.specs.declared.machine.Reply.{Reply}
use Rattle.feed_history.specs.declared.refusal.HubFault.{HubFault}
use Rattle.feed_history.specs.declared.refusal.HubFault.TheVariants as faults
use Rattle.feed_history.specs.declared.refusal.Refusal.{Refusal}
use Rattle.feed_history.specs.declared.refusal.Refusal.TheVariants as refusals
use Rattle.feed_history.specs.Lengths.{RowHasLength}
use Rattle.feed_step.specs.Transcript.{Saying, refusal_in, refused_said, said_by, text_said}
use Rattle.feed_history.specs.KnownPatterns.{PatternsNow, facts_in}
use Rattle.feed_history.specs.MarkCauses.{IsToldFor, MayMeetBy}
use Rattle.feed_step.specs.declared.drain.Drained.{Drained}
use Rattle.feed_step.specs.declared.drain.Drained.TheVariants.{Sent, Ended, Undrained}

-- ---- one call of the machine

-- the text of an accepted line; a refused line has none
abbrev pub text_unless : Option Refusal → List ℕ → List ℕ
text_unless None text = text
text_unless (Some refusal) text = []

-- the refusal for a fault
abbrev pub IsRefusalBy : HubFault → Option Refusal → Type 0
IsRefusalBy faults.Memory refusal = ⊥
IsRefusalBy (faults.Full held) refusal = refusal ≡ Some (refusals.Hub (faults.Full held))
IsRefusalBy (faults.TooManySubs live) refusal = refusal ≡ Some (refusals.Hub (faults.TooManySubs live))
IsRefusalBy (faults.IdOrder last) refusal = refusal ≡ Some (refusals.Hub (faults.IdOrder last))
IsRefusalBy (faults.NoSuchId id) refusal = refusal ≡ Some (refusals.Hub (faults.NoSuchId id))
IsRefusalBy (faults.Oversize bytes) refusal = refusal ≡ Some (refusals.Hub (faults.Oversize bytes))

-- the call was refused, for its cause, or done, and this is the state after it
pub record Makes (fault : Option HubFault) (after : HubState) (refusal : Option Refusal) (new : HubState) : Type 0 where
  pub refusal_is : refusal ≡ option_map refusals.Hub fault
  pub state : new ≡ after

-- the machine added one reply, which refuses the line or whose text was written
pub record Replied (text : Reply → List ℕ) (refusal : Option Refusal) (out out_new : List ℕ) (old new : List Reply) : Type 0 where
  pub reply : Reply
  pub adds : new ≡ old ++ reply ∷ []
  pub refuses : refusal ≡ refusal_in reply
  pub texts : out_new ≡ out ++ text reply

-- the machine added no reply, and the line was accepted
pub record Unreplied (refusal : Option Refusal) (old new : List Reply) : Type 0 where
  pub none : new ≡ old
  pub accepts : refusal ≡ None

-- the live ids after a call that may change them unless it is refused
abbrev pub live_unless : Option Refusal → List ℕ → List ℕ → List ℕ
live_unless None live live_new = live_new
live_unless (Some refusal) live live_new = live

-- ---- a drain

-- the lines written for a drain of an id with this subscription, or none
abbrev pub drained_lines : HubState → ℕ → Option LiveSubscription → List ℕ
drained_lines now id None = []
drained_lines now id (Some sub) = message_lines now.limits.message id (messages_for now sub)

abbrev pub drained_unless : Option ℕ → Drained
drained_unless None = Sent
drained_unless (Some bytes) = Ended

-- the outcome of such a drain
abbrev pub drained_as : HubState → ℕ → Option LiveSubscription → Drained
drained_as now id None = Undrained (faults.NoSuchId id)
drained_as now id (Some sub) = drained_unless (too_long now.limits.message (messages_for now sub))

-- the length of a message that is too long is below 2 ^ 64
abbrev pub LengthFits : HubState → Option LiveSubscription → Type 0
LengthFits now None = Unit {0}
LengthFits now (Some sub) = IfSome (too_long now.limits.message (messages_for now sub)) (λ bytes. bytes < 2 ^ 64)

pub record Drains (id : SubId) (outcome : Drained) (out out_new : List ℕ) (old new : HubState) : Type 0 where
  pub outcome_is : outcome ≡ drained_as old id.0 (sub_at id.0 old.subs)
  pub fits : LengthFits old (sub_at id.0 old.subs)
  pub state : new ≡ drained old id.0
  pub text : out_new ≡ out ++ drained_lines old id.0 (sub_at id.0 old.subs)

abbrev pub drain_refusal : Drained → Option Refusal
drain_refusal Sent = None
drain_refusal Ended = None
drain_refusal (Undrained fault) = Some (refusals.Hub fault)

-- the live ids after a drain
abbrev pub live_drained : ℕ → Drained → List ℕ → List ℕ
live_drained id Sent live = live
live_drained id Ended live = in_place (λ other. other) id ended live
live_drained id (Undrained fault) live = live

-- the outcome of a drain that a fault ended
abbrev pub IsUndrained : ℕ → HubFault → List ℕ → List ℕ → Drained → Type 0
IsUndrained id faults.Memory out out_new outcome = ⊥
IsUndrained id (faults.Oversize bytes) out out_new outcome = (outcome ≡ Ended) × (out_new ≡ out ++ oversize_line id bytes) × (bytes < 2 ^ 64)
IsUndrained id (faults.Full held) out out_new outcome = (outcome ≡ Undrained (faults.Full held)) × (out_new ≡ out)
IsUndrained id (faults.TooManySubs live) out out_new outcome = (outcome ≡ Undrained (faults.TooManySubs live)) × (out_new ≡ out)
IsUndrained id (faults.IdOrder last) out out_new outcome = (outcome ≡ Undrained (faults.IdOrder last)) × (out_new ≡ out)
IsUndrained id (faults.NoSuchId unknown) out out_new outcome = (outcome ≡ Undrained (faults.NoSuchId unknown)) × (out_new ≡ out)

-- ---- a simulation

-- the refusal of a simulation that met this fault
abbrev pub IsRefusalFor : SimFault → Option Refusal → Type 0
IsRefusalFor sim.Memory refusal = ⊥
IsRefusalFor (sim.Pattern route rule item) refusal = refusal ≡ Some (refusals.Sim (sim.Pattern route rule item))

-- the request may meet the fault, if there is one
abbrev pub IsMetIfAny : HubState → PatternFacts → Request → Option SimFault → Type 0
IsMetIfAny now facts request None = Unit {0}
IsMetIfAny now facts request (Some fault) = IsMet now.objects facts request fault

-- The simulation was refused for a fault that it met, or its verdict was written; the machine is unchanged.
pub record IsSimulated (known : PatternsNow) (number : ℕ) (request : Request) (refusal : Option Refusal) (out out_new : List ℕ) (old new : HubState) : Type 0 where
  pub met : Option SimFault
  pub counted : min (mark met + known.before) (2 ^ 64 - 1) ≤ known.now
  pub may_meet : IsMetIfAny old (facts_in known) request met
  pub refusal_is : refusal ≡ option_map refusals.Sim met
  pub state : new ≡ old
  pub wrote : refusal ≡ None → (found : Verdict) × (out_new ≡ out ++ verdict_line number request.ns found)
  pub text : (pat : Pat) → known.tells ≡ Some pat → out_new ≡ out ++ text_unless refusal (verdict_line number request.ns (verdict old.config old.objects pat request))

-- ---- a line

-- What the call of a line that has a place does in a state of the machine: the line is refused, for its cause, or accepted. A history
-- need not have led to the state.
abbrev pub Calls : PatternsNow → ℕ → Line → Option Refusal → List ℕ → List ℕ → List ℕ → List ℕ → HubState → HubState → Type 0
Calls known number (lines.Event event) refusal live live_new out out_new old new =
    Makes (apply_refusal old event) (applied old event) refusal new × (live_new ≡ live) × (out_new ≡ out)
Calls known number (lines.Subscribe id query) refusal live live_new out out_new old new =
    Makes (new_refusal old id.0) (subscribed old id query) refusal new × (live_new ≡ live_unless refusal live (live ++ id.0 ∷ [])) × (out_new ≡ out)
Calls known number (lines.Cancel id) refusal live live_new out out_new old new =
    Makes (unknown_refusal id.0 (sub_at id.0 old.subs)) (cancelled old id.0) refusal new × (live_new ≡ live_unless refusal live (in_place (λ other. other) id.0 ended live)) × (out_new ≡ out)
Calls known number (lines.Drain id) refusal live live_new out out_new old new =
    (outcome : Drained) × Drains id outcome out out_new old new × (refusal ≡ drain_refusal outcome) × (live_new ≡ live_drained id.0 outcome live)
Calls known number (lines.Simulate request) refusal live live_new out out_new old new = IsSimulated known number request refusal out out_new old new × (live_new ≡ live)
Calls known number lines.Blank refusal live live_new out out_new old new = (refusal ≡ None) × (live_new ≡ live) × (out_new ≡ out) × (new ≡ old)
Calls known number lines.Stop refusal live live_new out out_new old new = (refusal ≡ None) × (live_new ≡ live) × (out_new ≡ out) × (new ≡ old)

-- if the line is accepted, the ids that pass the test become due; a refusal changes nothing
abbrev pub DueIf : Option Refusal → (ℕ → Bool) → (ℕ → Bool) → (ℕ → Bool) → Type 0
DueIf None test was now = BecomeDue test was now
DueIf (Some refusal) test was now = (id : ℕ) → now id ≡ was id

-- which ids are due after the call, given which were, and the machine's states
abbrev pub CallsDue : Line → Option Refusal → HubState → Option HubState → (ℕ → Bool) → (ℕ → Bool) → Type 0
CallsDue (lines.Event event) refusal old new was now = DueIf refusal (λ id. is_touched old.config old.objects event (query_at id old.subs)) was now
CallsDue (lines.Subscribe asked query) refusal old new was now = DueIf refusal (λ id. nat_eq id asked.0) was now
CallsDue (lines.Cancel asked) refusal old new was now = Leaves asked.0 was now
CallsDue (lines.Drain asked) refusal old new was now = Leaves asked.0 was now
CallsDue (lines.Simulate request) refusal old new was now = StayUnlessSpent new was now
CallsDue lines.Blank refusal old new was now = (id : ℕ) → now id ≡ was id
CallsDue lines.Stop refusal old new was now = (id : ℕ) → now id ≡ was id

-- the objects held after a line that was refused or accepted
abbrev pub held_next : ObjectMap → Option Refusal → Result Line Refusal → ObjectMap
held_next held refusal (Ok (lines.Event event)) = unless_refused {A = Refusal} refusal held (objects_after held event)
held_next held refusal (Ok (lines.Subscribe id query)) = held
held_next held refusal (Ok (lines.Cancel id)) = held
held_next held refusal (Ok (lines.Drain id)) = held
held_next held refusal (Ok (lines.Simulate request)) = held
held_next held refusal (Ok lines.Blank) = held
held_next held refusal (Ok lines.Stop) = held
held_next held refusal (Err fault) = held

-- the state after a line that was refused or accepted
abbrev pub led_to : Program → State → Option Refusal → Result Line Refusal → State
led_to program now refusal line = unless_refused {A = Refusal} refusal now (after_line program now line)

-- The line with this number was refused, for its cause, or accepted; its text was appended, and the machine's state is that after the
-- line. A length in the text fits its type.
pub record TakesByState (program : Program) (known : PatternsNow) (number : ℕ) (line : Result Line Refusal) (refusal : Option Refusal) (live_new : List ℕ) (out out_new : List ℕ) (now : State) (new : HubState) : Type 0 where
  pub met : Option SimFault
  pub counted : min (mark met + known.before) (2 ^ 64 - 1) ≤ known.now
  pub may_meet : MayMeetBy now (facts_in known) line met
  pub refusal_is : refusal ≡ refusal_of program now met line
  pub fits : RowHasLength program now refusal line
  pub state : new ≡ seen program (led_to program now refusal line)
  pub live_ids : live_new ≡ ids_of (led_to program now refusal line).subs
  pub text : IsToldFor program known.tells line → out_new ≡ out ++ text_unless refusal (line_text program number now line)

-- The same for any history whose state the machine had.
abbrev pub TakesFrom : Program → PatternsNow → ℕ → Result Line Refusal → Option Refusal → List ℕ → List ℕ → List ℕ → List ℕ → HubState → HubState → Type 0
TakesFrom program known number line refusal live live_new out out_new old new =
    (now : State) → old ≡ seen program now → live ≡ ids_of now.subs → TakesByState program known number line refusal live_new out out_new now new

-- The added replies are those to the line with this number.
pub record TakesByReplies (number : ℕ) (line : Result Line Refusal) (refusal : Option Refusal) (out out_new : List ℕ) (old new : List Reply) : Type 0 where
  pub mine : List Reply
  pub adds : new ≡ old ++ mine
  pub text : List ℕ
  pub texts : out_new ≡ out ++ text_unless refusal text
  pub sayings : List Saying
  pub says : (left : List Reply) (more : List Reply → List Saying) → said_by number line (mine ++ left) more ≡ sayings ++ more left
  pub says_text : text_said sayings ≡ row_piece number refusal text
  pub says_refused : refused_said sayings ≡ is_some refusal
