-- What an answer of a call of the machine comes to.
use Rattle.std.proofs.Common.{◌≡◌, ◌<◌, ℕ, Bool, ◌^◌, List, [], ◌∷◌, ◌++◌, Option, Some, None, refl, sym, ap, ◌∙◌, subst, append-nil}
use Rattle.std.specs.Prelude.{IfSome, Result, Ok, Err, flat_map, option_map}
use Rattle.mesh_base.specs.declared.sub_id.SubId.{SubId}
use Rattle.view_types.specs.declared.message.Message.{Message}
use Rattle.feed_history.specs.Drains.{frames_of, frames_unless, too_long}
use Rattle.mesh_hub.specs.Hub.{Answers, Cancels, HubState, answer_of, cancel_answer, cancelled, drained, frames_at, frames_for, messages_for, sub_at}
use Rattle.feed_history.specs.Ids.{unknown_refusal}
use Rattle.feed_history.specs.Optional.{Becomes, Becomes-weaker, Extends}
use Rattle.feed_history.specs.Output.{lines_unless}
use Rattle.mesh_hub.specs.Replies.{done_reply, drain_reply}
use Rattle.feed_history.specs.Text.{frame_line, oversize_line}
use Rattle.subscriptions.specs.Live.{LiveSubscription}
use Rattle.mesh_hub.specs.declared.machine.Reply.{Reply}
use Rattle.mesh_hub.specs.declared.machine.Reply.TheVariants as replies
use Rattle.feed_history.specs.declared.refusal.HubFault.{HubFault}
use Rattle.feed_history.specs.declared.refusal.HubFault.TheVariants.{Memory, Full, TooManySubs, IdOrder, NoSuchId, Oversize}
use Rattle.feed_history.specs.declared.refusal.NoSuchId.{NoSuchId as NotLive}
use Rattle.feed_history.specs.declared.refusal.Refusal.{Refusal}
use Rattle.feed_history.specs.declared.refusal.Refusal.TheVariants as refusals
use Rattle.feed_step.specs.Transcript.{reply_text}
use Rattle.mesh_hub.specs.Due.{BecomeDueIfOk, Leaves, LeavesUnlessMemory}
use Rattle.feed_step.specs.LineStep.{Drains, DueIf, IsRefusalBy, IsUndrained, LengthFits, Makes, Replied, Unreplied, drain_refusal, drained_as, drained_lines, drained_unless}
use Rattle.feed_step.specs.declared.drain.Drained.{Drained}
use Rattle.feed_step.specs.declared.drain.Drained.TheVariants.{Sent, Ended, Undrained}

-- ---- an event, a subscription

none_answer : (u : Unit {0}) (fault : Option HubFault) → Ok u ≡ answer_of fault → fault ≡ None
none_answer u None is = refl
none_answer u (Some fault) is = absurd cc

some_answer : (cause : HubFault) (fault : Option HubFault) → Err cause ≡ answer_of fault → fault ≡ Some cause
some_answer cause None is = absurd cc
some_answer cause (Some fault) is = let same : cause ≡ fault = cc in ap (λ (f : HubFault). Some f) (sym same)

pub made_ok : (u : Unit {0}) (fault : Option HubFault) (old after new : HubState) → Answers old (answer_of fault) after (Ok u) new → Makes fault after None new
made_ok u fault old after new goes = record { refusal_is = ap (option_map refusals.Hub) (sym (none_answer u fault goes.answer)); state = goes.state }

module _ (fault : Option HubFault) (old after new : HubState) where
  made_so : (cause : HubFault) (refusal : Option Refusal) → Err cause ≡ answer_of fault → new ≡ after → refusal ≡ Some (refusals.Hub cause) → Makes fault after refusal new
  made_so cause refusal answer state is = record { refusal_is = is ∙ ap (option_map refusals.Hub) (sym (some_answer cause fault answer)); state = state }

  pub made_err : (cause : HubFault) (refusal : Option Refusal) → Answers {T = Unit {0}} old (answer_of fault) after (Err cause) new → IsRefusalBy cause refusal → Makes fault after refusal new
  made_err Memory refusal answers is = absurd is
  made_err (Full held) refusal answers is = made_so (Full held) refusal answers.answer answers.state is
  made_err (TooManySubs live) refusal answers is = made_so (TooManySubs live) refusal answers.answer answers.state is
  made_err (IdOrder last) refusal answers is = made_so (IdOrder last) refusal answers.answer answers.state is
  made_err (NoSuchId id) refusal answers is = made_so (NoSuchId id) refusal answers.answer answers.state is
  made_err (Oversize bytes) refusal answers is = made_so (Oversize bytes) refusal answers.answer answers.state is

pub replied_ok : (u : Unit {0}) (old new : List Reply) → new ≡ old ++ done_reply (Ok u) → Replied reply_text None [] [] old new
replied_ok u old new adds = record { reply = replies.Done; adds = adds; refuses = refl; texts = refl }

refused_so : (cause : HubFault) (refusal : Option Refusal) (out out_new : List ℕ) (old new : List Reply) → new ≡ old ++ replies.Refused cause ∷ [] → refusal ≡ Some (refusals.Hub cause) → out_new ≡ out
    → Replied reply_text refusal out out_new old new
refused_so cause refusal out out_new old new adds is same = record { reply = replies.Refused cause; adds = adds; refuses = is; texts = same ∙ sym (append-nil out) }

pub replied_err : (cause : HubFault) (refusal : Option Refusal) (old new : List Reply) → IsRefusalBy cause refusal → new ≡ old ++ done_reply (Err cause) → Replied reply_text refusal [] [] old new
replied_err Memory refusal old new is adds = absurd is
replied_err (Full held) refusal old new is adds = refused_so (Full held) refusal [] [] old new adds is refl
replied_err (TooManySubs live) refusal old new is adds = refused_so (TooManySubs live) refusal [] [] old new adds is refl
replied_err (IdOrder last) refusal old new is adds = refused_so (IdOrder last) refusal [] [] old new adds is refl
replied_err (NoSuchId id) refusal old new is adds = refused_so (NoSuchId id) refusal [] [] old new adds is refl
replied_err (Oversize bytes) refusal old new is adds = refused_so (Oversize bytes) refusal [] [] old new adds is refl

-- ---- a cancellation

found_ok : (id : ℕ) (u : Unit {0}) (found : Option LiveSubscription) → Ok u ≡ cancel_answer found → unknown_refusal id found ≡ None
found_ok id u (Some sub) is = refl
found_ok id u None is = absurd cc

found_err : (id : ℕ) (e : NotLive) (found : Option LiveSubscription) → Err e ≡ cancel_answer found → unknown_refusal id found ≡ Some (NoSuchId id)
found_err id e (Some sub) is = absurd cc
found_err id e None is = refl

pub cancelled_ok : (id : ℕ) (u : Unit {0}) (old new : HubState) → Cancels id old (Ok u) new → Makes (unknown_refusal id (sub_at id old.subs)) (cancelled old id) None new
cancelled_ok id u old new cancels = record { refusal_is = ap (option_map refusals.Hub) (sym (found_ok id u (sub_at id old.subs) cancels.answer)); state = cancels.state }

pub cancelled_err : (id : ℕ) (e : NotLive) (old new : HubState) → Cancels id old (Err e) new
    → Makes (unknown_refusal id (sub_at id old.subs)) (cancelled old id) (Some (refusals.Hub (NoSuchId id))) new
cancelled_err id e old new cancels = record { refusal_is = ap (option_map refusals.Hub) (sym (found_err id e (sub_at id old.subs) cancels.answer)); state = cancels.state }

pub unreplied_ok : (u : Unit {0}) (old new : List Reply) → (new ≡ old) × ◌≡◌ {A = Result (Unit {0}) NotLive} (Ok u) (Ok tt) → Unreplied None old new
unreplied_ok u old new same = record { none = same.0; accepts = refl }

-- a machine that tells its replies doesn't refuse it
pub unreplied_err : (e : NotLive) (refusal : Option Refusal) (old new : List Reply) → (new ≡ old) × ◌≡◌ {A = Result (Unit {0}) NotLive} (Err e) (Ok tt) → Unreplied refusal old new
unreplied_err e refusal old new same = absurd (let apart = same.1 in cc)

-- ---- a drain

-- a length, if there is one, is below 2 ^ 64
abbrev BytesFit : Option ℕ → Type 0
BytesFit bytes = IfSome bytes (λ n. n < 2 ^ 64)

module _ (now : HubState) (id : ℕ) where
  sent_as : (frames : List (List ℕ)) (found : Option LiveSubscription) → Ok frames ≡ frames_for now id found
      → (Sent ≡ drained_as now id found) × (flat_map (frame_line id) frames ≡ drained_lines now id found) × LengthFits now found
  sent_as frames None is = absurd cc
  sent_as frames (Some sub) is = by_length (messages_for now sub) (too_long now.limits.message (messages_for now sub)) is
    where
      by_length : (messages : List Message) (bytes : Option ℕ) → Ok frames ≡ frames_unless bytes messages
          → (Sent ≡ drained_unless bytes) × (flat_map (frame_line id) frames ≡ lines_unless id messages bytes) × BytesFit bytes
      by_length messages None is = let same : frames ≡ frames_of messages = cc in (refl, ap (flat_map (frame_line id)) same, tt)
      by_length messages (Some n) is = absurd cc

  ended_as : (bytes : ℕ) (found : Option LiveSubscription) → bytes < 2 ^ 64 → Err (Oversize bytes) ≡ frames_for now id found
      → (Ended ≡ drained_as now id found) × (oversize_line id bytes ≡ drained_lines now id found) × LengthFits now found
  ended_as bytes None fits is = absurd cc
  ended_as bytes (Some sub) fits is = by_length (messages_for now sub) (too_long now.limits.message (messages_for now sub)) is
    where
      by_length : (messages : List Message) (longer : Option ℕ) → Err (Oversize bytes) ≡ frames_unless longer messages
          → (Ended ≡ drained_unless longer) × (oversize_line id bytes ≡ lines_unless id messages longer) × BytesFit longer
      by_length messages None is = absurd cc
      by_length messages (Some n) is = let same : bytes ≡ n = cc in (refl, ap (oversize_line id) same, subst (λ (k : ℕ). k < 2 ^ 64) same fits)

  undrained_as : (cause : HubFault) (found : Option LiveSubscription) → ((bytes : ℕ) → cause ≡ Oversize bytes → ⊥) → Err cause ≡ frames_for now id found
      → (Undrained cause ≡ drained_as now id found) × ([] ≡ drained_lines now id found) × LengthFits now found
  undrained_as cause None other is = let same : cause ≡ NoSuchId id = cc in (ap Undrained same, refl, tt)
  undrained_as cause (Some sub) other is = absurd (by_length (messages_for now sub) (too_long now.limits.message (messages_for now sub)) is)
    where
      by_length : (messages : List Message) (longer : Option ℕ) → Err cause ≡ frames_unless longer messages → ⊥
      by_length messages None is = absurd cc
      by_length messages (Some n) is = other n cc

module _ (id : SubId) (out out_new : List ℕ) (old new : HubState) where
  pub drains_ok : (frames : List (List ℕ)) → Answers old (frames_at old id.0) (drained old id.0) (Ok frames) new → out_new ≡ out ++ flat_map (frame_line id.0) frames → Drains id Sent out out_new old new
  drains_ok frames goes writes =
      let sent = sent_as old id.0 frames (sub_at id.0 old.subs) goes.answer in
      record { outcome_is = sent.0; fits = sent.2; state = goes.state; text = writes ∙ ap (λ (xs : List ℕ). out ++ xs) sent.1 }

  undrained_so : (cause : HubFault) (outcome : Drained) → ((bytes : ℕ) → cause ≡ Oversize bytes → ⊥) → Err cause ≡ frames_at old id.0 → new ≡ drained old id.0
      → (outcome ≡ Undrained cause) × (out_new ≡ out) → Drains id outcome out out_new old new
  undrained_so cause outcome other answer state is =
      let left = undrained_as old id.0 cause (sub_at id.0 old.subs) other answer in
      record { outcome_is = is.0 ∙ left.0; fits = left.2; state = state; text = is.1 ∙ sym (append-nil out) ∙ ap (λ (xs : List ℕ). out ++ xs) left.1 }

  pub drains_err : (cause : HubFault) (outcome : Drained) → Answers old (frames_at old id.0) (drained old id.0) (Err cause) new → IsUndrained id.0 cause out out_new outcome → Drains id outcome out out_new old new
  drains_err Memory outcome answers is = absurd is
  drains_err (Oversize bytes) outcome answers is =
      let ended = ended_as old id.0 bytes (sub_at id.0 old.subs) is.2 answers.answer in
      record { outcome_is = is.0 ∙ ended.0; fits = ended.2; state = answers.state; text = is.1 ∙ ap (λ (xs : List ℕ). out ++ xs) ended.1 }
  drains_err (Full held) outcome answers is = undrained_so (Full held) outcome (λ bytes same. absurd cc) answers.answer answers.state is
  drains_err (TooManySubs live) outcome answers is = undrained_so (TooManySubs live) outcome (λ bytes same. absurd cc) answers.answer answers.state is
  drains_err (IdOrder last) outcome answers is = undrained_so (IdOrder last) outcome (λ bytes same. absurd cc) answers.answer answers.state is
  drains_err (NoSuchId unknown) outcome answers is = undrained_so (NoSuchId unknown) outcome (λ bytes same. absurd cc) answers.answer answers.state is

module _ (id : SubId) (out out_new : List ℕ) (old new : List Reply) where
  pub drain_replied_ok : (frames : List (List ℕ)) → new ≡ old ++ drain_reply id (Ok frames) → out_new ≡ out ++ flat_map (frame_line id.0) frames → Replied reply_text (drain_refusal Sent) out out_new old new
  drain_replied_ok frames adds writes = record { reply = replies.Frames id frames; adds = adds; refuses = refl; texts = writes }

  undrained_replied : (cause : HubFault) (outcome : Drained) → new ≡ old ++ replies.Refused cause ∷ [] → (outcome ≡ Undrained cause) × (out_new ≡ out) → Replied reply_text (drain_refusal outcome) out out_new old new
  undrained_replied cause outcome adds is = refused_so cause (drain_refusal outcome) out out_new old new adds (ap drain_refusal is.0) is.1

  pub drain_replied_err : (cause : HubFault) (outcome : Drained) → new ≡ old ++ drain_reply id (Err cause) → IsUndrained id.0 cause out out_new outcome → Replied reply_text (drain_refusal outcome) out out_new old new
  drain_replied_err Memory outcome adds is = absurd is
  drain_replied_err (Oversize bytes) outcome adds is = record { reply = replies.TooBig id bytes; adds = adds; refuses = ap drain_refusal is.0; texts = is.1 }
  drain_replied_err (Full held) outcome adds is = undrained_replied (Full held) outcome adds is
  drain_replied_err (TooManySubs live) outcome adds is = undrained_replied (TooManySubs live) outcome adds is
  drain_replied_err (IdOrder last) outcome adds is = undrained_replied (IdOrder last) outcome adds is
  drain_replied_err (NoSuchId unknown) outcome adds is = undrained_replied (NoSuchId unknown) outcome adds is

-- a call that adds no reply
pub unreplied_extends : (a b : Option (List Reply)) (refusal : Option Refusal) → Becomes a b (Unreplied refusal) → Becomes a b Extends
unreplied_extends a b refusal unreplied = Becomes-weaker a b (Unreplied refusal) Extends (λ xs ys is. record { added = []; adds = is.none ∙ sym (append-nil xs) }) unreplied

-- ---- which ids are due

pub due_err : (test : ℕ → Bool) (cause : HubFault) (refusal : Option Refusal) (was now : ℕ → Bool) → BecomeDueIfOk test (Err cause) was now → IsRefusalBy cause refusal → DueIf refusal test was now
due_err test Memory refusal was now stays is = absurd is
due_err test (Full held) refusal was now stays is = subst (λ r. DueIf r test was now) (sym is) stays
due_err test (TooManySubs live) refusal was now stays is = subst (λ r. DueIf r test was now) (sym is) stays
due_err test (IdOrder last) refusal was now stays is = subst (λ r. DueIf r test was now) (sym is) stays
due_err test (NoSuchId id) refusal was now stays is = subst (λ r. DueIf r test was now) (sym is) stays
due_err test (Oversize bytes) refusal was now stays is = subst (λ r. DueIf r test was now) (sym is) stays

pub left_err : (id : ℕ) (cause : HubFault) (outcome : Drained) (out out_new : List ℕ) (was now : ℕ → Bool) → LeavesUnlessMemory {T = List (List ℕ)} id (Err cause) was now → IsUndrained id cause out out_new outcome → Leaves id was now
left_err id Memory outcome out out_new was now leaves is = absurd is
left_err id (Full held) outcome out out_new was now leaves is = leaves
left_err id (TooManySubs live) outcome out out_new was now leaves is = leaves
left_err id (IdOrder last) outcome out out_new was now leaves is = leaves
left_err id (NoSuchId unknown) outcome out out_new was now leaves is = leaves
left_err id (Oversize bytes) outcome out out_new was now leaves is = leaves
