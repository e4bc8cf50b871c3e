-- The effect of a line, by the answer of its call.
use Rattle.std.proofs.Common.{◌≡◌, ◌≢◌, ℕ, true, List, [], ◌∷◌, ◌++◌, Option, Some, None, Ok, Err, refl, sym, ap, subst, ◌∙◌, append-nil, append_assoc, eqb, inl, inr}
use Rattle.std.specs.Prelude.{IfErr, OnOk, Result, flat_map}
use Rattle.view_types.specs.declared.message.Message.{Message}
use Rattle.feed_history.specs.Drains.{frames_of, frames_unless, too_long}
use Rattle.feed_history.specs.Ids.{ended, in_place}
use Rattle.feed_history.proofs.EntriesById.{same_id}
use Rattle.feed_history.specs.Output.{lines_unless}
use Rattle.feed_history.specs.Text.{frame_line}
use Rattle.view_relay.specs.Accepted.{◌>>=◌, drain_call, leave_call, sent_or_fault}
use Rattle.view_relay.specs.Answers.{Answers, Goes, after_called, done, frames_at, frames_for}
use Rattle.view_relay.specs.ById.{first_id, id_of, value_at}
use Rattle.view_relay.specs.Given.{Fails, Gives}
use Rattle.view_relay.specs.Relayed.{call_text, client_lines, end_lines, made_by}
use Rattle.view_relay.specs.Relays.{Call, RelayState, Served, messages_due}
use Rattle.view_relay.specs.Rows.{IsOther, IsSent, IsUnsent, Refused, Takes, Took}
use Rattle.view_relay.specs.declared.fault.RelayFault.{RelayFault}
use Rattle.view_relay.specs.declared.fault.RelayFault.TheVariants as faults
use Rattle.view_relay.specs.declared.fault.RowFault.TheVariants as rows

-- a fault other than out of memory is that of the definition
going_on : {T : Type 0} (old after new : RelayState) (expected : Result T RelayFault) (fault : RelayFault) → fault ≢ faults.Memory → Answers old expected after (Err fault) new → Goes old expected after (Err fault) new
going_on old after new expected faults.Memory other answers = absurd (other refl)
going_on old after new expected fault other answers = answers

abbrev no_frames : RelayFault → Result (List (List ℕ)) RelayFault
no_frames fault = Err fault

-- ---- calls without a text

-- no text for whatever call this makes
pub silent : {A : Type 0} (old : RelayState) (make : A → Call) → ((x : A) → call_text old (make x) ≡ []) → (made : Result A RelayFault) (call : Call) → (made >>= λ x. Ok (make x)) ≡ Ok call → call_text old call ≡ []
silent old make none (Ok x) call is = let same : make x ≡ call = cc is in ap (call_text old) (sym same) ∙ none x
silent old make none (Err fault) call is = absurd (cc is)

module _ (old : RelayState) where
  took : (call : Result Call RelayFault) → ((c : Call) → call ≡ Ok c → call_text old c ≡ []) → (new : RelayState) → Ok tt ≡ done call → new ≡ after_called old call → (text : List ℕ) → Took (made_by call) old new text text
  took (Ok call) none new answer state text = record { accepted = refl; state = state; writes = λ number. sym (append-nil text) ∙ ap (λ (more : List ℕ). text ++ more) (sym (none call refl)) }
  took (Err fault) none new answer state text = absurd (cc answer)

  refused : (call : Result Call RelayFault) (fault : RelayFault) (new : RelayState) → Err fault ≡ done call → new ≡ after_called old call → (text : List ℕ) → Refused (made_by call) fault old new text text
  refused (Ok call) fault new answer state text = absurd (cc answer)
  refused (Err found) fault new answer state text = let same : fault ≡ found = cc answer in record { told = ap (λ (fault : RelayFault). Err (rows.Refused fault)) (sym same); state = state; writes = refl }

  pub takes : (call : Result Call RelayFault) → ((c : Call) → call ≡ Ok c → call_text old c ≡ []) → (result : Result (Unit {0}) RelayFault) (new : RelayState) → Answers old (done call) (after_called old call) result new
      → (text : List ℕ) → Takes (made_by call) old new text text result
  takes call none (Ok tt) new answers text = took call none new answers.answer answers.state text
  takes call none (Err fault) new answers text = λ other. let goes = going_on old (after_called old call) new (done call) fault other answers in refused call fault new goes.answer goes.state text

  pub leaves : (call : Result Call RelayFault) → ((c : Call) → call ≡ Ok c → call_text old c ≡ []) → (result : Result (Unit {0}) RelayFault) (new : RelayState) → result ≡ done call → new ≡ after_called old call
      → (text : List ℕ) → Takes (made_by call) old new text text result
  leaves call none (Ok tt) new answer state text = took call none new answer state text
  leaves call none (Err fault) new answer state text = λ other. refused call fault new answer state text

  -- ---- drains

  module _ (id : ℕ) where
    -- the text of the frames, or of a message that is too long
    pub text_is : (messages : List Message) (long : Option ℕ) (result : Result (List (List ℕ)) RelayFault) (text text_new : List ℕ) → result ≡ sent_or_fault (frames_unless long messages) → IsSent id result text text_new
        → text_new ≡ text ++ lines_unless id messages long
    text_is messages None (Ok frames) text text_new is sent = let same : frames ≡ frames_of messages = cc is in sent ∙ ap (λ (frames : List (List ℕ)). text ++ flat_map (frame_line id) frames) same
    text_is messages None (Err fault) text text_new is sent = absurd (cc is)
    text_is messages (Some bytes) (Ok frames) text text_new is sent = absurd (cc is)
    text_is messages (Some bytes) (Err fault) text text_new is sent = let same : fault ≡ faults.Oversize bytes = cc is in subst (λ (fault : RelayFault). IsSent id (Err fault) text text_new) same sent

    module _ (text text_new : List ℕ) (new : RelayState) where
      drained : (found : Option Served) → value_at id old.clients ≡ found → (result : Result (List (List ℕ)) RelayFault) → result ≡ frames_at old id → new ≡ after_called old (drain_call old id) → IsSent id result text text_new
          → Took (made_by (drain_call old id)) old new text text_new
      drained None none result answer state sent =
          let nobody : result ≡ Err (faults.NoSuchId id) = answer ∙ rw none refl in
          absurd (subst (λ (result : Result (List (List ℕ)) RelayFault). IsSent id result text text_new) nobody sent)
      drained (Some client) found result answer state sent = record {
        accepted = rw found refl;
        state = state ∙ rw found refl;
        writes = λ number. text_is (messages_due old client) (too_long old.limits.message (messages_due old client)) result text text_new (answer ∙ rw found refl) sent ∙ rw (found, found) refl;
      }

      undrained : (found : Option Served) → value_at id old.clients ≡ found → (fault : RelayFault) → IsOther fault → Err fault ≡ frames_at old id → new ≡ after_called old (drain_call old id) → text_new ≡ text
          → Refused (made_by (drain_call old id)) fault old new text text_new
      undrained None none fault other answer state same =
          let nobody : no_frames fault ≡ no_frames (faults.NoSuchId id) = answer ∙ rw none refl in
          let is : fault ≡ faults.NoSuchId id = cc nobody in
          record { told = rw none (ap (λ (fault : RelayFault). Err (rows.Refused fault)) (sym is)); state = state ∙ rw none refl; writes = same }
      undrained (Some client) found fault other answer state same = absurd (by_length (messages_due old client) (too_long old.limits.message (messages_due old client)) (answer ∙ rw found refl))
        where
          by_length : (messages : List Message) (long : Option ℕ) → Err fault ≡ sent_or_fault (frames_unless long messages) → ⊥
          by_length messages None is = cc is
          by_length messages (Some bytes) is = let same : fault ≡ faults.Oversize bytes = cc is in subst IsOther same other

      pub drain_takes : (frames : Result (List (List ℕ)) RelayFault) (result : Result (Unit {0}) RelayFault) → Answers old (frames_at old id) (after_called old (drain_call old id)) frames new
          → OnOk result (IsSent id frames text text_new) → IfErr result (IsUnsent frames text text_new) → Takes (made_by (drain_call old id)) old new text text_new result
      drain_takes (Ok frames) (Ok tt) answers sent unsent = drained (value_at id old.clients) refl (Ok frames) answers.answer answers.state sent
      drain_takes (Err fault) (Ok tt) answers sent unsent =
          let goes = going_on old (after_called old (drain_call old id)) new (frames_at old id) fault (λ memory. subst (λ (fault : RelayFault). IsSent id (Err fault) text text_new) memory sent) answers in
          drained (value_at id old.clients) refl (Err fault) goes.answer goes.state sent
      drain_takes frames (Err fault) answers sent unsent = λ other. elim unsent [
        | inl memory ↦ absurd (other memory)
        | inr is ↦
            let goes = going_on old (after_called old (drain_call old id)) new (frames_at old id) fault other (subst (λ (frames : Result (List (List ℕ)) RelayFault). Answers old (frames_at old id) (after_called old (drain_call old id)) frames new) is.0 answers) in
            undrained (value_at id old.clients) refl fault is.1 goes.answer goes.state is.2
      ]

  -- ---- the end

  fails_is : {A : Type 0} (fault : RelayFault) (read : Result A RelayFault) → fault ≢ faults.Memory → Fails fault read → read ≡ Err fault
  fails_is faults.Memory read other fails = absurd (other refl)
  fails_is fault read other fails = fails

  module _ (id : ℕ) (frames : Result (List (List ℕ)) RelayFault) (text text_new : List ℕ) (gives : Gives frames (frames_at old id)) (sent : IsSent id frames text text_new) where
    sent_is : (client : Served) → frames_at old id ≡ frames_for old client → text_new ≡ text ++ client_lines old id client
    sent_is client live = by_frames frames gives sent
      where
        by_frames : (frames : Result (List (List ℕ)) RelayFault) → Gives frames (frames_at old id) → IsSent id frames text text_new → text_new ≡ text ++ client_lines old id client
        by_frames (Ok found) gives sent = text_is id (messages_due old client) (too_long old.limits.message (messages_due old client)) (Ok found) text text_new (sym gives ∙ live) sent
        by_frames (Err fault) gives sent =
            let other : fault ≢ faults.Memory = λ memory. subst (λ (fault : RelayFault). IsSent id (Err fault) text text_new) memory sent in
            text_is id (messages_due old client) (too_long old.limits.message (messages_due old client)) (Err fault) text text_new (sym (fails_is fault (frames_at old id) other gives) ∙ live) sent

    pub first_ends : (clients : List (ℕ × Served)) → old.clients ≡ clients → Some id ≡ first_id clients → (new : RelayState) → new ≡ after_called old (leave_call old id) → (earlier output : List ℕ)
        → (earlier ++ text) ++ end_lines old ≡ output → (earlier ++ text_new) ++ end_lines new ≡ output
    first_ends [] there first new state earlier output writes = absurd (cc first)
    first_ends (e ∷ es) there first new state earlier output writes =
        let same : id ≡ e.0 = cc first in
        let tied : eqb e.0 id ≡ true = same_id e.0 id (sym same) in
        let found : value_at id old.clients ≡ Some e.1 = rw (there, tied) refl in
        let gone : in_place id_of id ended old.clients ≡ es = rw (there, tied) refl in
        let left : new ≡ record old { clients = es } = state ∙ rw found (ap (λ (clients : List (ℕ × Served)). record old { clients = clients }) gone) in
        let lines = client_lines old id e.1 in
        let rest = end_lines (record old { clients = es }) in
        ap (λ (xs : List ℕ). (earlier ++ xs) ++ end_lines new) (sent_is e.1 (rw found refl))
        ∙ ap (λ (now : RelayState). (earlier ++ (text ++ lines)) ++ end_lines now) left
        ∙ ap (λ (xs : List ℕ). xs ++ rest) (sym (append_assoc earlier text lines))
        ∙ append_assoc (earlier ++ text) lines rest
        ∙ ap (λ (n : ℕ). (earlier ++ text) ++ (client_lines old n e.1 ++ rest)) same
        ∙ ap (λ (clients : List (ℕ × Served)). (earlier ++ text) ++ flat_map (λ client. client_lines old client.0 client.1) clients) (sym there)
        ∙ writes
