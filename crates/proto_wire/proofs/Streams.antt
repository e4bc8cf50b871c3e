-- The frames of a stream, and of one that is longer.
use Rattle.std.proofs.Common.{◌≡◌, ℕ, zero, suc, ◌≤◌, List, [], ◌∷◌, ◌++◌, length, Some, None, Ok, Err, refl, sym, ap, ◌∙◌, arith}
use Rattle.std.proofs.lemmas.List.{append-nil}
use Rattle.proto_wire.specs.declared.fault.WireFault.{WireFault}
use Rattle.proto_wire.specs.Frames.{head_of, Frames, after_messages, frames_step, frames_up_to, frames_in}
use Rattle.proto_wire.proofs.Heads.{Head, whole_more, after_shorter, head_fault_more}

-- ---- one frame after another

frames_up_to-none : (n limit : ℕ) → frames_up_to n limit [] ≡ record { messages = []; fault = None; rest = [] }
unfolding frames_up_to
frames_up_to-none zero limit = refl
frames_up_to-none (suc n) limit = refl

step_same : (f g : List ℕ → Frames) (bytes : List ℕ) (h : Head) → ((message after : List ℕ) → h ≡ Ok (Some (message, after)) → f after ≡ g after) → frames_step f bytes h ≡ frames_step g bytes h
step_same f g bytes (Ok (Some x)) same = ap (after_messages (x.0 ∷ [])) (same x.0 x.1 refl)
step_same f g bytes (Ok None) same = refl
step_same f g bytes (Err e) same = refl

-- the length is enough
frames_up_to-enough : (n m limit : ℕ) (bytes : List ℕ) → length bytes ≤ n → length bytes ≤ m → frames_up_to n limit bytes ≡ frames_up_to m limit bytes
unfolding frames_up_to
frames_up_to-enough n m limit [] le le' = frames_up_to-none n limit ∙ sym (frames_up_to-none m limit)
frames_up_to-enough zero m limit (b ∷ bytes) le le' = absurd (omega arith)
frames_up_to-enough (suc n) zero limit (b ∷ bytes) le le' = absurd (omega arith)
frames_up_to-enough (suc n) (suc m) limit (b ∷ bytes) le le' =
    step_same (frames_up_to n limit) (frames_up_to m limit) (b ∷ bytes) (head_of limit (b ∷ bytes))
    (λ message after is. let shorter = after_shorter limit (b ∷ bytes) message after is in frames_up_to-enough n m limit after (omega arith) (omega arith))

frames_in-step : (limit : ℕ) (bytes : List ℕ) → frames_in limit bytes ≡ frames_step (frames_up_to (length bytes) limit) bytes (head_of limit bytes)
unfolding frames_up_to
frames_in-step limit bytes = frames_up_to-enough (length bytes) (suc (length bytes)) limit bytes (omega arith) (omega arith)

pub frames_in-whole : (limit : ℕ) (bytes message after : List ℕ) → head_of limit bytes ≡ Ok (Some (message, after)) → frames_in limit bytes ≡ after_messages (message ∷ []) (frames_in limit after)
frames_in-whole limit bytes message after is =
    let shorter = after_shorter limit bytes message after is in
    frames_in-step limit bytes ∙ ap (frames_step (frames_up_to (length bytes) limit) bytes) is
    ∙ ap (after_messages (message ∷ [])) (frames_up_to-enough (length bytes) (length after) limit after (omega arith) (omega arith))

pub frames_in-part : (limit : ℕ) (bytes : List ℕ) → head_of limit bytes ≡ Ok None → frames_in limit bytes ≡ record { messages = []; fault = None; rest = bytes }
frames_in-part limit bytes is = frames_in-step limit bytes ∙ ap (frames_step (frames_up_to (length bytes) limit) bytes) is

pub frames_in-fault : (limit : ℕ) (bytes : List ℕ) (e : WireFault) → head_of limit bytes ≡ Err e → frames_in limit bytes ≡ record { messages = []; fault = Some e; rest = bytes }
frames_in-fault limit bytes e is = frames_in-step limit bytes ∙ ap (frames_step (frames_up_to (length bytes) limit) bytes) is

-- ---- where a stream is cut

-- what more bytes make of a stream of which this is known
abbrev Longer : ℕ → Frames → List ℕ → Frames
Longer limit f more = after_messages f.messages (frames_in limit (f.rest ++ more))

longer_step : (n limit : ℕ) (bytes more : List ℕ) (h : Head) → head_of limit bytes ≡ h
    → ((message after : List ℕ) → h ≡ Ok (Some (message, after)) → frames_in limit (after ++ more) ≡ Longer limit (frames_up_to n limit after) more)
    → frames_in limit (bytes ++ more) ≡ Longer limit (frames_step (frames_up_to n limit) bytes h) more
longer_step n limit bytes more (Ok (Some x)) is again =
    frames_in-whole limit (bytes ++ more) x.0 (x.1 ++ more) (whole_more limit bytes more x.0 x.1 is) ∙ ap (after_messages (x.0 ∷ [])) (again x.0 x.1 refl)
longer_step n limit bytes more (Ok None) is again = refl
longer_step n limit bytes more (Err e) is again = refl

longer_up_to : (n limit : ℕ) (bytes more : List ℕ) → length bytes ≤ n → frames_in limit (bytes ++ more) ≡ Longer limit (frames_up_to n limit bytes) more
unfolding frames_up_to
longer_up_to zero limit [] more le = refl
longer_up_to zero limit (b ∷ bytes) more le = absurd (omega arith)
longer_up_to (suc n) limit bytes more le =
    longer_step n limit bytes more (head_of limit bytes) refl
    (λ message after is. let shorter = after_shorter limit bytes message after is in longer_up_to n limit after more (omega arith))

pub frames_in-append : (limit : ℕ) (bytes more : List ℕ) → frames_in limit (bytes ++ more) ≡ after_messages (frames_in limit bytes).messages (frames_in limit ((frames_in limit bytes).rest ++ more))
frames_in-append limit bytes more = longer_up_to (length bytes) limit bytes more (omega arith)

fault_step : (n limit : ℕ) (bytes : List ℕ) (e : WireFault) (h : Head) → head_of limit bytes ≡ h
    → ((message after : List ℕ) → h ≡ Ok (Some (message, after)) → (frames_up_to n limit after).fault ≡ Some e → head_of limit (frames_up_to n limit after).rest ≡ Err e)
    → (frames_step (frames_up_to n limit) bytes h).fault ≡ Some e → head_of limit (frames_step (frames_up_to n limit) bytes h).rest ≡ Err e
fault_step n limit bytes e (Ok (Some x)) is again fails = again x.0 x.1 refl fails
fault_step n limit bytes e (Ok None) is again fails = absurd cc
fault_step n limit bytes e (Err d) is again fails = let same : d ≡ e = cc in rw (← same) is

fault_up_to : (n limit : ℕ) (bytes : List ℕ) (e : WireFault) → length bytes ≤ n → (frames_up_to n limit bytes).fault ≡ Some e → head_of limit (frames_up_to n limit bytes).rest ≡ Err e
unfolding frames_up_to
fault_up_to zero limit bytes e le fails = absurd cc
fault_up_to (suc n) limit bytes e le fails =
    fault_step n limit bytes e (head_of limit bytes) refl
    (λ message after is. let shorter = after_shorter limit bytes message after is in fault_up_to n limit after e (omega arith)) fails

-- a fault stays
pub fault_stays : (limit : ℕ) (bytes more : List ℕ) (e : WireFault) → (frames_in limit bytes).fault ≡ Some e
    → frames_in limit (bytes ++ more) ≡ record { messages = (frames_in limit bytes).messages; fault = Some e; rest = (frames_in limit bytes).rest ++ more }
fault_stays limit bytes more e fails =
    let f = frames_in limit bytes in
    let here = head_fault_more limit f.rest more e (fault_up_to (length bytes) limit bytes e (omega arith) fails) in
    frames_in-append limit bytes more ∙ ap (after_messages f.messages) (frames_in-fault limit (f.rest ++ more) e here)
    ∙ ap (λ (ms : List (List ℕ)). let r : Frames = record { messages = ms; fault = Some e; rest = f.rest ++ more } in r) (append-nil f.messages)

unended_step : (n limit : ℕ) (bytes : List ℕ) (h : Head) → head_of limit bytes ≡ h
    → ((message after : List ℕ) → h ≡ Ok (Some (message, after)) → (frames_up_to n limit after).fault ≡ None → head_of limit (frames_up_to n limit after).rest ≡ Ok None)
    → (frames_step (frames_up_to n limit) bytes h).fault ≡ None → head_of limit (frames_step (frames_up_to n limit) bytes h).rest ≡ Ok None
unended_step n limit bytes (Ok (Some x)) is again sound = again x.0 x.1 refl sound
unended_step n limit bytes (Ok None) is again sound = is
unended_step n limit bytes (Err e) is again sound = absurd cc

unended_up_to : (n limit : ℕ) (bytes : List ℕ) → length bytes ≤ n → (frames_up_to n limit bytes).fault ≡ None → head_of limit (frames_up_to n limit bytes).rest ≡ Ok None
unfolding frames_up_to
unended_up_to zero limit [] le sound = refl
unended_up_to zero limit (b ∷ bytes) le sound = absurd (omega arith)
unended_up_to (suc n) limit bytes le sound =
    unended_step n limit bytes (head_of limit bytes) refl
    (λ message after is. let shorter = after_shorter limit bytes message after is in unended_up_to n limit after (omega arith)) sound

-- the rest begins no whole frame
pub rest_unended : (limit : ℕ) (bytes : List ℕ) → (frames_in limit bytes).fault ≡ None → head_of limit (frames_in limit bytes).rest ≡ Ok None
rest_unended limit bytes sound = unended_up_to (length bytes) limit bytes (omega arith) sound

pub rest_fault : (limit : ℕ) (bytes : List ℕ) (e : WireFault) → (frames_in limit bytes).fault ≡ Some e → head_of limit (frames_in limit bytes).rest ≡ Err e
rest_fault limit bytes e bad = fault_up_to (length bytes) limit bytes e (omega arith) bad
