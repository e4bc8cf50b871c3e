-- A stream's messages, framed, and its rest make it up, and nothing else does.
use Rattle.std.proofs.Common.{◌≡◌, ℕ, zero, suc, ◌+◌, ◌^◌, ◌<◌, ◌≤◌, true, false, List, [], ◌∷◌, ◌++◌, length, take, drop, get_or, Option, Some, None, Ok, Err, refl, sym, ap, subst, ◌∙◌, arith, append_assoc, length-append, take-append-drop, lit<}
use Rattle.std.specs.Prelude.{◌==◌, ◌↔◌, nat_lt, if◌then◌else◌}
use Rattle.std.specs.List.{AllByRecursion}
use Rattle.std.specs.Int.{w32, from_be_bytes, to_be_bytes}
use Rattle.std.proofs.lemmas.Bool.{eqb-true, ltb-false, le-leb, le-ltb}
use Rattle.std.proofs.lemmas.List.{append-nil, length-take-le, get_or-drop, take_at, drop_at}
use Rattle.std.proofs.lemmas.Nat.{be_bytes_4, from_be_bytes-to_be_bytes_4}
use Rattle.proto_wire.specs.declared.fault.WireFault.{WireFault}
use Rattle.proto_wire.specs.declared.fault.WireFault.TheVariants.{Compressed, TooLong}
use Rattle.proto_wire.specs.Frames.{frame_of, frames_of, first_frame, length_fault, frame_fault, head_of, Frames, after_messages, frames_step, frames_up_to, frames_in, NoneWhole, MakeUp}
use Rattle.proto_wire.specs.Unframing.{frame_size}
use Rattle.proto_wire.proofs.Heads.{Head, IsWhole, is_whole, flag_is, after_shorter}
use Rattle.proto_wire.proofs.Streams.{frames_in-whole, frames_in-part, frames_in-fault, rest_unended, rest_fault}

abbrev Within : ℕ → List (List ℕ) → Type 0
Within limit messages = AllByRecursion (λ message. length message ≤ limit) messages

-- ---- what was framed is read back

pub frames_come_apart : (message after : List ℕ) → length message < 2 ^ 32 → first_frame (frame_of message ++ after) ≡ Some (message, after)
frames_come_apart message after lt =
    rw (
      from_be_bytes-to_be_bytes_4 (length message) lt,
      le-leb (length message) (length (message ++ after)) (omega (arith, length-append message after)),
      take_at message after (length message) refl,
      drop_at message after (length message) refl,
    ) refl

frame_sound : (limit : ℕ) (message after : List ℕ) → length message ≤ limit → length message < 2 ^ 32 → frame_fault limit (frame_of message ++ after) ≡ None
frame_sound limit message after le lt = rw (from_be_bytes-to_be_bytes_4 (length message) lt, le-ltb limit (length message) le) refl

head_back : (limit : ℕ) (message after : List ℕ) → length message ≤ limit → length message < 2 ^ 32 → head_of limit (frame_of message ++ after) ≡ Ok (Some (message, after))
head_back limit message after le lt = rw (frame_sound limit message after le lt, frames_come_apart message after lt) refl

pub frames_back : (limit : ℕ) (messages : List (List ℕ)) (more : List ℕ) → limit < 2 ^ 32 → Within limit messages → frames_in limit (frames_of messages ++ more) ≡ after_messages messages (frames_in limit more)
frames_back limit [] more small within = refl
frames_back limit (message ∷ messages) more small within =
    ap (frames_in limit) (append_assoc (frame_of message) (frames_of messages) more)
    ∙ frames_in-whole limit (frame_of message ++ (frames_of messages ++ more)) message (frames_of messages ++ more) (head_back limit message (frames_of messages ++ more) within.0 (omega (arith, within.0)))
    ∙ ap (after_messages (message ∷ [])) (frames_back limit messages more small within.1)

pub frames_back_whole : (limit : ℕ) (messages : List (List ℕ)) → limit < 2 ^ 32 → Within limit messages → frames_in limit (frames_of messages) ≡ record { messages = messages; fault = None; rest = [] }
frames_back_whole limit messages small within =
    ap (frames_in limit) (sym (append-nil (frames_of messages))) ∙ frames_back limit messages [] small within
    ∙ ap (after_messages messages) (frames_in-part limit [] refl) ∙ ap (λ (ms : List (List ℕ)). let f : Frames = record { messages = ms; fault = None; rest = [] } in f) (append-nil messages)

-- ---- a stream is made up of what it holds

abbrev pub IsBytes : List ℕ → Type 0
IsBytes bytes = (i : ℕ) → get_or bytes i 0 < 256

within_limit : (limit a b c d : ℕ) (tail : List ℕ) → length_fault limit (a ∷ b ∷ c ∷ d ∷ tail) ≡ None → from_be_bytes w32 (a ∷ b ∷ c ∷ d ∷ []) ≤ limit
within_limit limit a b c d tail none =
    let len = from_be_bytes w32 (a ∷ b ∷ c ∷ d ∷ []) in
    ltb-false limit len (elim (nat_lt limit len) as (λ v. (if v then Some (TooLong len) else None) ≡ None → v ≡ false) [ true ↦ λ bad. absurd cc | false ↦ λ _. refl ] none)

fault_behind : (limit flag : ℕ) (bytes : List ℕ) → frame_fault limit (flag ∷ bytes) ≡ None → length_fault limit bytes ≡ None
fault_behind limit flag bytes none = elim (flag == 0) as (λ v. (if v then length_fault limit bytes else Some Compressed) ≡ None → length_fault limit bytes ≡ None) [ true ↦ λ is. is | false ↦ λ bad. absurd cc ] none

first_four : (flag a b c d : ℕ) (tail : List ℕ) → IsBytes (flag ∷ a ∷ b ∷ c ∷ d ∷ tail) → IsBytes (a ∷ b ∷ c ∷ d ∷ [])
first_four flag a b c d tail small zero = small 1
first_four flag a b c d tail small (suc zero) = small 2
first_four flag a b c d tail small (suc (suc zero)) = small 3
first_four flag a b c d tail small (suc (suc (suc zero))) = small 4
first_four flag a b c d tail small (suc (suc (suc (suc i)))) = lit< tt

-- a whole frame and what follows it are the bytes
frame_again : (limit : ℕ) (bytes message after : List ℕ) → IsBytes bytes → IsWhole limit bytes message after → (frame_of message ++ after ≡ bytes) × (length message ≤ limit)
frame_again limit [] message after small w = absurd (omega (arith, w.fits))
frame_again limit (flag ∷ []) message after small w = absurd (omega (arith, w.fits))
frame_again limit (flag ∷ a ∷ []) message after small w = absurd (omega (arith, w.fits))
frame_again limit (flag ∷ a ∷ b ∷ []) message after small w = absurd (omega (arith, w.fits))
frame_again limit (flag ∷ a ∷ b ∷ c ∷ []) message after small w = absurd (omega (arith, w.fits))
frame_again limit (flag ∷ a ∷ b ∷ c ∷ d ∷ tail) message after small w =
    let four = a ∷ b ∷ c ∷ d ∷ [] in
    let len = from_be_bytes w32 four in
    let five : 5 + len ≡ suc (suc (suc (suc (suc len)))) = omega arith in
    let zero_flag : flag ≡ 0 = eqb-true flag 0 (flag_is limit flag (a ∷ b ∷ c ∷ d ∷ tail) w.sound) in
    let message_is : message ≡ take len tail = rw five at w.message_is in
    let after_is : after ≡ drop len tail = rw five at w.after_is in
    let fits : len ≤ length tail = omega (arith, w.fits) in
    let len_is : length message ≡ len = ap length message_is ∙ length-take-le len tail fits in
    let bytes_are : to_be_bytes w32 (length message) ≡ four = be_bytes_4 four (length message) refl (first_four flag a b c d tail small) len_is in
    let most : len ≤ limit = within_limit limit a b c d tail (fault_behind limit flag (a ∷ b ∷ c ∷ d ∷ tail) w.sound) in
    let tail_is : message ++ after ≡ tail = rw (message_is, after_is) (take-append-drop len tail) in
    let joined : frame_of message ++ after ≡ 0 ∷ (four ++ (message ++ after)) = ap (λ (xs : List ℕ). 0 ∷ ((xs ++ message) ++ after)) bytes_are in
    (joined ∙ ap (λ (xs : List ℕ). 0 ∷ (four ++ xs)) tail_is ∙ ap (λ (x : ℕ). x ∷ (four ++ tail)) (sym zero_flag), omega arith)

after_small : (limit : ℕ) (bytes message after : List ℕ) → IsBytes bytes → IsWhole limit bytes message after → IsBytes after
after_small limit bytes message after small w = λ i. rw (w.after_is, get_or-drop (frame_size bytes) bytes i 0) (small (frame_size bytes + i))

abbrev Parts : ℕ → List ℕ → Frames → Type 0
Parts limit bytes f = (frames_of f.messages ++ f.rest ≡ bytes) × Within limit f.messages

parts_step : (n limit : ℕ) (bytes : List ℕ) (h : Head) → IsBytes bytes → head_of limit bytes ≡ h
    → ((message after : List ℕ) → h ≡ Ok (Some (message, after)) → IsBytes after → Parts limit after (frames_up_to n limit after)) → Parts limit bytes (frames_step (frames_up_to n limit) bytes h)
parts_step n limit bytes (Ok (Some x)) small is again =
    let w = is_whole limit bytes x.0 x.1 is in
    let here = frame_again limit bytes x.0 x.1 small w in
    let others = again x.0 x.1 refl (after_small limit bytes x.0 x.1 small w) in
    let f = frames_up_to n limit x.1 in
    (append_assoc (frame_of x.0) (frames_of f.messages) f.rest ∙ ap (λ (xs : List ℕ). frame_of x.0 ++ xs) others.0 ∙ here.0, (here.1, others.1))
parts_step n limit bytes (Ok None) small is again = (refl, tt)
parts_step n limit bytes (Err e) small is again = (refl, tt)

parts_up_to : (n limit : ℕ) (bytes : List ℕ) → length bytes ≤ n → IsBytes bytes → Parts limit bytes (frames_up_to n limit bytes)
unfolding frames_up_to
parts_up_to zero limit bytes le small = (refl, tt)
parts_up_to (suc n) limit bytes le small =
    parts_step n limit bytes (head_of limit bytes) small refl
    (λ message after is small_after. let shorter = after_shorter limit bytes message after is in parts_up_to n limit after (omega arith) small_after)

ended : (limit : ℕ) (stream : List ℕ) (fault : Option WireFault) → (frames_in limit stream).fault ≡ fault → NoneWhole limit fault (frames_in limit stream).rest
ended limit stream None is = rest_unended limit stream is
ended limit stream (Some e) is = rest_fault limit stream e is

made_up : (limit : ℕ) (stream : List ℕ) → IsBytes stream → MakeUp limit stream (frames_in limit stream)
made_up limit stream small =
    let parts = parts_up_to (length stream) limit stream (omega arith) small in
    record { joined = parts.0; within = parts.1; ended = ended limit stream (frames_in limit stream).fault refl }

rest_read : (limit : ℕ) (fault : Option WireFault) (rest : List ℕ) → NoneWhole limit fault rest → frames_in limit rest ≡ record { messages = []; fault = fault; rest = rest }
rest_read limit None rest is = frames_in-part limit rest is
rest_read limit (Some e) rest is = frames_in-fault limit rest e is

only_one : (limit : ℕ) (stream : List ℕ) (f : Frames) → limit < 2 ^ 32 → MakeUp limit stream f → f ≡ frames_in limit stream
only_one limit stream f small is = sym (
    ap (frames_in limit) (sym is.joined) ∙ frames_back limit f.messages f.rest small is.within ∙ ap (after_messages f.messages) (rest_read limit f.fault f.rest is.ended)
    ∙ ap (λ (ms : List (List ℕ)). let r : Frames = record { messages = ms; fault = f.fault; rest = f.rest } in r) (append-nil f.messages))

pub streams_are_made_up : (limit : ℕ) (stream : List ℕ) (f : Frames) → limit < 2 ^ 32 → IsBytes stream → (f ≡ frames_in limit stream) ↔ MakeUp limit stream f
streams_are_made_up limit stream f small bytes = ((λ is. subst (MakeUp limit stream) (sym is) (made_up limit stream bytes)), (λ is. only_one limit stream f small is))
