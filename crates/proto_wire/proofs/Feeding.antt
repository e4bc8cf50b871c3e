-- Frame after frame out of a piece, and what that makes of the stream.
use Rattle.std.proofs.Common.{◌≡◌, ℕ, ◌+◌, ◌<◌, List, [], ◌∷◌, ◌++◌, length, drop, Option, Some, None, Result, Ok, Err, refl, sym, ap, ◌∙◌, arith, append_assoc, length-append, IfOk}
use Rattle.std.proofs.lemmas.List.{append-nil, drop_at}
use Rattle.proto_wire.specs.declared.fault.WireFault.{WireFault}
use Rattle.proto_wire.specs.declared.fault.WireFault.TheVariants.{Memory, Truncated, BadTag, LongVarint, Compressed, TooLong}
use Rattle.proto_wire.specs.Wire.{◌>>=◌, unless_fault}
use Rattle.proto_wire.specs.Given.{Fails, UnlessMemory}
use Rattle.proto_wire.specs.Frames.{Frames, after_messages, frames_in}
use Rattle.proto_wire.specs.Unframing.{Held, all_messages, last_part, first_from, frames_from, messages_from, part_from, WasFed, newly_whole}
use Rattle.proto_wire.proofs.Heads.{after_shorter}
use Rattle.proto_wire.proofs.Streams.{frames_in-whole, frames_in-part, frames_in-fault, frames_in-append, fault_stays}

abbrev pub All : Type 0
All = Result Frames WireFault

-- what there is of frames, behind these messages
abbrev pub behind : List (List ℕ) → All → All
behind messages all = all >>= λ f. Ok (after_messages messages f)

pub behind-none : (all : All) → behind [] all ≡ all
behind-none (Ok f) = refl
behind-none (Err e) = refl

abbrev held : ℕ → Result (List ℕ) WireFault → Held
held limit part = record { limit = limit; part = part }

-- a message is whole
more_of : (limit : ℕ) (part : Result (List ℕ) WireFault) (rest message after : List ℕ) (messages : List (List ℕ)) (all : All) → first_from (held limit part) rest ≡ Ok (Some (message, after))
    → behind messages (frames_from (held limit part) rest) ≡ all → behind (messages ++ message ∷ []) (frames_from (held limit (Ok [])) after) ≡ all
more_of limit (Err e) rest message after messages all is so_far = absurd cc
more_of limit (Ok part) rest message after messages all is so_far =
    let one = frames_in-whole limit (part ++ rest) message after is in
    let joined : (messages ++ message ∷ []) ++ (frames_in limit after).messages ≡ messages ++ (frames_in limit (part ++ rest)).messages = append_assoc messages (message ∷ []) (frames_in limit after).messages ∙ ap (λ (f : Frames). messages ++ f.messages) (sym one) in
    ap (λ (ms : List (List ℕ)). let r : All = Ok (record { messages = ms; fault = (frames_in limit after).fault; rest = (frames_in limit after).rest }) in r) joined
    ∙ ap (λ (f : Frames). let r : All = Ok (record { messages = messages ++ (frames_in limit (part ++ rest)).messages; fault = f.fault; rest = f.rest }) in r) (sym one)
    ∙ so_far

pub feed_more : (h next : Held) (rest message after : List ℕ) (messages : List (List ℕ)) (all : All) → next.limit ≡ h.limit → next.part ≡ Ok [] → first_from h rest ≡ Ok (Some (message, after))
    → behind messages (frames_from h rest) ≡ all → behind (messages ++ message ∷ []) (frames_from next after) ≡ all
feed_more h next rest message after messages all same empty is so_far =
    rw (same, empty) (more_of h.limit h.part rest message after messages all is so_far)

-- how much there is to read
abbrev pub left : Result (List ℕ) WireFault → List ℕ → ℕ
left (Ok part) rest = length part + length rest
left (Err e) rest = length rest

less_of : (limit : ℕ) (part : Result (List ℕ) WireFault) (rest message after : List ℕ) → first_from (held limit part) rest ≡ Ok (Some (message, after)) → length after < left part rest
less_of limit (Err e) rest message after is = absurd cc
less_of limit (Ok part) rest message after is = omega (arith, after_shorter limit (part ++ rest) message after is, length-append part rest)

pub feed_less : (h next : Held) (rest message after : List ℕ) → next.part ≡ Ok [] → first_from h rest ≡ Ok (Some (message, after)) → left next.part after < left h.part rest
feed_less h next rest message after empty is = let less = less_of h.limit h.part rest message after is in rw empty (omega arith)

-- no message is whole any more
pub record IsDone (messages : List (List ℕ)) (part : Result (List ℕ) WireFault) (all : All) : Type 0 where
  pub messages_are : all >>= all_messages ≡ Ok messages
  pub part_is : part ≡ (all >>= last_part)

done_of : (limit : ℕ) (part next : Result (List ℕ) WireFault) (rest : List ℕ) (messages : List (List ℕ)) (all : All) → first_from (held limit part) rest ≡ Ok None
    → IfOk part (λ bytes. next ≡ Ok (bytes ++ rest)) → behind messages (frames_from (held limit part) rest) ≡ all → IsDone messages next all
done_of limit (Err e) next rest messages all is stays so_far = absurd cc
done_of limit (Ok part) next rest messages all is stays so_far =
    let one = frames_in-part limit (part ++ rest) is in
    let whole : all ≡ Ok (record { messages = messages ++ []; fault = None; rest = part ++ rest }) = sym so_far ∙ ap (λ (f : Frames). let r : All = Ok (after_messages messages f) in r) one in
    record {
      messages_are = ap (λ (r : All). r >>= all_messages) whole ∙ ap (λ (ms : List (List ℕ)). let r : Result (List (List ℕ)) WireFault = Ok ms in r) (append-nil messages);
      part_is = stays ∙ sym (ap (λ (r : All). r >>= last_part) whole);
    }

pub feed_done : (h next : Held) (rest : List ℕ) (messages : List (List ℕ)) (all : All) → first_from h rest ≡ Ok None → IfOk h.part (λ bytes. next.part ≡ Ok (bytes ++ rest))
    → behind messages (frames_from h rest) ≡ all → IsDone messages next.part all
feed_done h next rest messages all is stays so_far = done_of h.limit h.part next.part rest messages all is stays so_far

-- a fault
fault_of : (limit : ℕ) (part : Result (List ℕ) WireFault) (rest : List ℕ) (messages : List (List ℕ)) (all : All) (e : WireFault) → first_from (held limit part) rest ≡ Err e
    → behind messages (frames_from (held limit part) rest) ≡ all → all >>= all_messages ≡ Err e
fault_of limit (Err d) rest messages all e is so_far = ap (λ (r : All). r >>= all_messages) (sym so_far) ∙ (let same : d ≡ e = cc in ap (λ (x : WireFault). let r : Result (List (List ℕ)) WireFault = Err x in r) same)
fault_of limit (Ok part) rest messages all e is so_far =
    ap (λ (r : All). r >>= all_messages) (sym so_far ∙ ap (λ (f : Frames). let r : All = Ok (after_messages messages f) in r) (frames_in-fault limit (part ++ rest) e is))

pub feed_fault : (h : Held) (rest : List ℕ) (messages : List (List ℕ)) (all : All) (e : WireFault) → Fails e (first_from h rest) → behind messages (frames_from h rest) ≡ all → Fails e (all >>= all_messages)
feed_fault h rest messages all Memory is so_far = tt
feed_fault h rest messages all (Truncated at) is so_far = fault_of h.limit h.part rest messages all (Truncated at) is so_far
feed_fault h rest messages all (BadTag at) is so_far = fault_of h.limit h.part rest messages all (BadTag at) is so_far
feed_fault h rest messages all (LongVarint at) is so_far = fault_of h.limit h.part rest messages all (LongVarint at) is so_far
feed_fault h rest messages all Compressed is so_far = fault_of h.limit h.part rest messages all Compressed is so_far
feed_fault h rest messages all (TooLong len) is so_far = fault_of h.limit h.part rest messages all (TooLong len) is so_far

-- ---- and of the stream

longer_fault : (limit : ℕ) (stream piece : List ℕ) → (frames_in limit stream).fault ≡ None → all_messages (frames_in limit ((frames_in limit stream).rest ++ piece)) ≡ newly_whole limit stream piece
longer_fault limit stream piece sound =
    let f = frames_in limit stream in
    let g = frames_in limit (f.rest ++ piece) in
    let all = frames_in-append limit stream piece in
    let new : drop (length f.messages) (f.messages ++ g.messages) ≡ g.messages = drop_at f.messages g.messages (length f.messages) refl in
    ap (λ (ms : List (List ℕ)). unless_fault g.fault ms) (sym new) ∙ ap (λ (a : Frames). unless_fault a.fault (drop (length f.messages) a.messages)) (sym all)

stays_fault : (limit : ℕ) (stream piece : List ℕ) (e : WireFault) → (frames_in limit stream).fault ≡ Some e → newly_whole limit stream piece ≡ Err e
stays_fault limit stream piece e bad = ap (λ (a : Frames). unless_fault a.fault (drop (length (frames_in limit stream).messages) a.messages)) (fault_stays limit stream piece e bad)

fed_messages : (limit : ℕ) (stream piece : List ℕ) (fault : Option WireFault) → (frames_in limit stream).fault ≡ fault
    → ((unless_fault fault (frames_in limit stream).rest >>= λ part. let a : All = Ok (frames_in limit (part ++ piece)) in a) >>= all_messages) ≡ newly_whole limit stream piece
fed_messages limit stream piece None sound = longer_fault limit stream piece sound
fed_messages limit stream piece (Some e) bad = sym (stays_fault limit stream piece e bad)

fed_part : (limit : ℕ) (stream piece : List ℕ) (fault : Option WireFault) → (frames_in limit stream).fault ≡ fault
    → ((unless_fault fault (frames_in limit stream).rest >>= λ part. let a : All = Ok (frames_in limit (part ++ piece)) in a) >>= last_part) ≡ last_part (frames_in limit (stream ++ piece))
fed_part limit stream piece None sound = ap last_part (sym (frames_in-append limit stream piece))
fed_part limit stream piece (Some e) bad = sym (ap last_part (fault_stays limit stream piece e bad))

-- what is whole with a piece is what the stream has newly
pub messages_from-fed : (h : Held) (stream piece : List ℕ) → WasFed h stream → messages_from h piece ≡ newly_whole h.limit stream piece
messages_from-fed h stream piece fed = rw fed (fed_messages h.limit stream piece (frames_in h.limit stream).fault refl)

pub part_from-fed : (h : Held) (stream piece : List ℕ) → WasFed h stream → part_from h piece ≡ last_part (frames_in h.limit (stream ++ piece))
part_from-fed h stream piece fed = rw fed (fed_part h.limit stream piece (frames_in h.limit stream).fault refl)

fault_either : {A B : Type 0} (fault : Option WireFault) (x : A) (y : B) (e : WireFault) → unless_fault fault x ≡ Err e → unless_fault fault y ≡ Err e
fault_either None x y e is = absurd cc
fault_either (Some d) x y e is = let same : d ≡ e = cc in rw same refl

part_fault : (all : All) (e : WireFault) → all >>= all_messages ≡ Err e → all >>= last_part ≡ Err e
part_fault (Ok f) e is = fault_either f.fault f.messages f.rest e is
part_fault (Err d) e is = let same : d ≡ e = cc in rw same refl

fault_fed : (h : Held) (stream piece : List ℕ) (e : WireFault) → WasFed h stream → messages_from h piece ≡ Err e → last_part (frames_in h.limit (stream ++ piece)) ≡ Err e
fault_fed h stream piece e fed is = sym (part_from-fed h stream piece fed) ∙ part_fault (frames_from h piece) e is

-- what is held after a fault, unless memory ran out
pub stopped_fed : (h next : Held) (stream piece : List ℕ) (e : WireFault) → next.limit ≡ h.limit → next.part ≡ Err e → Fails e (messages_from h piece) → WasFed h stream
    → UnlessMemory {A = List (List ℕ)} (Err e) (WasFed next (stream ++ piece))
stopped_fed h next stream piece Memory same stopped is fed = tt
stopped_fed h next stream piece (Truncated at) same stopped is fed = rw same (stopped ∙ sym (fault_fed h stream piece (Truncated at) fed is))
stopped_fed h next stream piece (BadTag at) same stopped is fed = rw same (stopped ∙ sym (fault_fed h stream piece (BadTag at) fed is))
stopped_fed h next stream piece (LongVarint at) same stopped is fed = rw same (stopped ∙ sym (fault_fed h stream piece (LongVarint at) fed is))
stopped_fed h next stream piece Compressed same stopped is fed = rw same (stopped ∙ sym (fault_fed h stream piece Compressed fed is))
stopped_fed h next stream piece (TooLong len) same stopped is fed = rw same (stopped ∙ sym (fault_fed h stream piece (TooLong len) fed is))
