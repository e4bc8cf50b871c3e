-- Over any cutting of a stream the answers give its messages.
use Rattle.std.proofs.Common.{◌≡◌, ℕ, List, [], ◌∷◌, ◌++◌, Option, Some, None, Result, Ok, refl, sym, ap, ◌∙◌, append_assoc}
use Rattle.std.specs.List.{concat}
use Rattle.std.proofs.lemmas.List.{append-nil}
use Rattle.proto_wire.specs.declared.fault.WireFault.{WireFault}
use Rattle.proto_wire.specs.Wire.{◌>>=◌, unless_fault}
use Rattle.proto_wire.specs.Frames.{head_of, frames_in}
use Rattle.proto_wire.specs.Unframing.{all_messages, answers, all_answers}
use Rattle.proto_wire.proofs.Streams.{frames_in-part, frames_in-append, fault_stays, rest_unended}

abbrev Answer : Type 0
Answer = Result (List (List ℕ)) WireFault

-- messages before others
abbrev before : List (List ℕ) → Answer → Answer
before messages answer = answer >>= λ others. Ok (messages ++ others)

all_messages-after : (messages : List (List ℕ)) (fault : Option WireFault) (others : List (List ℕ)) → unless_fault fault (messages ++ others) ≡ before messages (unless_fault fault others)
all_messages-after messages None others = refl
all_messages-after messages (Some e) others = refl

abbrev from_part : ℕ → Result (List ℕ) WireFault → List (List ℕ) → Answer
from_part limit part pieces = all_answers (answers (record { limit = limit; part = part }) pieces)

cut_step : (limit : ℕ) (part piece : List ℕ) (pieces : List (List ℕ)) (fault : Option WireFault) → (frames_in limit (part ++ piece)).fault ≡ fault
    → (head_of limit (frames_in limit (part ++ piece)).rest ≡ Ok None → from_part limit (Ok (frames_in limit (part ++ piece)).rest) pieces ≡ all_messages (frames_in limit ((frames_in limit (part ++ piece)).rest ++ concat pieces)))
    → (unless_fault fault (frames_in limit (part ++ piece)).messages >>= λ messages. before messages (from_part limit (unless_fault fault (frames_in limit (part ++ piece)).rest) pieces))
    ≡ all_messages (frames_in limit ((part ++ piece) ++ concat pieces))
cut_step limit part piece pieces None sound again =
    let f = frames_in limit (part ++ piece) in
    let g = frames_in limit (f.rest ++ concat pieces) in
    ap (before f.messages) (again (rest_unended limit (part ++ piece) sound))
    ∙ sym (all_messages-after f.messages g.fault g.messages)
    ∙ sym (ap all_messages (frames_in-append limit (part ++ piece) (concat pieces)))
cut_step limit part piece pieces (Some e) bad again = sym (ap all_messages (fault_stays limit (part ++ piece) (concat pieces) e bad))

from_unended : (limit : ℕ) (pieces : List (List ℕ)) (part : List ℕ) → head_of limit part ≡ Ok None → from_part limit (Ok part) pieces ≡ all_messages (frames_in limit (part ++ concat pieces))
from_unended limit [] part unended = sym (ap (λ (bytes : List ℕ). all_messages (frames_in limit bytes)) (append-nil part) ∙ ap all_messages (frames_in-part limit part unended))
from_unended limit (piece ∷ pieces) part unended =
    cut_step limit part piece pieces (frames_in limit (part ++ piece)).fault refl (λ next. from_unended limit pieces (frames_in limit (part ++ piece)).rest next)
    ∙ ap (λ (bytes : List ℕ). all_messages (frames_in limit bytes)) (append_assoc part piece (concat pieces))

pub cutting_is_free : (limit : ℕ) (pieces : List (List ℕ)) → from_part limit (Ok []) pieces ≡ all_messages (frames_in limit (concat pieces))
cutting_is_free limit pieces = from_unended limit pieces [] refl
