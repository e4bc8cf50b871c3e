-- What the first bytes of a frame say.
use Rattle.std.proofs.Common.{◌≡◌, ℕ, suc, ◌+◌, ◌<◌, ◌≤◌, true, false, List, [], ◌∷◌, ◌++◌, length, take, drop, Option, Some, None, Result, Ok, Err, refl, sym, ap, ◌∙◌, arith, inl, inr, length-append, length-drop}
use Rattle.std.specs.Prelude.{◌==◌, if◌then◌else◌}
use Rattle.std.specs.Int.{w32, from_be_bytes}
use Rattle.std.proofs.lemmas.Bool.{cases_lt, le-leb, lt-leb}
use Rattle.std.proofs.lemmas.List.{take-append-le, drop-append-le}
use Rattle.proto_wire.specs.declared.fault.WireFault.{WireFault}
use Rattle.proto_wire.specs.declared.fault.WireFault.TheVariants.{Compressed}
use Rattle.proto_wire.specs.Frames.{cut_off, first_frame, length_fault, frame_fault, head_of}
use Rattle.proto_wire.specs.Unframing.{frame_size}

abbrev pub Head : Type 0
Head = Result (Option (List ℕ × List ℕ)) WireFault

-- five bytes tell all
pub fault_front : (limit : ℕ) (front more : List ℕ) → 5 ≤ length front → frame_fault limit (front ++ more) ≡ frame_fault limit front
fault_front limit [] more long = absurd (omega arith)
fault_front limit (flag ∷ []) more long = absurd (omega arith)
fault_front limit (flag ∷ a ∷ []) more long = absurd (omega arith)
fault_front limit (flag ∷ a ∷ b ∷ []) more long = absurd (omega arith)
fault_front limit (flag ∷ a ∷ b ∷ c ∷ []) more long = absurd (omega arith)
fault_front limit (flag ∷ a ∷ b ∷ c ∷ d ∷ front) more long = refl

pub size_front : (front more : List ℕ) → 5 ≤ length front → frame_size (front ++ more) ≡ frame_size front
size_front [] more long = absurd (omega arith)
size_front (flag ∷ []) more long = absurd (omega arith)
size_front (flag ∷ a ∷ []) more long = absurd (omega arith)
size_front (flag ∷ a ∷ b ∷ []) more long = absurd (omega arith)
size_front (flag ∷ a ∷ b ∷ c ∷ []) more long = absurd (omega arith)
size_front (flag ∷ a ∷ b ∷ c ∷ d ∷ front) more long = refl

pub size_least : (bytes : List ℕ) → 5 ≤ frame_size bytes
size_least [] = omega arith
size_least (flag ∷ []) = omega arith
size_least (flag ∷ a ∷ []) = omega arith
size_least (flag ∷ a ∷ b ∷ []) = omega arith
size_least (flag ∷ a ∷ b ∷ c ∷ []) = omega arith
size_least (flag ∷ a ∷ b ∷ c ∷ d ∷ bytes) = omega arith

-- where there is no fault, the flag is 0
pub flag_is : (limit flag : ℕ) (bytes : List ℕ) → frame_fault limit (flag ∷ bytes) ≡ None → (flag == 0) ≡ true
flag_is limit flag bytes none = elim (flag == 0) as (λ v. (if v then length_fault limit bytes else Some Compressed) ≡ None → v ≡ true) [ true ↦ λ _. refl | false ↦ λ bad. absurd cc ] none

cut_whole : (len : ℕ) (bytes : List ℕ) → len ≤ length bytes → cut_off len bytes ≡ Some (take len bytes, drop len bytes)
cut_whole len bytes le = rw (le-leb len (length bytes) le) refl

cut_short : (len : ℕ) (bytes : List ℕ) → length bytes < len → cut_off len bytes ≡ None
cut_short len bytes lt = rw (lt-leb len (length bytes) lt) refl

head_first : (limit : ℕ) (bytes : List ℕ) → frame_fault limit bytes ≡ None → head_of limit bytes ≡ Ok (first_frame bytes)
head_first limit bytes none = rw none refl

first_whole : (limit : ℕ) (bytes : List ℕ) → frame_fault limit bytes ≡ None → frame_size bytes ≤ length bytes → first_frame bytes ≡ Some (drop 5 (take (frame_size bytes) bytes), drop (frame_size bytes) bytes)
first_whole limit [] none le = absurd (omega arith)
first_whole limit (flag ∷ []) none le = absurd (omega arith)
first_whole limit (flag ∷ a ∷ []) none le = absurd (omega arith)
first_whole limit (flag ∷ a ∷ b ∷ []) none le = absurd (omega arith)
first_whole limit (flag ∷ a ∷ b ∷ c ∷ []) none le = absurd (omega arith)
first_whole limit (flag ∷ a ∷ b ∷ c ∷ d ∷ bytes) none le =
    let len = from_be_bytes w32 (a ∷ b ∷ c ∷ d ∷ []) in
    let is : 5 + len ≡ suc (suc (suc (suc (suc len)))) = omega arith in
    rw (flag_is limit flag (a ∷ b ∷ c ∷ d ∷ bytes) none, is) (cut_whole len bytes (omega arith))

first_short : (limit : ℕ) (bytes : List ℕ) → frame_fault limit bytes ≡ None → length bytes < frame_size bytes → first_frame bytes ≡ None
first_short limit [] none lt = refl
first_short limit (flag ∷ []) none lt = refl
first_short limit (flag ∷ a ∷ []) none lt = refl
first_short limit (flag ∷ a ∷ b ∷ []) none lt = refl
first_short limit (flag ∷ a ∷ b ∷ c ∷ []) none lt = refl
first_short limit (flag ∷ a ∷ b ∷ c ∷ d ∷ bytes) none lt = rw (flag_is limit flag (a ∷ b ∷ c ∷ d ∷ bytes) none) (cut_short (from_be_bytes w32 (a ∷ b ∷ c ∷ d ∷ [])) bytes (omega arith))

pub head_whole : (limit : ℕ) (bytes : List ℕ) → frame_fault limit bytes ≡ None → frame_size bytes ≤ length bytes → head_of limit bytes ≡ Ok (Some (drop 5 (take (frame_size bytes) bytes), drop (frame_size bytes) bytes))
head_whole limit bytes none le = head_first limit bytes none ∙ ap (λ (f : Option (List ℕ × List ℕ)). let h : Head = Ok f in h) (first_whole limit bytes none le)

pub head_short : (limit : ℕ) (bytes : List ℕ) → frame_fault limit bytes ≡ None → length bytes < frame_size bytes → head_of limit bytes ≡ Ok None
head_short limit bytes none lt = head_first limit bytes none ∙ ap (λ (f : Option (List ℕ × List ℕ)). let h : Head = Ok f in h) (first_short limit bytes none lt)

pub head_fault : (limit : ℕ) (bytes : List ℕ) (e : WireFault) → frame_fault limit bytes ≡ Some e → head_of limit bytes ≡ Err e
head_fault limit bytes e is = rw is refl

-- ---- and the other way

by_fault : (limit : ℕ) (bytes : List ℕ) (P : Option WireFault → Type 0) → (frame_fault limit bytes ≡ None → P None) → ((e : WireFault) → frame_fault limit bytes ≡ Some e → P (Some e)) → P (frame_fault limit bytes)
by_fault limit bytes P none some = elim (frame_fault limit bytes) as (λ v. frame_fault limit bytes ≡ v → P v) [ None ↦ λ is. none is | Some e ↦ λ is. some e is ] refl

pub no_fault : (limit : ℕ) (bytes : List ℕ) (found : Option (List ℕ × List ℕ)) → head_of limit bytes ≡ Ok found → frame_fault limit bytes ≡ None
no_fault limit bytes found is = by_fault limit bytes (λ v. v ≡ None) (λ none. refl) (λ e bad. let here = head_fault limit bytes e bad in absurd cc)

pub fault_is : (limit : ℕ) (bytes : List ℕ) (e : WireFault) → head_of limit bytes ≡ Err e → frame_fault limit bytes ≡ Some e
fault_is limit bytes e is = by_fault limit bytes (λ v. v ≡ Some e) (λ none. let here = head_first limit bytes none in absurd cc) (λ d bad. let here = head_fault limit bytes d bad in cc)

pub is_short : (limit : ℕ) (bytes : List ℕ) → head_of limit bytes ≡ Ok None → length bytes < frame_size bytes
is_short limit bytes is = elim (cases_lt (length bytes) (frame_size bytes)) [
  | inl lt ↦ lt
  | inr le ↦ let here = head_whole limit bytes (no_fault limit bytes None is) le in absurd cc
]

found_message : Head → List ℕ
found_message (Ok (Some x)) = x.0
found_message (Ok None) = []
found_message (Err e) = []

found_after : Head → List ℕ
found_after (Ok (Some x)) = x.1
found_after (Ok None) = []
found_after (Err e) = []

-- where a frame is whole
pub record IsWhole (limit : ℕ) (bytes message after : List ℕ) : Type 0 where
  pub sound : frame_fault limit bytes ≡ None
  pub fits : frame_size bytes ≤ length bytes
  pub message_is : message ≡ drop 5 (take (frame_size bytes) bytes)
  pub after_is : after ≡ drop (frame_size bytes) bytes

pub is_whole : (limit : ℕ) (bytes message after : List ℕ) → head_of limit bytes ≡ Ok (Some (message, after)) → IsWhole limit bytes message after
unfolding found_message found_after
is_whole limit bytes message after is =
    let sound = no_fault limit bytes (Some (message, after)) is in
    elim (cases_lt (length bytes) (frame_size bytes)) [
      | inl lt ↦ let here = head_short limit bytes sound lt in absurd cc
      | inr le ↦ let here = head_whole limit bytes sound le in record { sound = sound; fits = le; message_is = ap found_message (sym is ∙ here); after_is = ap found_after (sym is ∙ here) }
    ]

-- more bytes don't change what is there
pub whole_more : (limit : ℕ) (bytes more message after : List ℕ) → head_of limit bytes ≡ Ok (Some (message, after)) → head_of limit (bytes ++ more) ≡ Ok (Some (message, after ++ more))
whole_more limit bytes more message after is =
    let w = is_whole limit bytes message after is in
    let long : 5 ≤ length bytes = omega (arith, size_least bytes, w.fits) in
    let size : frame_size (bytes ++ more) ≡ frame_size bytes = size_front bytes more long in
    let longer : frame_size (bytes ++ more) ≤ length (bytes ++ more) = omega (arith, size, w.fits, length-append bytes more) in
    let all = head_whole limit (bytes ++ more) (fault_front limit bytes more long ∙ w.sound) longer in
    let front : take (frame_size (bytes ++ more)) (bytes ++ more) ≡ take (frame_size bytes) bytes = rw size (take-append-le (frame_size bytes) bytes more w.fits) in
    let back : drop (frame_size (bytes ++ more)) (bytes ++ more) ≡ drop (frame_size bytes) bytes ++ more = rw size (drop-append-le (frame_size bytes) bytes more w.fits) in
    all ∙ rw (front, back, w.message_is, w.after_is) refl

pub after_shorter : (limit : ℕ) (bytes message after : List ℕ) → head_of limit bytes ≡ Ok (Some (message, after)) → length after < length bytes
after_shorter limit bytes message after is =
    let w = is_whole limit bytes message after is in
    omega (arith, size_least bytes, w.fits, ap length w.after_is, length-drop (frame_size bytes) bytes)

length_fault_more : (limit : ℕ) (bytes more : List ℕ) (e : WireFault) → length_fault limit bytes ≡ Some e → length_fault limit (bytes ++ more) ≡ Some e
length_fault_more limit [] more e is = absurd cc
length_fault_more limit (a ∷ []) more e is = absurd cc
length_fault_more limit (a ∷ b ∷ []) more e is = absurd cc
length_fault_more limit (a ∷ b ∷ c ∷ []) more e is = absurd cc
length_fault_more limit (a ∷ b ∷ c ∷ d ∷ bytes) more e is = is

fault_more : (limit : ℕ) (bytes more : List ℕ) (e : WireFault) → frame_fault limit bytes ≡ Some e → frame_fault limit (bytes ++ more) ≡ Some e
fault_more limit [] more e is = absurd cc
fault_more limit (flag ∷ bytes) more e is = elim (flag == 0) as (λ v. (if v then length_fault limit bytes else Some Compressed) ≡ Some e → (if v then length_fault limit (bytes ++ more) else Some Compressed) ≡ Some e) [ true ↦ λ here. length_fault_more limit bytes more e here | false ↦ λ here. here ] is

pub head_fault_more : (limit : ℕ) (bytes more : List ℕ) (e : WireFault) → head_of limit bytes ≡ Err e → head_of limit (bytes ++ more) ≡ Err e
head_fault_more limit bytes more e is = head_fault limit (bytes ++ more) e (fault_more limit bytes more e (fault_is limit bytes e is))
