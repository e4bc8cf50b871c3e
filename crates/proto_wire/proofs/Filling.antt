-- A frame that is filled up from a piece: first its five bytes, then its message.
use Rattle.std.proofs.Common.{◌≡◌, ℕ, ◌-◌, ◌<◌, ◌≤◌, List, [], ◌++◌, length, take, drop, Option, Some, None, Ok, Err, refl, sym, ap, ◌∙◌, arith, inl, inr, append_assoc, length-append, take-append-drop}
use Rattle.std.proofs.lemmas.Bool.{cases_lt}
use Rattle.std.proofs.lemmas.List.{append-nil, take_at, drop_at, drop_all, length-take}
use Rattle.proto_wire.specs.declared.fault.WireFault.{WireFault}
use Rattle.proto_wire.specs.Wire.{unless_fault}
use Rattle.proto_wire.specs.Frames.{frame_fault, head_of}
use Rattle.proto_wire.specs.Unframing.{frame_size}
use Rattle.proto_wire.proofs.Heads.{fault_front, size_front, size_least, head_whole, head_short, head_fault, is_short}

-- a part with bytes of a piece up to a length, and the piece's other bytes
abbrev pub filled : ℕ → List ℕ → List ℕ → List ℕ
filled len part piece = part ++ take (len - length part) piece

abbrev pub unused : ℕ → List ℕ → List ℕ → List ℕ
unused len part piece = drop (len - length part) piece

all_bytes : (len : ℕ) (part piece : List ℕ) → filled len part piece ++ unused len part piece ≡ part ++ piece
all_bytes len part piece = append_assoc part (take (len - length part) piece) (drop (len - length part) piece) ∙ ap (λ (xs : List ℕ). part ++ xs) (take-append-drop (len - length part) piece)

-- there are so many, or the piece is used up
filled_or_used : (len : ℕ) (part piece : List ℕ) → length part ≤ len → length (filled len part piece) < len → unused len part piece ≡ []
filled_or_used len part piece le lt = drop_all (len - length part) piece (omega (arith, length-append part (take (len - length part) piece), length-take (len - length part) piece))

filled_most : (len : ℕ) (part piece : List ℕ) → length part ≤ len → length (filled len part piece) ≤ len
filled_most len part piece le = omega (arith, length-append part (take (len - length part) piece), length-take (len - length part) piece)

-- a part that is long enough stays
filled_enough : (len : ℕ) (part piece : List ℕ) → len ≤ length part → filled len part piece ≡ part
filled_enough len part piece le = let none : len - length part ≡ 0 = omega arith in rw none (append-nil part)

-- what is known of the first five bytes
pub record Knows (limit : ℕ) (part piece : List ℕ) : Type 0 where
  pub fault_is : frame_fault limit (part ++ piece) ≡ frame_fault limit (filled 5 part piece)
  pub size_is : frame_size (part ++ piece) ≡ frame_size (filled 5 part piece)
  pub short : length (filled 5 part piece) ≤ frame_size (filled 5 part piece)

pub knows : (limit : ℕ) (part piece : List ℕ) → head_of limit part ≡ Ok None → Knows limit part piece
knows limit part piece unended =
    let q = filled 5 part piece in
    let all = all_bytes 5 part piece in
    elim (cases_lt (length part) 5) [
      | inl few ↦
          let short : length q ≤ frame_size q = omega (arith, filled_most 5 part piece (omega arith), size_least q) in
          elim (cases_lt (length q) 5) [
            | inl lt ↦
                let same : q ≡ part ++ piece = sym (append-nil q) ∙ ap (λ (xs : List ℕ). q ++ xs) (sym (filled_or_used 5 part piece (omega arith) lt)) ∙ all in
                record { fault_is = ap (frame_fault limit) (sym same); size_is = ap frame_size (sym same); short = short }
            | inr long ↦ record { fault_is = ap (frame_fault limit) (sym all) ∙ fault_front limit q (unused 5 part piece) long; size_is = ap frame_size (sym all) ∙ size_front q (unused 5 part piece) long; short = short }
          ]
      | inr long ↦
          let same : q ≡ part = filled_enough 5 part piece long in
          let sizes : frame_size q ≡ frame_size part = ap frame_size same in
          let lengths : length q ≡ length part = ap length same in
          record {
            fault_is = fault_front limit part piece long ∙ ap (frame_fault limit) (sym same);
            size_is = size_front part piece long ∙ sym sizes;
            short = omega (arith, is_short limit part unended);
          }
    ]

-- what the two fillings make
abbrev pub second : ℕ → List ℕ → List ℕ → List ℕ
second len part piece = filled len (filled 5 part piece) (unused 5 part piece)

abbrev pub behind : ℕ → List ℕ → List ℕ → List ℕ
behind len part piece = unused len (filled 5 part piece) (unused 5 part piece)

second_all : (len : ℕ) (part piece : List ℕ) → second len part piece ++ behind len part piece ≡ part ++ piece
second_all len part piece = all_bytes len (filled 5 part piece) (unused 5 part piece) ∙ all_bytes 5 part piece

pub fills_whole : (limit len : ℕ) (part piece : List ℕ) → head_of limit part ≡ Ok None → frame_fault limit (filled 5 part piece) ≡ None → len ≡ frame_size (filled 5 part piece)
    → len ≤ length (second len part piece) → head_of limit (part ++ piece) ≡ Ok (Some (drop 5 (second len part piece), behind len part piece))
fills_whole limit len part piece unended sound is le =
    let k = knows limit part piece unended in
    let p = second len part piece in
    let most = filled_most len (filled 5 part piece) (unused 5 part piece) (omega (arith, k.short, is)) in
    let exact : length p ≡ len = omega arith in
    let size : frame_size (part ++ piece) ≡ len = k.size_is ∙ sym is in
    let all = second_all len part piece in
    let longer : frame_size (part ++ piece) ≤ length (part ++ piece) = omega (arith, size, exact, ap length all, length-append p (behind len part piece)) in
    let front : take (frame_size (part ++ piece)) (part ++ piece) ≡ p = rw (size, ← all) (take_at p (behind len part piece) len exact) in
    let back : drop (frame_size (part ++ piece)) (part ++ piece) ≡ behind len part piece = rw (size, ← all) (drop_at p (behind len part piece) len exact) in
    head_whole limit (part ++ piece) (k.fault_is ∙ sound) longer ∙ rw (front, back) refl

pub fills_part : (limit len : ℕ) (part piece : List ℕ) → head_of limit part ≡ Ok None → frame_fault limit (filled 5 part piece) ≡ None → len ≡ frame_size (filled 5 part piece)
    → length (second len part piece) < len → (head_of limit (part ++ piece) ≡ Ok None) × (second len part piece ≡ part ++ piece)
fills_part limit len part piece unended sound is lt =
    let k = knows limit part piece unended in
    let p = second len part piece in
    let used = filled_or_used len (filled 5 part piece) (unused 5 part piece) (omega (arith, k.short, is)) lt in
    let same : p ≡ part ++ piece = sym (append-nil p) ∙ ap (λ (xs : List ℕ). p ++ xs) (sym used) ∙ second_all len part piece in
    (head_short limit (part ++ piece) (k.fault_is ∙ sound) (omega (arith, k.size_is, is, lt, ap length same)), same)

pub fills_fault : (limit : ℕ) (part piece : List ℕ) (e : WireFault) → head_of limit part ≡ Ok None → frame_fault limit (filled 5 part piece) ≡ Some e → head_of limit (part ++ piece) ≡ Err e
fills_fault limit part piece e unended bad = head_fault limit (part ++ piece) e ((knows limit part piece unended).fault_is ∙ bad)

-- what `size` answers
pub size_sound : (fault : Option WireFault) (size len : ℕ) → unless_fault fault size ≡ Ok len → (fault ≡ None) × (len ≡ size)
size_sound None size len is = (refl, cc)
size_sound (Some e) size len is = absurd cc

pub size_fault : (fault : Option WireFault) (size : ℕ) (e : WireFault) → unless_fault fault size ≡ Err e → fault ≡ Some e
size_fault None size e is = absurd cc
size_fault (Some d) size e is = cc

-- what the code has at its three ends: q and r after the first filling, p and s after the second
pub next_whole : (limit len : ℕ) (part piece q r p s : List ℕ) → head_of limit part ≡ Ok None → q ≡ filled 5 part piece → r ≡ unused 5 part piece
    → unless_fault (frame_fault limit q) (frame_size q) ≡ Ok len → p ≡ filled len q r → s ≡ unused len q r → len ≤ length p → head_of limit (part ++ piece) ≡ Ok (Some (drop 5 p, s))
next_whole limit len part piece q r p s unended q_is r_is told p_is s_is le =
    let two : p ≡ second len part piece = p_is ∙ rw (q_is, r_is) refl in
    let rest : s ≡ behind len part piece = s_is ∙ rw (q_is, r_is) refl in
    let size = size_sound (frame_fault limit q) (frame_size q) len told in
    rw (two, rest) (fills_whole limit len part piece unended (ap (frame_fault limit) (sym q_is) ∙ size.0) (size.1 ∙ ap frame_size q_is) (omega (arith, le, ap length two)))

pub next_part : (limit len : ℕ) (part piece q r p : List ℕ) → head_of limit part ≡ Ok None → q ≡ filled 5 part piece → r ≡ unused 5 part piece
    → unless_fault (frame_fault limit q) (frame_size q) ≡ Ok len → p ≡ filled len q r → length p < len → (head_of limit (part ++ piece) ≡ Ok None) × (p ≡ part ++ piece)
next_part limit len part piece q r p unended q_is r_is told p_is lt =
    let two : p ≡ second len part piece = p_is ∙ rw (q_is, r_is) refl in
    let size = size_sound (frame_fault limit q) (frame_size q) len told in
    let f = fills_part limit len part piece unended (ap (frame_fault limit) (sym q_is) ∙ size.0) (size.1 ∙ ap frame_size q_is) (omega (arith, lt, ap length two)) in
    (f.0, two ∙ f.1)

pub next_fault : (limit : ℕ) (part piece q : List ℕ) (e : WireFault) → head_of limit part ≡ Ok None → q ≡ filled 5 part piece
    → unless_fault (frame_fault limit q) (frame_size q) ≡ Err e → head_of limit (part ++ piece) ≡ Err e
next_fault limit part piece q e unended q_is told = fills_fault limit part piece e unended (ap (frame_fault limit) (sym q_is) ∙ size_fault (frame_fault limit q) (frame_size q) e told)
