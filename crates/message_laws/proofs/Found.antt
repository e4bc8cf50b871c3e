-- What is written in a field is found there.
use Rattle.std.proofs.Common.{◌≡◌, ◌≢◌, ℕ, ◌+◌, ◌*◌, ◌^◌, ◌<◌, ◌≤◌, Bool, true, false, eqb, List, [], ◌∷◌, ◌++◌, length, Option, Some, None, refl, sym, ap, ◌∙◌, arith, inl, inr, lit<}
use Rattle.std.proofs.lemmas.Bool.{eq-eqb, lt-ltb}
use Rattle.std.proofs.lemmas.Bool.Decides.{eqb_tells}
use Rattle.std.proofs.lemmas.List.{append-nil, length-append}
use Rattle.std.specs.List.{AllByRecursion}
use Rattle.std.specs.Str.{IsUtf8}
use Rattle.std.proofs.lemmas.Str.{is_utf8-from_IsUtf8}
use Rattle.proto_wire.specs.declared.record.Rec.{Rec}
use Rattle.proto_wire.specs.declared.record.WireValue.{WireValue}
use Rattle.proto_wire.specs.declared.record.WireValue.TheVariants.{Varint, Fixed64, Fixed32, Chunk}
use Rattle.proto_wire.specs.Wire.{varint, wire_type, value_spelled, spelled, spelling, Fits, FitsValue, scan_of}
use Rattle.proto_wire.proofs.Round.{reads_back}
use Rattle.proxy_proto.specs.FieldRecords.{chunk, number_field, fixed64_field, bool_field, text_field, optional_field, each_field}
use Rattle.proxy_proto.specs.LookUps.{records_in, value_at, number_from, fixed64_from, chunk_in, below, flag_in, string_from, each_in, optional_in}

ne : (a b : ℕ) → a ≢ b → eqb a b ≡ false
ne a b h = elim (eqb_tells a b) [ inl w ↦ absurd (h w.1) | inr w ↦ w.0 ]

-- ---- what fits

-- a record that can be spelled if its bytes are short enough
abbrev pub IsSoundValue : WireValue → Type 0
IsSoundValue (Varint n) = n < 2 ^ 64
IsSoundValue (Fixed64 n) = n < 2 ^ 64
IsSoundValue (Chunk bytes) = Unit {0}
IsSoundValue (Fixed32 n) = n < 2 ^ 32

pub record IsSound (r : Rec) : Type 0 where
  pub named : 0 < r.number
  pub number : r.number < 536870912
  pub value : IsSoundValue r.value

value_fits : (v : WireValue) → IsSoundValue v → length (value_spelled v) < 2 ^ 64 → FitsValue v
value_fits (Varint n) h lt = h
value_fits (Fixed64 n) h lt = h
value_fits (Chunk bytes) h lt = omega (arith, length-append (varint (length bytes)) bytes)
value_fits (Fixed32 n) h lt = h

spelled_value : (r : Rec) → length (value_spelled r.value) ≤ length (spelled r)
unfolding spelled
spelled_value r = omega (arith, length-append (varint (r.number * 8 + wire_type r.value)) (value_spelled r.value))

all_fit : (rs : List Rec) → AllByRecursion IsSound rs → length (spelling rs) < 2 ^ 64 → AllByRecursion Fits rs
all_fit [] h lt = tt
all_fit (r ∷ rs) h lt =
    let len = length-append (spelled r) (spelling rs) in
    let body = spelled_value r in
    (record { named = h.0.named; number = h.0.number; value = value_fits r.value h.0.value (omega arith) }, all_fit rs h.1 (omega arith))

-- what is spelled is read
pub scanned : (rs : List Rec) → AllByRecursion IsSound rs → length (spelling rs) < 2 ^ 64 → scan_of (spelling rs) ≡ record { records = rs; fault = None }
scanned rs sound lt = reads_back rs (all_fit rs sound lt)

pub recorded : (rs : List Rec) → AllByRecursion IsSound rs → length (spelling rs) < 2 ^ 64 → records_in (spelling rs) ≡ rs
recorded rs sound lt = ap (λ s. s.records) (scanned rs sound lt)

pub body_short : (n : ℕ) (bytes : List ℕ) → length bytes ≤ length (spelled (chunk n bytes))
body_short n bytes =
    let whole = spelled_value (chunk n bytes) in
    omega (arith, length-append (varint (length bytes)) bytes)

-- ---- what is sound

pub sound_append : (xs ys : List Rec) → AllByRecursion IsSound xs → AllByRecursion IsSound ys → AllByRecursion IsSound (xs ++ ys)
sound_append [] ys h k = k
sound_append (x ∷ xs) ys h k = (h.0, sound_append xs ys h.1 k)

pub sound_number : (n x : ℕ) → 0 < n → n < 536870912 → x < 2 ^ 64 → AllByRecursion IsSound (number_field n x)
sound_number n x some lt small =
    elim (eqb_tells x 0) [
      | inl w ↦ rw w.0 tt
      | inr w ↦ rw w.0 (record { named = some; number = lt; value = small }, tt)
    ]

pub sound_fixed64 : (n x : ℕ) → 0 < n → n < 536870912 → x < 2 ^ 64 → AllByRecursion IsSound (fixed64_field n x)
sound_fixed64 n x some lt small =
    elim (eqb_tells x 0) [
      | inl w ↦ rw w.0 tt
      | inr w ↦ rw w.0 (record { named = some; number = lt; value = small }, tt)
    ]

pub sound_chunk : (n : ℕ) (bytes : List ℕ) → 0 < n → n < 536870912 → IsSound (chunk n bytes)
sound_chunk n bytes some lt = record { named = some; number = lt; value = tt }

pub sound_optional : {X : Type 0} (n : ℕ) (f : X → List Rec) (o : Option X) → 0 < n → n < 536870912 → AllByRecursion IsSound (optional_field n f o)
sound_optional n f None some lt = tt
sound_optional n f (Some x) some lt = (sound_chunk n (spelling (f x)) some lt, tt)

pub sound_each : {X : Type 0} (n : ℕ) (f : X → List Rec) (xs : List X) → 0 < n → n < 536870912 → AllByRecursion IsSound (each_field n f xs)
sound_each n f [] some lt = tt
sound_each n f (x ∷ xs) some lt = (sound_chunk n (spelling (f x)) some lt, sound_each n f xs some lt)

-- ---- what is found

-- records without this field don't hide those behind them
pub skip : (n : ℕ) (xs ys : List Rec) → value_at n xs ≡ None → value_at n (xs ++ ys) ≡ value_at n ys
skip n [] ys h = refl
skip n (x ∷ xs) ys h =
    elim (eqb_tells x.number n) [
      | inl w ↦ absurd (let e : Some x.value ≡ None = rw w.0 at h in cc)
      | inr w ↦ rw w.0 (skip n xs ys (rw w.0 at h))
    ]

pub not_number : (n m x : ℕ) → m ≢ n → value_at n (number_field m x) ≡ None
not_number n m x h =
    elim (eqb_tells x 0) [
      | inl w ↦ rw w.0 refl
      | inr w ↦ rw (w.0, ne m n h) refl
    ]

pub not_fixed64 : (n m x : ℕ) → m ≢ n → value_at n (fixed64_field m x) ≡ None
not_fixed64 n m x h =
    elim (eqb_tells x 0) [
      | inl w ↦ rw w.0 refl
      | inr w ↦ rw (w.0, ne m n h) refl
    ]

pub found_number : (n x : ℕ) (rest : List Rec) → value_at n rest ≡ None → number_from (value_at n (number_field n x ++ rest)) ≡ x
found_number n x rest none =
    elim (eqb_tells x 0) [
      | inl w ↦ rw (w.0, none) (sym w.1)
      | inr w ↦ rw (w.0, eq-eqb n n refl) refl
    ]

pub found_fixed64 : (n x : ℕ) (rest : List Rec) → value_at n rest ≡ None → fixed64_from (value_at n (fixed64_field n x ++ rest)) ≡ x
found_fixed64 n x rest none =
    elim (eqb_tells x 0) [
      | inl w ↦ rw (w.0, none) (sym w.1)
      | inr w ↦ rw (w.0, eq-eqb n n refl) refl
    ]

pub only_number : (n x : ℕ) → number_from (value_at n (number_field n x)) ≡ x
only_number n x = ap (λ rs. number_from (value_at n rs)) (sym (append-nil (number_field n x))) ∙ found_number n x [] refl

pub only_fixed64 : (n x : ℕ) → fixed64_from (value_at n (fixed64_field n x)) ≡ x
only_fixed64 n x = ap (λ rs. fixed64_from (value_at n rs)) (sym (append-nil (fixed64_field n x))) ∙ found_fixed64 n x [] refl

-- ---- repeated fields

each_absent : {X : Type 0} (n : ℕ) (g : List ℕ → X) (rs : List Rec) → value_at n rs ≡ None → each_in n g rs ≡ []
each_absent n g [] h = refl
each_absent n g (r ∷ rs) h =
    elim (eqb_tells r.number n) [
      | inl w ↦ absurd (let e : Some r.value ≡ None = rw w.0 at h in cc)
      | inr w ↦ rw w.0 (each_absent n g rs (rw w.0 at h))
    ]

pub each_back : {X : Type 0} (n : ℕ) (f : X → List Rec) (g : List ℕ → X) (xs : List X) (rest : List Rec) → value_at n rest ≡ None → AllByRecursion (λ x. g (spelling (f x)) ≡ x) xs → each_in n g (each_field n f xs ++ rest) ≡ xs
each_back n f g [] rest none h = each_absent n g rest none
each_back n f g (x ∷ xs) rest none h = rw (eq-eqb n n refl, h.0, each_back n f g xs rest none h.1) refl

-- ---- what fits is kept

pub kept : (limit n : ℕ) → n < limit → below limit n ≡ n
kept limit n lt = rw (lt-ltb n limit lt) refl

pub text_kept : (bytes : List ℕ) → IsUtf8 bytes → string_from bytes ≡ bytes
text_kept bytes text = rw (is_utf8-from_IsUtf8 bytes text) refl

-- ---- flags, strings and messages that may be left out

-- what holds of the value, where there is one
abbrev pub match_or : {X : Type 0} → Option X → (X → Type 0) → Type 0
match_or None P = Unit {0}
match_or (Some x) P = P x

pub not_text : (n m : ℕ) (bytes : List ℕ) → m ≢ n → value_at n (text_field m bytes) ≡ None
not_text n m [] h = refl
not_text n m (b ∷ bytes) h = rw (ne m n h) refl

pub found_bool : (n : ℕ) (b : Bool) (rest : List Rec) → value_at n rest ≡ None → flag_in n (bool_field n b ++ rest) ≡ b
found_bool n false rest none = rw none refl
found_bool n true rest none = rw (eq-eqb n n refl) refl

pub found_text : (n : ℕ) (bytes : List ℕ) (rest : List Rec) → value_at n rest ≡ None → chunk_in n (text_field n bytes ++ rest) ≡ bytes
found_text n [] rest none = rw none refl
found_text n (b ∷ bytes) rest none = rw (eq-eqb n n refl) refl

pub found_optional : {X : Type 0} (n : ℕ) (f : X → List Rec) (said : List Rec → X) (o : Option X) (rest : List Rec) → value_at n rest ≡ None → (match_or o (λ x. said (records_in (spelling (f x))) ≡ x)) → optional_in n said (optional_field n f o ++ rest) ≡ o
found_optional n f said None rest none back = rw none refl
found_optional n f said (Some x) rest none back = rw (eq-eqb n n refl, back) refl

-- ---- what is sound

pub sound_bool : (n : ℕ) (b : Bool) → 0 < n → n < 536870912 → AllByRecursion IsSound (bool_field n b)
sound_bool n false some lt = tt
sound_bool n true some lt = (record { named = some; number = lt; value = lit< tt }, tt)

pub sound_text : (n : ℕ) (bytes : List ℕ) → 0 < n → n < 536870912 → AllByRecursion IsSound (text_field n bytes)
sound_text n [] some lt = tt
sound_text n (b ∷ bytes) some lt = (sound_chunk n (b ∷ bytes) some lt, tt)

pub only_text : (n : ℕ) (bytes : List ℕ) → chunk_in n (text_field n bytes) ≡ bytes
only_text n bytes = ap (chunk_in n) (sym (append-nil (text_field n bytes))) ∙ found_text n bytes [] refl

pub only_bool : (n : ℕ) (b : Bool) → flag_in n (bool_field n b) ≡ b
only_bool n b = ap (flag_in n) (sym (append-nil (bool_field n b))) ∙ found_bool n b [] refl
