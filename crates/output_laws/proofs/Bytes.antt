-- What is spelled is in bytes, where its texts are and its numbers are of 64 bits.
use Rattle.std.proofs.Common.{◌≡◌, ℕ, zero, suc, ◌+◌, ◌*◌, ◌/◌, ◌%◌, ◌^◌, ◌<◌, Bool, true, false, cond, ◌&&◌, List, [], ◌∷◌, ◌++◌, length, Option, Some, None, refl, subst, arith, lit<, inl, inr, length-append}
use Rattle.std.specs.Prelude.{IsUtf8, nat_lt, ◌==◌}
use Rattle.std.specs.Int.{byte_at, bytes_high_first, bytes_low_first, w32, w64, to_le_bytes}
use Rattle.std.specs.List.{AllByRecursion}
use Rattle.std.proofs.lemmas.Bool.{ltb-true}
use Rattle.std.proofs.Math.Nat.{pow-succ'}
use lib.Utf8.{encode, encodes, next, scalar, scalar_cases, scalars}
use Rattle.k8s_meta.specs.Lawful.{IsString}
use Rattle.feed_history.proofs.Lists.{all_joined, all_mapped}
use Rattle.proto_wire.specs.declared.record.Rec.{Rec}
use Rattle.proto_wire.specs.declared.record.WireValue.TheVariants.{Varint, Fixed64, Fixed32}
use Rattle.proto_wire.specs.Wire.{spelled, spelling, varint, varint_up_to}
use Rattle.proxy_proto.specs.FieldRecords.{bool_field, chunk, each_field, fixed64_field, number_field, optional_text, text_field, texts_field}

abbrev pub AreBytes : List ℕ → Type 0
AreBytes bytes = AllByRecursion (λ (byte : ℕ). byte < 256) bytes

pub bytes_both : (xs ys : List ℕ) → AreBytes xs → AreBytes ys → AreBytes (xs ++ ys)
bytes_both = all_joined (λ (byte : ℕ). byte < 256)

-- ---- numbers

remainder : (n : ℕ) → n % 256 < 256
remainder n = omega arith

byte_small : (i n : ℕ) → byte_at i n < 256
byte_small zero n = remainder n
byte_small (suc i) n = remainder (n / 256 ^ suc i)

low_bytes : (i k n : ℕ) → AreBytes (bytes_low_first i k n)
low_bytes i zero n = tt
low_bytes i (suc k) n = (byte_small i n, low_bytes (suc i) k n)

pub high_bytes : (k n : ℕ) → AreBytes (bytes_high_first k n)
high_bytes zero n = tt
high_bytes (suc k) n = (byte_small k n, high_bytes k n)

varint_bytes : (k n : ℕ) → n < 256 * 128 ^ k → AreBytes (varint_up_to k n)
unfolding varint_up_to
varint_bytes zero n low = (omega (arith, low), tt)
varint_bytes (suc k) n low = by_size (nat_lt n 128) refl (varint_bytes k (n / 128) less)
  where
    less : n / 128 < 256 * 128 ^ k
    less = let power : 128 ^ suc k ≡ 128 * 128 ^ k = pow-succ' 128 k in omega (arith, low, power)

    by_size : (b : Bool) → nat_lt n 128 ≡ b → AreBytes (varint_up_to k (n / 128)) → AreBytes (cond b (n ∷ []) ((n % 128 + 128) ∷ varint_up_to k (n / 128)))
    by_size true is rest = (let small = ltb-true n 128 is in omega (arith, small), tt)
    by_size false is rest = (omega arith, rest)

number_bytes : (n : ℕ) → n < 2 ^ 64 → AreBytes (varint n)
number_bytes n small = let bound : 2 ^ 64 < 256 * 128 ^ 9 = lit< tt in varint_bytes 9 n (omega (arith, small, bound))

-- ---- texts

both : (a b : Bool) → (a && b) ≡ true → (a ≡ true) × (b ≡ true)
both true b e = (refl, e)
both false b e = absurd cc

below_all : (c : ℕ) → scalar c ≡ true → c < 1114112
below_all c e = elim (scalar_cases c e) [ inl low ↦ omega (arith, low) | inr high ↦ high.1 ]

char_bytes : (c : ℕ) → c < 1114112 → AreBytes (encode c)
unfolding encode
char_bytes c top = by_size (nat_lt c 128) (nat_lt c 2048) (nat_lt c 65536) refl refl refl
  where
    next_small : (n : ℕ) → next n < 256
    next_small n = omega arith

    by_size : (one two three : Bool) → nat_lt c 128 ≡ one → nat_lt c 2048 ≡ two → nat_lt c 65536 ≡ three
        → AreBytes (cond one (c ∷ []) (cond two ((192 + c / 64) ∷ next c ∷ []) (cond three ((224 + c / 4096) ∷ next (c / 64) ∷ next c ∷ []) ((240 + c / 262144) ∷ next (c / 4096) ∷ next (c / 64) ∷ next c ∷ []))))
    by_size true two three is is_two is_three = (let low = ltb-true c 128 is in omega (arith, low), tt)
    by_size false true three is is_two is_three = (let low = ltb-true c 2048 is_two in omega (arith, low), (next_small c, tt))
    by_size false false true is is_two is_three = (let low = ltb-true c 65536 is_three in omega (arith, low), (next_small (c / 64), (next_small c, tt)))
    by_size false false false is is_two is_three = (omega (arith, top), (next_small (c / 4096), (next_small (c / 64), (next_small c, tt))))

chars_bytes : (cs : List ℕ) → scalars cs ≡ true → AreBytes (encodes cs)
chars_bytes [] e = tt
chars_bytes (c ∷ cs) e = let parts = both (scalar c) (scalars cs) e in bytes_both (encode c) (encodes cs) (char_bytes c (below_all c parts.0)) (chars_bytes cs parts.1)

pub text_bytes : (text : List ℕ) → IsUtf8 text → AreBytes text
text_bytes text is = subst AreBytes is.1.1 (chars_bytes is.0 is.1.0)

-- ---- records

-- bytes, where they aren't more than may be
abbrev pub AreBytesIfShort : List ℕ → Type 0
AreBytesIfShort bytes = length bytes < 2 ^ 64 → AreBytes bytes

abbrev pub IsSound : Rec → Type 0
IsSound r = AreBytesIfShort (spelled r)

abbrev pub AreSound : List Rec → Type 0
AreSound rs = AllByRecursion IsSound rs

tag_bytes : (n kind : ℕ) → n < 16 → kind < 8 → AreBytes (varint (n * 8 + kind))
tag_bytes n kind low small = let bound : 136 < 2 ^ 64 = lit< tt in number_bytes (n * 8 + kind) (omega (arith, low, small, bound))

sound_varint : (n x : ℕ) → n < 16 → x < 2 ^ 64 → IsSound (record { number = n; value = Varint x })
unfolding spelled
sound_varint n x low small short = bytes_both (varint (n * 8 + 0)) (varint x) (tag_bytes n 0 low (lit< tt)) (number_bytes x small)

sound_fixed64 : (n x : ℕ) → n < 16 → IsSound (record { number = n; value = Fixed64 x })
unfolding spelled
sound_fixed64 n x low short = bytes_both (varint (n * 8 + 1)) (to_le_bytes w64 x) (tag_bytes n 1 low (lit< tt)) (low_bytes 0 8 x)

pub sound_fixed32 : (n x : ℕ) → n < 16 → IsSound (record { number = n; value = Fixed32 x })
unfolding spelled
sound_fixed32 n x low short = bytes_both (varint (n * 8 + 5)) (to_le_bytes w32 x) (tag_bytes n 5 low (lit< tt)) (low_bytes 0 4 x)

pub sound_chunk : (n : ℕ) (bytes : List ℕ) → n < 16 → AreBytesIfShort bytes → IsSound (chunk n bytes)
unfolding spelled
sound_chunk n bytes low good short =
    let whole = length-append (varint (n * 8 + 2)) (varint (length bytes) ++ bytes) in
    let inner = length-append (varint (length bytes)) bytes in
    let less : length bytes < 2 ^ 64 = omega (arith, whole, inner, short) in
    bytes_both (varint (n * 8 + 2)) (varint (length bytes) ++ bytes) (tag_bytes n 2 low (lit< tt)) (bytes_both (varint (length bytes)) bytes (number_bytes (length bytes) less) (good less))

pub sound_spelling : (rs : List Rec) → AreSound rs → AreBytesIfShort (spelling rs)
sound_spelling [] good short = tt
sound_spelling (r ∷ rs) good short =
    let whole = length-append (spelled r) (spelling rs) in
    bytes_both (spelled r) (spelling rs) (good.0 (omega (arith, whole, short))) (sound_spelling rs good.1 (omega (arith, whole, short)))

-- a message in a field
pub sound_inside : (n : ℕ) (rs : List Rec) → n < 16 → AreSound rs → IsSound (chunk n (spelling rs))
sound_inside n rs low good = sound_chunk n (spelling rs) low (sound_spelling rs good)

-- ---- fields

pub sound_both : (xs ys : List Rec) → AreSound xs → AreSound ys → AreSound (xs ++ ys)
sound_both = all_joined IsSound

pub sound_number : (n x : ℕ) → n < 16 → x < 2 ^ 64 → AreSound (number_field n x)
sound_number n x low small = elim (x == 0) as (λ b. AreSound (cond b [] (record { number = n; value = Varint x } ∷ []))) [ true ↦ tt | false ↦ (sound_varint n x low small, tt) ]

pub sound_half : (n x : ℕ) → n < 16 → AreSound (fixed64_field n x)
sound_half n x low = elim (x == 0) as (λ b. AreSound (cond b [] (record { number = n; value = Fixed64 x } ∷ []))) [ true ↦ tt | false ↦ (sound_fixed64 n x low, tt) ]

pub sound_bool : (n : ℕ) (b : Bool) → n < 16 → AreSound (bool_field n b)
sound_bool n true low = (sound_varint n 1 low (lit< tt), tt)
sound_bool n false low = tt

pub sound_text : (n : ℕ) (text : List ℕ) → n < 16 → IsUtf8 text → AreSound (text_field n text)
sound_text n [] low good = tt
sound_text n (b ∷ bytes) low good = (sound_chunk n (b ∷ bytes) low (λ short. text_bytes (b ∷ bytes) good), tt)

pub sound_some_text : (n : ℕ) (text : Option (List ℕ)) → n < 16 → IsString text → AreSound (optional_text n text)
sound_some_text n None low good = tt
sound_some_text n (Some text) low good = sound_text n text low good

pub sound_texts : (n : ℕ) (texts : List (List ℕ)) → n < 16 → AllByRecursion IsUtf8 texts → AreSound (texts_field n texts)
sound_texts n texts low good = all_mapped IsUtf8 IsSound (chunk n) (λ text is. sound_chunk n text low (λ short. text_bytes text is)) texts good

pub sound_each : {X : Type 0} (n : ℕ) (P : X → Type 0) (f : X → List Rec) → n < 16 → ((x : X) → P x → AreSound (f x)) → (xs : List X) → AllByRecursion P xs → AreSound (each_field n f xs)
sound_each n P f low each xs good = all_mapped P IsSound (λ x. chunk n (spelling (f x))) (λ x is. sound_inside n (f x) low (each x is)) xs good
