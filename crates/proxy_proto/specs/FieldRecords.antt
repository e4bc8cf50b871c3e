-- Fields as the records that they are written as. The number 0, false and the empty string are omitted. A message that is present is
-- written even if it is empty.
use Rattle.std.specs.Prelude.{ℕ, Bool, List, [], ◌∷◌, map, Option, Some, None, ◌==◌, if◌then◌else◌}
use Rattle.proto_wire.specs.declared.record.Rec.{Rec}
use Rattle.proto_wire.specs.declared.record.WireValue.TheVariants.{Varint, Fixed64, Chunk}
use Rattle.proto_wire.specs.Wire.{spelling}

-- a string, or the encoding of a message
abbrev pub chunk : ℕ → List ℕ → Rec
chunk n bytes = record { number = n; value = Chunk bytes }

abbrev pub number_field : ℕ → ℕ → List Rec
number_field n x = if x == 0 then [] else record { number = n; value = Varint x } ∷ []

abbrev pub fixed64_field : ℕ → ℕ → List Rec
fixed64_field n x = if x == 0 then [] else record { number = n; value = Fixed64 x } ∷ []

abbrev pub bool_field : ℕ → Bool → List Rec
bool_field n b = if b then record { number = n; value = Varint 1 } ∷ [] else []

abbrev pub text_field : ℕ → List ℕ → List Rec
text_field n [] = []
text_field n (b ∷ bytes) = chunk n (b ∷ bytes) ∷ []

abbrev pub optional_field : {X : Type 0} → ℕ → (X → List Rec) → Option X → List Rec
optional_field n f None = []
optional_field n f (Some x) = chunk n (spelling (f x)) ∷ []

-- a string that may be absent; the empty string is omitted, too
abbrev pub optional_text : ℕ → Option (List ℕ) → List Rec
optional_text n None = []
optional_text n (Some text) = text_field n text

abbrev pub optional_number : ℕ → Option ℕ → List Rec
optional_number n None = []
optional_number n (Some x) = number_field n x

abbrev pub texts_field : ℕ → List (List ℕ) → List Rec
texts_field n texts = map (chunk n) texts

abbrev pub each_field : {X : Type 0} → ℕ → (X → List Rec) → List X → List Rec
each_field n f xs = map (λ x. chunk n (spelling (f x))) xs
