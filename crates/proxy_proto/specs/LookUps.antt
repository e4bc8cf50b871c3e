-- The contents of records, field by field. Each look-up is defined for any records.
use Rattle.std.specs.Prelude.{ℕ, ◌+◌, ◌*◌, ◌||◌, Bool, false, not, List, [], ◌∷◌, Option, Some, None, option_map, nat_lt, ◌==◌, if◌then◌else◌}
use Rattle.std.specs.Str.{is_utf8}
use Rattle.proto_wire.specs.declared.record.Rec.{Rec}
use Rattle.proto_wire.specs.declared.record.WireValue.{WireValue}
use Rattle.proto_wire.specs.declared.record.WireValue.TheVariants.{Varint, Fixed64, Chunk}
use Rattle.proto_wire.specs.Wire.{scan_of}

-- the records of a message, up to the first that cannot be read
abbrev pub records_in : List ℕ → List Rec
records_in bytes = (scan_of bytes).records

-- the value of the first record with this number
abbrev pub value_at : ℕ → List Rec → Option WireValue
value_at n [] = None
value_at n (r ∷ rs) = if r.number == n then Some r.value else value_at n rs

-- whether a record has this number
abbrev pub has : ℕ → List Rec → Bool
has n [] = false
has n (r ∷ rs) = r.number == n || has n rs

-- An omitted number is 0; an omitted string or message is empty.
abbrev pub number_from : Option WireValue → ℕ
number_from (Some (Varint n)) = n
number_from _ = 0

abbrev pub fixed64_from : Option WireValue → ℕ
fixed64_from (Some (Fixed64 n)) = n
fixed64_from _ = 0

abbrev pub chunk_from : Option WireValue → List ℕ
chunk_from (Some (Chunk bytes)) = bytes
chunk_from _ = []

-- the number, or 0 if it is not below the limit
abbrev pub below : ℕ → ℕ → ℕ
below limit n = if nat_lt n limit then n else 0

abbrev pub number_below : ℕ → ℕ → List Rec → ℕ
number_below limit n rs = below limit (number_from (value_at n rs))

-- any number but 0 is true
abbrev pub flag_in : ℕ → List Rec → Bool
flag_in n rs = not (number_from (value_at n rs) == 0)

-- the seconds and nanoseconds of a duration, in nanoseconds
abbrev pub nanoseconds_in : List Rec → ℕ
nanoseconds_in rs = number_from (value_at 1 rs) * 1000000000 + number_from (value_at 2 rs)

-- the bytes in this field
abbrev pub chunk_in : ℕ → List Rec → List ℕ
chunk_in n rs = chunk_from (value_at n rs)

-- the bytes as a string, which is empty if they are not UTF-8
abbrev pub string_from : List ℕ → List ℕ
string_from bytes = if is_utf8 bytes then bytes else []

abbrev pub string_in : ℕ → List Rec → List ℕ
string_in n rs = string_from (chunk_in n rs)

-- the records of the message in this field
abbrev pub inside : ℕ → List Rec → List Rec
inside n rs = records_in (chunk_in n rs)

-- the contents of the messages in a repeated field
abbrev pub each_in : {X : Type 0} → ℕ → (List ℕ → X) → List Rec → List X
each_in n said [] = []
each_in n said (r ∷ rs) = if r.number == n then said (chunk_from (Some r.value)) ∷ each_in n said rs else each_in n said rs

-- the strings in a repeated field
abbrev pub texts_in : ℕ → List Rec → List (List ℕ)
texts_in n rs = each_in n string_from rs

abbrev pub each_message : {X : Type 0} → ℕ → (List Rec → X) → List Rec → List X
each_message n said rs = each_in n (λ bytes. said (records_in bytes)) rs

-- the contents of the message in a field, if it is present
abbrev pub optional_in : {X : Type 0} → ℕ → (List Rec → X) → List Rec → Option X
optional_in n said rs = option_map (λ value. said (records_in (chunk_from (Some value)))) (value_at n rs)

-- ---- values that mean none

abbrev pub some_string : List ℕ → Option (List ℕ)
some_string [] = None
some_string (b ∷ bytes) = Some (b ∷ bytes)

abbrev pub some_number : ℕ → Option ℕ
some_number n = if n == 0 then None else Some n
