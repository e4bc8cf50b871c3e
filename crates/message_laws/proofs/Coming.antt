-- Messages that are written pass the check, and come back.
use Rattle.std.proofs.Common.{◌≡◌, ℕ, zero, suc, ◌+◌, ◌*◌, ◌^◌, ◌<◌, ◌≤◌, List, [], ◌∷◌, ◌++◌, length, Option, Some, None, ap, sym, ◌∙◌, refl, arith, inl, inr, lit<, lit≤}
use Rattle.std.proofs.lemmas.Bool.{cases_lt, lt-ltb, le-ltb}
use Rattle.std.proofs.lemmas.List.{append-nil, length-append}
use Rattle.std.specs.List.{AllByRecursion}
use Rattle.std.specs.Str.{IsUtf8}
use Rattle.proto_wire.specs.declared.record.Rec.{Rec}
use Rattle.proto_wire.specs.Wire.{spelled, spelling, varint, varint_up_to}
use Rattle.proto_wire.proofs.Spellings.{spelling-append}
use Rattle.proxy_proto.specs.declared.table.Schema.{Schema}
use Rattle.proxy_proto.specs.declared.table.FieldKind.TheVariants.{Message, Text}
use Rattle.proxy_proto.specs.declared.table.Label.TheVariants.{Repeated, Single}
use Rattle.proxy_proto.specs.FieldRecords.{chunk, text_field, optional_field, each_field}
use Rattle.proxy_proto.specs.Faults.{records_fault, end_fault, fault_at}
use Rattle.proxy_proto.specs.LookUps.{records_in, string_from, string_in, each_in, each_message}
use Rattle.proxy_proto.specs.Tables.{field, fields_of}
use Rattle.message_laws.proofs.Found.{IsSound, scanned, recorded, body_short, each_back, match_or, only_text, sound_each, sound_text, text_kept}
use Rattle.message_laws.proofs.Passing.{clean, pass_each, pass_text}

pub record Comes {X : Type 0} (schema : Schema) (said : List Rec → X) (rs : List Rec) (x : X) : Type 0 where
  pub clean : (depth : ℕ) → length (spelling rs) < depth → fault_at depth schema (spelling rs) ≡ None
  pub back : said (records_in (spelling rs)) ≡ x

pub deep : (schema : Schema) (rs : List Rec) → AllByRecursion IsSound rs → length (spelling rs) < 2 ^ 64 → ((d : ℕ) → length (spelling rs) ≤ d → records_fault (fault_at d) (fields_of schema) [] rs ≡ None)
    → end_fault schema (fields_of schema) (record { records = rs; fault = None }) ≡ None → (depth : ℕ) → length (spelling rs) < depth → fault_at depth schema (spelling rs) ≡ None
deep schema rs sound short passes ends zero lt = absurd (omega arith)
deep schema rs sound short passes ends (suc d) lt = clean d schema rs (scanned rs sound short) (passes d (omega arith)) ends

pub comes : {X : Type 0} (schema : Schema) (said : List Rec → X) (rs : List Rec) (x : X) → AllByRecursion IsSound rs → length (spelling rs) < 2 ^ 64
    → ((d : ℕ) → length (spelling rs) ≤ d → records_fault (fault_at d) (fields_of schema) [] rs ≡ None) → end_fault schema (fields_of schema) (record { records = rs; fault = None }) ≡ None → said rs ≡ x
    → Comes schema said rs x
comes schema said rs x sound short passes ends is = record {
  clean = deep schema rs sound short passes ends;
  back = ap said (recorded rs sound short) ∙ is;
}

-- ---- lengths

pub joined : (xs ys : List Rec) → length (spelling (xs ++ ys)) ≡ length (spelling xs) + length (spelling ys)
joined xs ys = ap length (spelling-append xs ys) ∙ length-append (spelling xs) (spelling ys)

pub first_short : (n : ℕ) (bytes : List ℕ) (rs : List Rec) → length bytes + length (spelling rs) ≤ length (spelling (chunk n bytes ∷ rs))
first_short n bytes rs =
    let body = body_short n bytes in
    omega (arith, length-append (spelled (chunk n bytes)) (spelling rs))

varint_length : (k n : ℕ) → 0 < length (varint_up_to k n)
unfolding varint_up_to
varint_length zero n = lit< tt
varint_length (suc k) n = elim (cases_lt n 128) [ inl small ↦ rw (lt-ltb n 128 small) (lit< tt) | inr large ↦ rw (le-ltb n 128 large) (omega arith) ]

-- what is inside is shorter
pub first_inside : (n : ℕ) (bytes : List ℕ) (rs : List Rec) → length bytes < length (spelling (chunk n bytes ∷ rs))
unfolding spelled
first_inside n bytes rs =
    let a = length-append (spelled (chunk n bytes)) (spelling rs) in
    let b = length-append (varint (n * 8 + 2)) (varint (length bytes) ++ bytes) in
    let c = length-append (varint (length bytes)) bytes in
    omega (arith, varint_length 9 (n * 8 + 2))

pub all_within : {X : Type 0} (n : ℕ) (f : X → List Rec) (P Q : X → Type 0) (most : ℕ) (xs : List X) → ((x : X) → P x → length (spelling (f x)) < most → Q x) → AllByRecursion P xs → length (spelling (each_field n f xs)) ≤ most → AllByRecursion Q xs
all_within n f P Q most [] go h le = tt
all_within n f P Q most (x ∷ xs) go h le =
    let here = first_inside n (spelling (f x)) (each_field n f xs) in
    let all = first_short n (spelling (f x)) (each_field n f xs) in
    (go x h.0 (omega arith), all_within n f P Q most xs go h.1 (omega arith))

-- ---- messages in a repeated field

abbrev pub AllCome : {X : Type 0} → Schema → (List Rec → X) → (X → List Rec) → List X → Type 0
AllCome schema said f xs = AllByRecursion (λ x. Comes schema said (f x) x) xs

pub each_comes : {X : Type 0} (n : ℕ) (schema : Schema) (said : List Rec → X) (f : X → List Rec) (P : X → Type 0) (xs : List X) → ((x : X) → P x → length (spelling (f x)) < 2 ^ 64 → Comes schema said (f x) x) → AllByRecursion P xs
    → length (spelling (each_field n f xs)) < 2 ^ 64 → AllCome schema said f xs
each_comes n schema said f P xs go h short = all_within n f P (λ x. Comes schema said (f x) x) (2 ^ 64) xs go h (omega arith)

pub each_clean : {X : Type 0} (n d : ℕ) (schema : Schema) (said : List Rec → X) (f : X → List Rec) (xs : List X) → AllCome schema said f xs → length (spelling (each_field n f xs)) ≤ d → AllByRecursion (λ x. fault_at d schema (spelling (f x)) ≡ None) xs
each_clean n d schema said f xs there le = all_within n f (λ x. Comes schema said (f x) x) (λ x. fault_at d schema (spelling (f x)) ≡ None) d xs (λ x h lt. h.clean d lt) there le

pub each_said : {X : Type 0} (schema : Schema) (said : List Rec → X) (f : X → List Rec) (xs : List X) → AllCome schema said f xs → AllByRecursion (λ x. said (records_in (spelling (f x))) ≡ x) xs
each_said schema said f [] there = tt
each_said schema said f (x ∷ xs) there = (there.0.back, each_said schema said f xs there.1)

pub each_such : {X : Type 0} (n : ℕ) (f : X → List Rec) (P Q : X → Type 0) (xs : List X) → ((x : X) → P x → length (spelling (f x)) < 2 ^ 64 → Q x) → AllByRecursion P xs → length (spelling (each_field n f xs)) < 2 ^ 64 → AllByRecursion Q xs
each_such n f P Q xs go h short = all_within n f P Q (2 ^ 64) xs go h (omega arith)

-- ---- a message in a field that may be left out

abbrev pub ComesIfSome : {X : Type 0} → Schema → (List Rec → X) → (X → List Rec) → Option X → Type 0
ComesIfSome schema said f o = match_or o (λ x. Comes schema said (f x) x)

pub optional_clean : {X : Type 0} (n d : ℕ) (schema : Schema) (said : List Rec → X) (f : X → List Rec) (o : Option X) → ComesIfSome schema said f o → length (spelling (optional_field n f o)) ≤ d → match_or o (λ x. fault_at d schema (spelling (f x)) ≡ None)
optional_clean n d schema said f None there le = tt
optional_clean n d schema said f (Some x) there le = let less = first_inside n (spelling (f x)) [] in there.clean d (omega arith)

pub optional_said : {X : Type 0} (schema : Schema) (said : List Rec → X) (f : X → List Rec) (o : Option X) → ComesIfSome schema said f o → match_or o (λ x. said (records_in (spelling (f x))) ≡ x)
optional_said schema said f None there = tt
optional_said schema said f (Some x) there = there.back

-- ---- a message that is a list of others

pub set_clean : {X : Type 0} (set one : Schema) (f : X → List Rec) (xs : List X) → fields_of set ≡ field 1 Repeated (Message one) ∷ [] → end_fault set (fields_of set) (record { records = each_field 1 f xs; fault = None }) ≡ None
    → ((d : ℕ) → length (spelling (each_field 1 f xs)) ≤ d → AllByRecursion (λ x. fault_at d one (spelling (f x)) ≡ None) xs) → length (spelling (each_field 1 f xs)) < 2 ^ 64
    → (depth : ℕ) → length (spelling (each_field 1 f xs)) < depth → fault_at depth set (spelling (each_field 1 f xs)) ≡ None
set_clean set one f xs table ends fine short depth lt =
    deep set (each_field 1 f xs) (sound_each 1 f xs (lit< tt) (lit< tt)) short (λ d le. (pass_each (fault_at d) (fields_of set) 0 1 one f xs (rw table refl) (fine d le)).pass [] tt) ends depth lt

pub each_alone : {X : Type 0} (f : X → List Rec) (said : List ℕ → X) (xs : List X) → AllByRecursion (λ x. said (spelling (f x)) ≡ x) xs → length (spelling (each_field 1 f xs)) < 2 ^ 64 → each_in 1 said (records_in (spelling (each_field 1 f xs))) ≡ xs
each_alone f said xs back short =
    ap (each_in 1 said) (recorded (each_field 1 f xs) (sound_each 1 f xs (lit< tt) (lit< tt)) short ∙ sym (append-nil (each_field 1 f xs))) ∙ each_back 1 f said xs [] refl back

pub set_comes : {X : Type 0} (set one : Schema) (said : List Rec → X) (f : X → List Rec) (xs : List X) → fields_of set ≡ field 1 Repeated (Message one) ∷ [] → end_fault set (fields_of set) (record { records = each_field 1 f xs; fault = None }) ≡ None
    → AllCome one said f xs → length (spelling (each_field 1 f xs)) < 2 ^ 64 → Comes set (each_message 1 said) (each_field 1 f xs) xs
set_comes set one said f xs table ends there short = record {
  clean = set_clean set one f xs table ends (λ d le. each_clean 1 d one said f xs there le) short;
  back = each_alone f (λ bytes. said (records_in bytes)) xs (each_said one said f xs there) short;
}

-- ---- a message of one string

pub text_comes : (schema : Schema) (text : List ℕ) → fields_of schema ≡ field 1 Single Text ∷ [] → end_fault schema (fields_of schema) (record { records = text_field 1 text; fault = None }) ≡ None → IsUtf8 text → length (spelling (text_field 1 text)) < 2 ^ 64
    → Comes schema (string_in 1) (text_field 1 text) text
text_comes schema text table ends is short =
    comes schema (string_in 1) (text_field 1 text) text (sound_text 1 text (lit< tt) (lit< tt)) short
    (λ d le. (pass_text (fault_at d) (fields_of schema) 0 1 text (rw table refl) (lit≤ tt) is).pass [] tt)
    ends
    (ap string_from (only_text 1 text) ∙ text_kept text is)
