-- Each field of a message as a block that passes the check, and what is found in it.
use Rattle.std.proofs.Common.{◌≡◌, ◌≢◌, ℕ, suc, ◌^◌, ◌<◌, ◌≤◌, ◌==◌, Bool, true, false, not, if◌then◌else◌, List, [], ◌∷◌, ◌++◌, length, Option, Some, None, refl, ap, ◌∙◌, append-nil, arith, inl, inr, lit<}
use Rattle.std.proofs.lemmas.Bool.{eq-eqb}
use Rattle.std.proofs.lemmas.Bool.Decides.{eqb_tells}
use Rattle.std.specs.List.{AllByRecursion}
use Rattle.std.specs.Option.{option_map}
use Rattle.std.specs.Str.{IsUtf8, is_utf8}
use Rattle.std.proofs.lemmas.Str.{is_utf8-from_IsUtf8}
use Rattle.k8s_meta.specs.Lawful.{IsSomePort, IsString}
use Rattle.proto_wire.specs.declared.record.Rec.{Rec}
use Rattle.proto_wire.specs.Wire.{spelling}
use Rattle.proxy_proto.specs.declared.table.Field.{Field}
use Rattle.proxy_proto.specs.declared.table.FieldKind.TheVariants.{Number, Text, Message}
use Rattle.proxy_proto.specs.declared.table.Label.TheVariants.{Single, Required, Choice, Repeated, Map}
use Rattle.proxy_proto.specs.declared.table.Schema.{Schema}
use Rattle.proxy_proto.specs.declared.table.Schema.TheVariants as schemas
use Rattle.proxy_proto.specs.FieldRecords.{chunk, number_field, bool_field, text_field, optional_text, optional_number, optional_field, texts_field, each_field}
use Rattle.proxy_proto.specs.Faults.{end_fault, fault_at, field_at, has_choice, records_fault}
use Rattle.proxy_proto.specs.LookUps.{below, chunk_from, chunk_in, each_in, each_message, flag_in, has, inside, number_below, number_from, optional_in, records_in, some_number, some_string, string_from, string_in, texts_in, value_at}
use Rattle.proxy_proto.specs.Tables.{field, fields_of}
use Rattle.proxy_proto.proofs.Checking.{known}
use Rattle.message_laws.proofs.Coming.{AllCome, Comes, ComesIfSome, comes, deep, each_clean, each_said, first_inside, optional_clean, optional_said}
use Rattle.message_laws.proofs.FieldBlocks.{AllWritten, AreOf, FieldBlock, Written, block, block_short, has_in, items_in, laid, picked, value_in}
use Rattle.message_laws.proofs.Found.{IsSound, each_back, found_bool, found_number, found_optional, found_text, kept, sound_bool, sound_chunk, sound_each, sound_number, sound_optional, sound_text, text_kept}
use Rattle.message_laws.proofs.MapPassing.{AreDistinct, HasKey, Pair, pass_map}
use Rattle.message_laws.proofs.Passing.{AreBelow, Inner, chosen, pass_bool, pass_each, pass_message, pass_none, pass_number, pass_optional, pass_required, pass_text}

-- a number that a field may have
abbrev pub IsTag : ℕ → Type 0
IsTag n = (0 < n) × (n < 536870912)

-- ---- blocks of one number

of_number : (n x : ℕ) → AreOf n (number_field n x)
of_number n x =
    elim (eqb_tells x 0) [
      | inl w ↦ rw w.0 tt
      | inr w ↦ rw w.0 (record { is = refl }, tt)
    ]

of_chunk : (n : ℕ) (bytes : List ℕ) → AreOf n (chunk n bytes ∷ [])
of_chunk n bytes = (record { is = refl }, tt)

of_bool : (n : ℕ) (b : Bool) → AreOf n (bool_field n b)
of_bool n true = (record { is = refl }, tt)
of_bool n false = tt

of_text : (n : ℕ) (text : List ℕ) → AreOf n (text_field n text)
of_text n [] = tt
of_text n (b ∷ bytes) = (record { is = refl }, tt)

of_texts : (n : ℕ) (texts : List (List ℕ)) → AreOf n (texts_field n texts)
of_texts n [] = tt
of_texts n (text ∷ texts) = (record { is = refl }, of_texts n texts)

of_each : {X : Type 0} (n : ℕ) (f : X → List Rec) (xs : List X) → AreOf n (each_field n f xs)
of_each n f [] = tt
of_each n f (x ∷ xs) = (record { is = refl }, of_each n f xs)

of_optional : {X : Type 0} (n : ℕ) (f : X → List Rec) (o : Option X) → AreOf n (optional_field n f o)
of_optional n f None = tt
of_optional n f (Some x) = (record { is = refl }, tt)

-- ---- strings in a repeated field

sound_texts : (n : ℕ) (texts : List (List ℕ)) → IsTag n → AllByRecursion IsSound (texts_field n texts)
sound_texts n [] tag = tt
sound_texts n (text ∷ texts) tag = (sound_chunk n text tag.0 tag.1, sound_texts n texts tag)

below_texts : (n : ℕ) (texts : List (List ℕ)) → AreBelow (suc n) (texts_field n texts)
below_texts n [] = tt
below_texts n (text ∷ texts) = (record { below = omega arith }, below_texts n texts)

texts_pass : (inner : Inner) (fs : List Field) (seen : List Rec) (n : ℕ) (texts : List (List ℕ)) → field_at n fs ≡ Some (field n Repeated Text) → AllByRecursion IsUtf8 texts → records_fault inner fs seen (texts_field n texts) ≡ None
texts_pass inner fs seen n [] found fine = refl
texts_pass inner fs seen n (text ∷ texts) found fine =
    rw (known inner fs seen (chunk n text) (field n Repeated Text) found, is_utf8-from_IsUtf8 text fine.0) (texts_pass inner fs (seen ++ chunk n text ∷ []) n texts found fine.1)

found_texts : (n : ℕ) (texts : List (List ℕ)) → AllByRecursion IsUtf8 texts → each_in n string_from (texts_field n texts ++ []) ≡ texts
found_texts n [] fine = refl
found_texts n (text ∷ texts) fine = rw (eq-eqb n n refl, text_kept text fine.0, found_texts n texts fine.1) refl

-- ---- what is written in a field

pub none_written : (schema : Schema) (n : ℕ) → Written schema (block n [])
none_written schema n = record { of = tt; sound = tt; passes = λ short d le low from. pass_none (fault_at d) (fields_of schema) low (suc n) }

pub number_written : (schema : Schema) (n most x : ℕ) → IsTag n → field_at n (fields_of schema) ≡ Some (field n Single (Number most)) → x ≤ most → most < 2 ^ 64 → Written schema (block n (number_field n x))
number_written schema n most x tag found le small = record {
  of = of_number n x;
  sound = sound_number n x tag.0 tag.1 (omega arith);
  passes = λ short d within low from. pass_number (fault_at d) (fields_of schema) low n most x found from le;
}

pub flag_written : (schema : Schema) (n : ℕ) (b : Bool) → IsTag n → field_at n (fields_of schema) ≡ Some (field n Single (Number 18446744073709551615)) → Written schema (block n (bool_field n b))
flag_written schema n b tag found = record {
  of = of_bool n b;
  sound = sound_bool n b tag.0 tag.1;
  passes = λ short d within low from. pass_bool (fault_at d) (fields_of schema) low n b found from;
}

pub text_written : (schema : Schema) (n : ℕ) (text : List ℕ) → IsTag n → field_at n (fields_of schema) ≡ Some (field n Single Text) → IsUtf8 text → Written schema (block n (text_field n text))
text_written schema n text tag found is = record {
  of = of_text n text;
  sound = sound_text n text tag.0 tag.1;
  passes = λ short d within low from. pass_text (fault_at d) (fields_of schema) low n text found from is;
}

pub optional_text_written : (schema : Schema) (n : ℕ) (o : Option (List ℕ)) → IsTag n → field_at n (fields_of schema) ≡ Some (field n Single Text) → IsString o → Written schema (block n (optional_text n o))
optional_text_written schema n None tag found is = none_written schema n
optional_text_written schema n (Some text) tag found is = text_written schema n text tag found is

pub optional_port_written : (schema : Schema) (n : ℕ) (o : Option ℕ) → IsTag n → field_at n (fields_of schema) ≡ Some (field n Single (Number 65535)) → IsSomePort o → Written schema (block n (optional_number n o))
optional_port_written schema n None tag found is = none_written schema n
optional_port_written schema n (Some port) tag found is = number_written schema n 65535 port tag found (omega arith) (lit< tt)

pub texts_written : (schema : Schema) (n : ℕ) (texts : List (List ℕ)) → IsTag n → field_at n (fields_of schema) ≡ Some (field n Repeated Text) → AllByRecursion IsUtf8 texts → Written schema (block n (texts_field n texts))
texts_written schema n texts tag found fine = record {
  of = of_texts n texts;
  sound = sound_texts n texts tag;
  passes = λ short d within low from. record { pass = λ seen before. texts_pass (fault_at d) (fields_of schema) seen n texts found fine; under = below_texts n texts };
}

-- a message in a field comes back where it is short enough
abbrev pub ComesIfShort : {X : Type 0} → Schema → (List Rec → X) → List Rec → X → Type 0
ComesIfShort schema said rs x = length (spelling rs) < 2 ^ 64 → Comes schema said rs x

abbrev pub EachComes : {X : Type 0} → ℕ → Schema → (List Rec → X) → (X → List Rec) → List X → Type 0
EachComes n schema said f xs = length (spelling (each_field n f xs)) < 2 ^ 64 → AllCome schema said f xs

abbrev pub OptionalComes : {X : Type 0} → ℕ → Schema → (List Rec → X) → (X → List Rec) → Option X → Type 0
OptionalComes n schema said f o = length (spelling (optional_field n f o)) < 2 ^ 64 → ComesIfSome schema said f o

pub required_written : {X : Type 0} (schema : Schema) (n : ℕ) (one : Schema) (said : List Rec → X) (rs : List Rec) (x : X) → IsTag n → field_at n (fields_of schema) ≡ Some (field n Required (Message one)) → ComesIfShort one said rs x
    → Written schema (block n (chunk n (spelling rs) ∷ []))
required_written schema n one said rs x tag found come =
    let less = first_inside n (spelling rs) [] in
    record {
      of = of_chunk n (spelling rs);
      sound = (sound_chunk n (spelling rs) tag.0 tag.1, tt);
      passes = λ short d within low from. let there = come (omega arith) in pass_required (fault_at d) (fields_of schema) low n one (spelling rs) found from (there.clean d (omega arith));
    }

-- a message that is there, in a field where it need not be
pub present_written : {X : Type 0} (schema : Schema) (n : ℕ) (one : Schema) (said : List Rec → X) (rs : List Rec) (x : X) → IsTag n → field_at n (fields_of schema) ≡ Some (field n Single (Message one)) → ComesIfShort one said rs x
    → Written schema (block n (chunk n (spelling rs) ∷ []))
present_written schema n one said rs x tag found come =
    let less = first_inside n (spelling rs) [] in
    record {
      of = of_chunk n (spelling rs);
      sound = (sound_chunk n (spelling rs) tag.0 tag.1, tt);
      passes = λ short d within low from. let there = come (omega arith) in pass_message (fault_at d) (fields_of schema) low n one (spelling rs) found from (there.clean d (omega arith));
    }

-- the entries of a map, whose keys differ
pub map_written : (schema : Schema) (n : ℕ) (one : Schema) (said : List Rec → Pair) (f : Pair → List Rec) (ps : List Pair) → IsTag n → field_at n (fields_of schema) ≡ Some (field n Map (Message one)) → EachComes n one said f ps
    → (length (spelling (each_field n f ps)) < 2 ^ 64 → AllByRecursion (HasKey f) ps) → AreDistinct ps → Written schema (block n (each_field n f ps))
map_written schema n one said f ps tag found come keys distinct = record {
  of = of_each n f ps;
  sound = sound_each n f ps tag.0 tag.1;
  passes = λ short d within low from. pass_map (fault_at d) (fields_of schema) low n one f ps found from (each_clean n d one said f ps (come short) within) (keys short) distinct;
}

pub each_written : {X : Type 0} (schema : Schema) (n : ℕ) (one : Schema) (said : List Rec → X) (f : X → List Rec) (xs : List X) → IsTag n → field_at n (fields_of schema) ≡ Some (field n Repeated (Message one)) → EachComes n one said f xs
    → Written schema (block n (each_field n f xs))
each_written schema n one said f xs tag found come = record {
  of = of_each n f xs;
  sound = sound_each n f xs tag.0 tag.1;
  passes = λ short d within low from. pass_each (fault_at d) (fields_of schema) low n one f xs found (each_clean n d one said f xs (come short) within);
}

pub optional_written : {X : Type 0} (schema : Schema) (n : ℕ) (one : Schema) (said : List Rec → X) (f : X → List Rec) (o : Option X) → IsTag n → field_at n (fields_of schema) ≡ Some (field n Single (Message one)) → OptionalComes n one said f o
    → Written schema (block n (optional_field n f o))
optional_written schema n one said f o tag found come = record {
  of = of_optional n f o;
  sound = sound_optional n f o tag.0 tag.1;
  passes = λ short d within low from. pass_optional (fault_at d) (fields_of schema) low n one f o found from (optional_clean n d one said f o (come short) within);
}

-- ---- what is read of a message of such blocks

module _ (schema : Schema) (bs : List FieldBlock) (there : AllWritten schema bs) where
  pub number_read : (n x : ℕ) → picked n bs ≡ number_field n x ++ [] → number_from (value_at n (laid bs)) ≡ x
  number_read n x is = ap number_from (value_in schema n bs there ∙ ap (value_at n) is) ∙ found_number n x [] refl

  pub below_read : (limit n x : ℕ) → picked n bs ≡ number_field n x ++ [] → x < limit → number_below limit n (laid bs) ≡ x
  below_read limit n x is lt = ap (below limit) (number_read n x is) ∙ kept limit x lt

  pub flag_read : (n : ℕ) (b : Bool) → picked n bs ≡ bool_field n b ++ [] → flag_in n (laid bs) ≡ b
  flag_read n b is = ap (λ v. not (number_from v == 0)) (value_in schema n bs there ∙ ap (value_at n) is) ∙ found_bool n b [] refl

  pub text_read : (n : ℕ) (text : List ℕ) → picked n bs ≡ text_field n text ++ [] → IsUtf8 text → string_in n (laid bs) ≡ text
  text_read n text is fine = ap (λ v. string_from (chunk_from v)) (value_in schema n bs there ∙ ap (value_at n) is) ∙ ap string_from (found_text n text [] refl) ∙ text_kept text fine

  pub optional_text_read : (n : ℕ) (o : Option (List ℕ)) → picked n bs ≡ optional_text n o ++ [] → IsString o → o ≢ Some [] → some_string (string_in n (laid bs)) ≡ o
  optional_text_read n None is fine some = ap (λ v. some_string (string_from (chunk_from v))) (value_in schema n bs there ∙ ap (value_at n) is) ∙ ap some_string (either (is_utf8 []))
    where
      either : (b : Bool) → (◌≡◌ {A = List ℕ} (if b then [] else []) [])
      either true = refl
      either false = refl
  optional_text_read n (Some []) is fine some = absurd (some refl)
  optional_text_read n (Some (b ∷ bytes)) is fine some = ap some_string (text_read n (b ∷ bytes) is fine)

  pub optional_port_read : (n : ℕ) (o : Option ℕ) → picked n bs ≡ optional_number n o ++ [] → IsSomePort o → o ≢ Some 0 → some_number (number_below 65536 n (laid bs)) ≡ o
  optional_port_read n None is fine some = ap (λ v. some_number (below 65536 (number_from v))) (value_in schema n bs there ∙ ap (value_at n) is)
  optional_port_read n (Some port) is fine some =
      elim (eqb_tells port 0) [
        | inl w ↦ absurd (some (ap Some w.1))
        | inr w ↦ ap some_number (below_read 65536 n port is fine) ∙ (rw w.0 refl)
      ]

  pub texts_read : (n : ℕ) (texts : List (List ℕ)) → picked n bs ≡ texts_field n texts ++ [] → AllByRecursion IsUtf8 texts → texts_in n (laid bs) ≡ texts
  texts_read n texts is fine = items_in schema n string_from bs there ∙ ap (each_in n string_from) is ∙ found_texts n texts fine

  pub has_read : (n : ℕ) (bytes : List ℕ) → picked n bs ≡ chunk n bytes ∷ [] → has n (laid bs) ≡ true
  has_read n bytes is = has_in schema n bs there ∙ ap (has n) is ∙ (rw (eq-eqb n n refl) refl)

  pub chunk_read : (n : ℕ) (bytes : List ℕ) → picked n bs ≡ chunk n bytes ∷ [] → chunk_in n (laid bs) ≡ bytes
  chunk_read n bytes is = ap chunk_from (value_in schema n bs there ∙ ap (value_at n) is) ∙ (rw (eq-eqb n n refl) refl)

  pub inside_read : (n : ℕ) (rs : List Rec) → picked n bs ≡ rs ++ [] → inside n (laid bs) ≡ inside n rs
  inside_read n rs is = ap (λ v. records_in (chunk_from v)) (value_in schema n bs there ∙ ap (value_at n) (is ∙ append-nil rs))

  pub message_read : {X : Type 0} (n : ℕ) (said : List Rec → X) (rs : List Rec) (x : X) → picked n bs ≡ chunk n (spelling rs) ∷ [] → said (records_in (spelling rs)) ≡ x → said (inside n (laid bs)) ≡ x
  message_read n said rs x is back =
      ap (λ v. said (records_in (chunk_from v))) (value_in schema n bs there ∙ ap (value_at n) is) ∙ (rw (eq-eqb n n refl) back)

  pub part_short : (n : ℕ) (rs : List Rec) → picked n bs ≡ rs ++ [] → length (spelling (laid bs)) < 2 ^ 64 → length (spelling rs) < 2 ^ 64
  part_short n rs is short =
      let less = block_short schema n bs there in
      let same = ap (λ all. length (spelling all)) (is ∙ append-nil rs) in
      omega arith

  pub inside_short : (n : ℕ) (rs : List Rec) → picked n bs ≡ chunk n (spelling rs) ∷ [] → length (spelling (laid bs)) < 2 ^ 64 → length (spelling rs) < 2 ^ 64
  inside_short n rs is short =
      let less = block_short schema n bs there in
      let same = ap (λ all. length (spelling all)) is in
      let inner = first_inside n (spelling rs) [] in
      omega arith

  pub each_read : {X : Type 0} (n : ℕ) (one : Schema) (said : List Rec → X) (f : X → List Rec) (xs : List X) → picked n bs ≡ each_field n f xs ++ [] → EachComes n one said f xs → length (spelling (laid bs)) < 2 ^ 64 → each_message n said (laid bs) ≡ xs
  each_read {X} n one said f xs is come short =
      let g : List ℕ → X = λ bytes. said (records_in bytes) in
      items_in schema n g bs there ∙ ap (each_in n g) is ∙ each_back n f g xs [] refl (each_said one said f xs (come (part_short n (each_field n f xs) is short)))

  pub optional_read : {X : Type 0} (n : ℕ) (one : Schema) (said : List Rec → X) (f : X → List Rec) (o : Option X) → picked n bs ≡ optional_field n f o ++ [] → OptionalComes n one said f o → length (spelling (laid bs)) < 2 ^ 64 → optional_in n said (laid bs) ≡ o
  optional_read n one said f o is come short =
      ap (option_map (λ value. said (records_in (chunk_from (Some value))))) (value_in schema n bs there ∙ ap (value_at n) is)
      ∙ found_optional n f said o [] refl (optional_said one said f o (come (part_short n (optional_field n f o) is short)))

-- ---- a choice

-- the message whose one member is this message
pub member_comes : {X : Type 0} (schema : Schema) (said : List Rec → X) (n : ℕ) (member : Schema) (rs : List Rec) (x : X) → IsTag n → field_at n (fields_of schema) ≡ Some (field n Choice (Message member)) → has_choice (fields_of schema) [] ≡ false
    → end_fault schema (fields_of schema) (record { records = chunk n (spelling rs) ∷ []; fault = None }) ≡ None → ((d : ℕ) → length (spelling rs) < d → fault_at d member (spelling rs) ≡ None) → said (chunk n (spelling rs) ∷ []) ≡ x
    → length (spelling (chunk n (spelling rs) ∷ [])) < 2 ^ 64 → Comes schema said (chunk n (spelling rs) ∷ []) x
member_comes schema said n member rs x tag found none ends clean is short =
    let less = first_inside n (spelling rs) [] in
    comes schema said (chunk n (spelling rs) ∷ []) x (sound_chunk n (spelling rs) tag.0 tag.1, tt) short (λ d le. chosen (fault_at d) (fields_of schema) n member (spelling rs) found none (clean d (omega arith))) ends is

pub empty_clean : (d : ℕ) → 0 < d → fault_at d schemas.Empty [] ≡ None
empty_clean d lt = deep schemas.Empty [] tt (lit< tt) (λ e le. refl) refl d lt
