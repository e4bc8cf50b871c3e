-- The records of a message that is written pass the check, field by field.
use Rattle.std.proofs.Common.{◌≡◌, ◌≢◌, ℕ, suc, ◌<◌, ◌≤◌, Bool, true, false, eqb, List, [], ◌∷◌, ◌++◌, Option, Some, None, refl, ap, ◌∙◌, append_assoc, append-nil, arith, inl, inr}
use Rattle.std.proofs.lemmas.Bool.{le-ltb}
use Rattle.std.proofs.lemmas.Bool.Decides.{eqb_tells}
use Rattle.std.specs.List.{AllByRecursion}
use Rattle.std.specs.Str.{IsUtf8}
use Rattle.std.proofs.lemmas.Str.{is_utf8-from_IsUtf8}
use Rattle.proto_wire.specs.declared.record.Rec.{Rec}
use Rattle.proto_wire.specs.declared.record.WireValue.{WireValue}
use Rattle.proto_wire.specs.declared.record.WireValue.TheVariants as wire
use Rattle.proto_wire.specs.Wire.{scan_of, spelling}
use Rattle.proxy_proto.specs.declared.fault.ProtoFault.{ProtoFault}
use Rattle.proxy_proto.specs.declared.table.Field.{Field}
use Rattle.proxy_proto.specs.declared.table.FieldKind.{FieldKind}
use Rattle.proxy_proto.specs.declared.table.FieldKind.TheVariants.{Number, Fixed64, Text, Message}
use Rattle.proxy_proto.specs.declared.table.Label.{Label}
use Rattle.proxy_proto.specs.declared.table.Label.TheVariants.{Single, Required, Choice, Repeated}
use Rattle.proxy_proto.specs.declared.table.Schema.{Schema}
use Rattle.proxy_proto.specs.FieldRecords.{chunk, number_field, fixed64_field, bool_field, text_field, optional_field, each_field}
use Rattle.proxy_proto.specs.Faults.{or_fault, field_at, has_choice, is_repeated, is_repeated_key, value_fault, record_fault, records_fault, end_fault, fault_at}
use Rattle.proxy_proto.specs.LookUps.{has}
use Rattle.proxy_proto.specs.Tables.{field, fields_of}
use Rattle.proxy_proto.proofs.Checking.{known}
use Rattle.message_laws.proofs.Found.{match_or}

abbrev pub Inner : Type 0
Inner = Schema → List ℕ → Option ProtoFault

-- ---- records below a number

pub record IsBelow (n : ℕ) (r : Rec) : Type 0 where
  pub below : r.number < n

abbrev pub AreBelow : ℕ → List Rec → Type 0
AreBelow n rs = AllByRecursion (IsBelow n) rs

ne : (a b : ℕ) → a ≢ b → eqb a b ≡ false
ne a b h = elim (eqb_tells a b) [ inl w ↦ absurd (h w.1) | inr w ↦ w.0 ]

below_has : (n : ℕ) (seen : List Rec) → AreBelow n seen → has n seen ≡ false
below_has n [] h = refl
below_has n (r ∷ rs) h =
    let lt = h.0.below in
    rw (ne r.number n (λ e. absurd (omega (arith, e))), below_has n rs h.1) refl

pub below_more : (low n : ℕ) (seen : List Rec) → low ≤ n → AreBelow low seen → AreBelow n seen
below_more low n [] le h = tt
below_more low n (r ∷ rs) le h = let lt = h.0.below in (record { below = omega arith }, below_more low n rs le h.1)

pub below_append : (n : ℕ) (xs ys : List Rec) → AreBelow n xs → AreBelow n ys → AreBelow n (xs ++ ys)
below_append n [] ys h k = k
below_append n (x ∷ xs) ys h k = (h.0, below_append n xs ys h.1 k)

-- ---- records that pass behind any below `low`, and stay below `high`

pub record Passes (inner : Inner) (fs : List Field) (low high : ℕ) (rs : List Rec) : Type 0 where
  pub pass : (seen : List Rec) → AreBelow low seen → records_fault inner fs seen rs ≡ None
  pub under : AreBelow high rs

first_none : (a b : Option ProtoFault) → or_fault a b ≡ None → a ≡ None
first_none None b h = refl
first_none (Some fault) b h = h

second_none : (a b : Option ProtoFault) → or_fault a b ≡ None → b ≡ None
second_none None b h = h
second_none (Some fault) b h = absurd (let e : Some fault ≡ None = h in cc)

pub behind : (inner : Inner) (fs : List Field) (seen xs ys : List Rec) → records_fault inner fs seen xs ≡ None → records_fault inner fs (seen ++ xs) ys ≡ None → records_fault inner fs seen (xs ++ ys) ≡ None
behind inner fs seen [] ys h k = rw (append-nil seen) at k
behind inner fs seen (x ∷ xs) ys h k =
    let here = first_none (record_fault inner fs seen x) _ h in
    let later = second_none (record_fault inner fs seen x) _ h in
    rw here (behind inner fs (seen ++ x ∷ []) xs ys later (ap (λ s. records_fault inner fs s ys) (append_assoc seen (x ∷ []) xs) ∙ k))

pub pass_none : (inner : Inner) (fs : List Field) (low high : ℕ) → Passes inner fs low high []
pass_none inner fs low high = record { pass = λ seen h. refl; under = tt }

pub pass_then : (inner : Inner) (fs : List Field) (low mid high : ℕ) (xs ys : List Rec) → low ≤ mid → mid ≤ high → Passes inner fs low mid xs → Passes inner fs mid high ys → Passes inner fs low high (xs ++ ys)
pass_then inner fs low mid high xs ys le most p q = record {
  pass = λ seen h. behind inner fs seen xs ys (p.pass seen h) (q.pass (seen ++ xs) (below_append mid seen xs (below_more low mid seen le h) p.under));
  under = below_append high xs ys (below_more mid high xs most p.under) q.under;
}

-- a field that comes once
pub pass_single : (inner : Inner) (fs : List Field) (low n : ℕ) (l : Label) (kind : FieldKind) (value : WireValue) → field_at n fs ≡ Some (field n l kind)
    → ((seen : List Rec) → is_repeated fs seen n l ≡ has n seen) → ((seen : List Rec) (r : Rec) → is_repeated_key seen r l ≡ false) → low ≤ n → value_fault inner n kind value ≡ None
    → Passes inner fs low (suc n) (record { number = n; value = value } ∷ [])
pass_single inner fs low n l kind value found once key le fine = record {
  pass = λ seen h. let r : Rec = record { number = n; value = value } in
      rw (known inner fs seen r (field n l kind) found, once seen, below_has n seen (below_more low n seen le h), fine, key seen r) refl;
  under = (record { below = omega arith }, tt);
}

pub pass_number : (inner : Inner) (fs : List Field) (low n most x : ℕ) → field_at n fs ≡ Some (field n Single (Number most)) → low ≤ n → x ≤ most → Passes inner fs low (suc n) (number_field n x)
pass_number inner fs low n most x found le small =
    elim (eqb_tells x 0) [
      | inl w ↦ rw w.0 (pass_none inner fs low (suc n))
      | inr w ↦ rw w.0 (pass_single inner fs low n Single (Number most) (wire.Varint x) found (λ seen. refl) (λ seen r. refl) le (rw (le-ltb most x small) refl))
    ]

pub pass_bool : (inner : Inner) (fs : List Field) (low n : ℕ) (b : Bool) → field_at n fs ≡ Some (field n Single (Number 18446744073709551615)) → low ≤ n → Passes inner fs low (suc n) (bool_field n b)
pass_bool inner fs low n false found le = pass_none inner fs low (suc n)
pass_bool inner fs low n true found le = pass_single inner fs low n Single (Number 18446744073709551615) (wire.Varint 1) found (λ seen. refl) (λ seen r. refl) le refl

pub pass_fixed64 : (inner : Inner) (fs : List Field) (low n x : ℕ) → field_at n fs ≡ Some (field n Single Fixed64) → low ≤ n → Passes inner fs low (suc n) (fixed64_field n x)
pass_fixed64 inner fs low n x found le =
    elim (eqb_tells x 0) [
      | inl w ↦ rw w.0 (pass_none inner fs low (suc n))
      | inr w ↦ rw w.0 (pass_single inner fs low n Single Fixed64 (wire.Fixed64 x) found (λ seen. refl) (λ seen r. refl) le refl)
    ]

pub pass_string : (inner : Inner) (fs : List Field) (low n : ℕ) (bytes : List ℕ) → field_at n fs ≡ Some (field n Single Text) → low ≤ n → IsUtf8 bytes → Passes inner fs low (suc n) (chunk n bytes ∷ [])
pass_string inner fs low n bytes found le text = pass_single inner fs low n Single Text (wire.Chunk bytes) found (λ seen. refl) (λ seen r. refl) le (rw (is_utf8-from_IsUtf8 bytes text) refl)

pub pass_text : (inner : Inner) (fs : List Field) (low n : ℕ) (bytes : List ℕ) → field_at n fs ≡ Some (field n Single Text) → low ≤ n → IsUtf8 bytes → Passes inner fs low (suc n) (text_field n bytes)
pass_text inner fs low n [] found le text = pass_none inner fs low (suc n)
pass_text inner fs low n (b ∷ bytes) found le text = pass_string inner fs low n (b ∷ bytes) found le text

pub pass_required : (inner : Inner) (fs : List Field) (low n : ℕ) (s : Schema) (bytes : List ℕ) → field_at n fs ≡ Some (field n Required (Message s)) → low ≤ n → inner s bytes ≡ None → Passes inner fs low (suc n) (chunk n bytes ∷ [])
pass_required inner fs low n s bytes found le fine = pass_single inner fs low n Required (Message s) (wire.Chunk bytes) found (λ seen. refl) (λ seen r. refl) le fine

pub pass_message : (inner : Inner) (fs : List Field) (low n : ℕ) (s : Schema) (bytes : List ℕ) → field_at n fs ≡ Some (field n Single (Message s)) → low ≤ n → inner s bytes ≡ None → Passes inner fs low (suc n) (chunk n bytes ∷ [])
pass_message inner fs low n s bytes found le fine = pass_single inner fs low n Single (Message s) (wire.Chunk bytes) found (λ seen. refl) (λ seen r. refl) le fine

pub pass_optional : {X : Type 0} (inner : Inner) (fs : List Field) (low n : ℕ) (s : Schema) (f : X → List Rec) (o : Option X) → field_at n fs ≡ Some (field n Single (Message s)) → low ≤ n → match_or o (λ x. inner s (spelling (f x)) ≡ None)
    → Passes inner fs low (suc n) (optional_field n f o)
pass_optional inner fs low n s f None found le fine = pass_none inner fs low (suc n)
pass_optional inner fs low n s f (Some x) found le fine = pass_message inner fs low n s (spelling (f x)) found le fine

-- ---- repeated fields

pub pass_entry : (inner : Inner) (fs : List Field) (seen : List Rec) (n : ℕ) (l : Label) (s : Schema) (bytes : List ℕ) → field_at n fs ≡ Some (field n l (Message s)) → is_repeated fs seen n l ≡ false
    → is_repeated_key seen (chunk n bytes) l ≡ false → inner s bytes ≡ None → record_fault inner fs seen (chunk n bytes) ≡ None
pass_entry inner fs seen n l s bytes found once key fine = rw (known inner fs seen (chunk n bytes) (field n l (Message s)) found, once, fine, key) refl

pub each_below : {X : Type 0} (n : ℕ) (f : X → List Rec) (xs : List X) → AreBelow (suc n) (each_field n f xs)
each_below n f [] = tt
each_below n f (x ∷ xs) = (record { below = omega arith }, each_below n f xs)

each_passes : {X : Type 0} (inner : Inner) (fs : List Field) (seen : List Rec) (n : ℕ) (s : Schema) (f : X → List Rec) (xs : List X) → field_at n fs ≡ Some (field n Repeated (Message s)) → AllByRecursion (λ x. inner s (spelling (f x)) ≡ None) xs
    → records_fault inner fs seen (each_field n f xs) ≡ None
each_passes inner fs seen n s f [] found fine = refl
each_passes inner fs seen n s f (x ∷ xs) found fine =
    rw (pass_entry inner fs seen n Repeated s (spelling (f x)) found refl refl fine.0) (each_passes inner fs (seen ++ chunk n (spelling (f x)) ∷ []) n s f xs found fine.1)

pub pass_each : {X : Type 0} (inner : Inner) (fs : List Field) (low n : ℕ) (s : Schema) (f : X → List Rec) (xs : List X) → field_at n fs ≡ Some (field n Repeated (Message s)) → AllByRecursion (λ x. inner s (spelling (f x)) ≡ None) xs
    → Passes inner fs low (suc n) (each_field n f xs)
pass_each inner fs low n s f xs found fine = record { pass = λ seen h. each_passes inner fs seen n s f xs found fine; under = each_below n f xs }

-- ---- the member of a choice

pub chosen : (inner : Inner) (fs : List Field) (n : ℕ) (s : Schema) (bytes : List ℕ) → field_at n fs ≡ Some (field n Choice (Message s)) → has_choice fs [] ≡ false → inner s bytes ≡ None → records_fault inner fs [] (chunk n bytes ∷ []) ≡ None
chosen inner fs n s bytes found none fine = rw (known inner fs [] (chunk n bytes) (field n Choice (Message s)) found, none, fine) refl

-- ---- a message

-- it is read without a fault
pub clean : (depth : ℕ) (s : Schema) (rs : List Rec) → scan_of (spelling rs) ≡ record { records = rs; fault = None } → records_fault (fault_at depth) (fields_of s) [] rs ≡ None
    → end_fault s (fields_of s) (record { records = rs; fault = None }) ≡ None → fault_at (suc depth) s (spelling rs) ≡ None
unfolding fault_at
clean depth s rs read passes ends = rw (read, passes) ends
