-- A message is checked record by record.
use Rattle.std.proofs.Common.{◌≡◌, ◌≢◌, ℕ, zero, suc, ◌-◌, ◌<◌, ◌≤◌, ◌==◌, ◌&&◌, ◌||◌, Bool, true, false, List, [], ◌∷◌, ◌++◌, length, get_or, take, drop, map, Option, Some, None, Result, Ok, Err, OnOk, not, nat_lt, if◌then◌else◌, refl, sym, subst, ap, ◌∙◌, arith, inl, inr}
use Rattle.std.proofs.Math.Seq.{drop-cons}
use Rattle.std.proofs.lemmas.Bool.Decides.{eqb_tells}
use Rattle.std.proofs.lemmas.List.{drop_all}
use Rattle.std.specs.Str.{bytes_eq, is_utf8}
use Rattle.proto_wire.specs.declared.record.Rec.{Rec}
use Rattle.proto_wire.specs.declared.record.WireValue.{WireValue}
use Rattle.proto_wire.specs.declared.record.WireValue.TheVariants as wire
use Rattle.proto_wire.specs.declared.scan.RecRef.{RecRef}
use Rattle.proto_wire.specs.Given.{view_record}
use Rattle.proto_wire.specs.Wire.{Scan, scan_of}
use Rattle.proxy_proto.specs.declared.fault.ProtoFault.{ProtoFault}
use Rattle.proxy_proto.specs.declared.fault.ProtoFault.TheVariants as faults
use Rattle.proxy_proto.specs.declared.table.Field.{Field}
use Rattle.proxy_proto.specs.declared.table.FieldKind.{FieldKind}
use Rattle.proxy_proto.specs.declared.table.FieldKind.TheVariants as kinds
use Rattle.proxy_proto.specs.declared.table.Label.{Label}
use Rattle.proxy_proto.specs.declared.table.Label.TheVariants.{Single, Map}
use Rattle.proxy_proto.specs.declared.table.Schema.{Schema}
use Rattle.proxy_proto.specs.Faults.{or_fault, fault_if, field_at, key_of, has_key, is_repeated, is_repeated_key, value_fault, field_fault, record_fault, records_fault, end_fault, message_fault, fault_at}
use Rattle.proxy_proto.specs.Given.{Checks, Finds}
use Rattle.proxy_proto.specs.MetKeys.{Keys, is_met, is_map, is_map_field, AreMet}
use Rattle.proxy_proto.specs.NestedFaults.{Look, nested_in}
use Rattle.proxy_proto.specs.Tables.{label_of, kind_of, fields_of}

abbrev Inner : Type 0
Inner = Schema → List ℕ → Option ProtoFault

finds_first : (e : ProtoFault) (a b : Option ProtoFault) → Finds e a → Finds e (or_fault a b)
finds_first faults.Memory a b h = tt
finds_first _ a b h = rw h refl

finds_same : (e : ProtoFault) (a b : Option ProtoFault) → Finds e a → a ≡ b → Finds e b
finds_same e a b h is = subst (Finds e) is h

-- ---- a message

pub opened : (depth : ℕ) (schema : Schema) (bytes : List ℕ) (fs : List Field) (found : Scan) → depth ≢ 0 → fs ≡ fields_of schema → found ≡ scan_of bytes → fault_at depth schema bytes ≡ message_fault (fault_at (depth - 1)) schema fs found
unfolding fault_at
opened zero schema bytes fs found some same read = absurd (some refl)
opened (suc depth) schema bytes fs found some same read =
    let k : suc depth - 1 ≡ depth = omega arith in
    rw (k, same, read) refl

pub ended : {X : Type 0} (r : Result X ProtoFault) (inner : Inner) (schema : Schema) (fs : List Field) (found : Scan) → records_fault inner fs [] found.records ≡ None → Checks r (end_fault schema fs found) → Checks r (message_fault inner schema fs found)
ended {X} r inner schema fs found none h = let P : Option ProtoFault → Type 0 = λ f. Checks r (or_fault f (end_fault schema fs found)) in subst P (sym none) h

-- the records so far, and those to come
abbrev pub so_far : Inner → List Field → List RecRef → ℕ → Option ProtoFault
so_far inner fs rs i = records_fault inner fs (map view_record (take i rs)) (map view_record (drop i rs))

pub all_done : (inner : Inner) (fs : List Field) (rs : List RecRef) (i : ℕ) → length rs ≤ i → so_far inner fs rs i ≡ None
all_done inner fs rs i le = rw (drop_all i rs le) refl

pub stopped : (e : ProtoFault) (inner : Inner) (schema : Schema) (fs : List Field) (rs : List RecRef) (i : ℕ) (r : RecRef) (found : Scan) → i < length rs → r ≡ get_or rs i r
    → Finds e (record_fault inner fs (map view_record (take i rs)) (view_record r)) → so_far inner fs rs i ≡ records_fault inner fs [] found.records
    → Finds e (message_fault inner schema fs found)
stopped e inner schema fs rs i r found lt here h so =
    let split : drop i rs ≡ r ∷ drop (suc i) rs = rw (drop-cons rs i r lt, ← here) refl in
    let now : Finds e (so_far inner fs rs i) = rw split (finds_first e (record_fault inner fs (map view_record (take i rs)) (view_record r)) _ h) in
    finds_first e (records_fault inner fs [] found.records) (end_fault schema fs found) (finds_same e (so_far inner fs rs i) (records_fault inner fs [] found.records) now so)

-- ---- a record

pub unknown : (inner : Inner) (fs : List Field) (seen : List Rec) (r : Rec) → field_at r.number fs ≡ None → record_fault inner fs seen r ≡ None
unfolding record_fault
unknown inner fs seen r none = rw none refl

pub known : (inner : Inner) (fs : List Field) (seen : List Rec) (r : Rec) (f : Field) → field_at r.number fs ≡ Some f → record_fault inner fs seen r ≡ field_fault inner fs seen r (Some f)
unfolding record_fault
known inner fs seen r f found = rw found refl

pub one_more : (inner : Inner) (fs : List Field) (seen : List Rec) (r : Rec) (f : Field) → field_at r.number fs ≡ Some f → is_repeated fs seen r.number (label_of f) ≡ true → record_fault inner fs seen r ≡ Some (faults.Repeated r.number)
one_more inner fs seen r f found more = rw (known inner fs seen r f found, more) refl

pub ill : (e : ProtoFault) (inner : Inner) (fs : List Field) (seen : List Rec) (r : Rec) (f : Field) → field_at r.number fs ≡ Some f → is_repeated fs seen r.number (label_of f) ≡ false → Finds e (value_fault inner r.number (kind_of f) r.value) → Finds e (record_fault inner fs seen r)
ill e inner fs seen r f found once h = rw (known inner fs seen r f found, once) (finds_first e (value_fault inner r.number (kind_of f) r.value) _ h)

pub passed : {X : Type 0} (result : Result X ProtoFault) (inner : Inner) (fs : List Field) (seen : List Rec) (r : Rec) (f : Field) (b : Bool) → field_at r.number fs ≡ Some f → is_repeated fs seen r.number (label_of f) ≡ false
    → value_fault inner r.number (kind_of f) r.value ≡ None → is_repeated_key seen r (label_of f) ≡ b → Checks result (fault_if b (faults.Repeated r.number)) → Checks result (record_fault inner fs seen r)
passed result inner fs seen r f b found once fine same h = rw (known inner fs seen r f found, once, fine, same) h

-- ---- keys

with_label : (l : Label) (keys : Keys) (seen : List Rec) (r : Rec) → (is_map l ≡ true → is_met keys r.number (key_of r.value) ≡ has_key r.number (key_of r.value) seen) → is_repeated_key seen r l ≡ (is_map l && is_met keys r.number (key_of r.value))
with_label Map keys seen r same = sym (same refl)
with_label _ keys seen r same = refl

pub met_same : (fs : List Field) (keys : Keys) (seen : List Rec) (r : Rec) (f : Field) → field_at r.number fs ≡ Some f → AreMet fs keys seen → is_repeated_key seen r (label_of f) ≡ (is_map (label_of f) && is_met keys r.number (key_of r.value))
met_same fs keys seen r f found are = with_label (label_of f) keys seen r (λ mapped. are r.number (key_of r.value) (ap is_map_field found ∙ mapped))

or_turned : (a b c : Bool) → (a || (b || c)) ≡ (b || (a || c))
or_turned true true c = refl
or_turned true false c = refl
or_turned false b c = refl

has_key-push : (n : ℕ) (key : List ℕ) (seen : List Rec) (r : Rec) → has_key n key (seen ++ r ∷ []) ≡ ((r.number == n && bytes_eq (key_of r.value) key) || has_key n key seen)
has_key-push n key [] r = refl
has_key-push n key (s ∷ seen) r = rw (has_key-push n key seen r) (or_turned (s.number == n && bytes_eq (key_of s.value) key) (r.number == n && bytes_eq (key_of r.value) key) (has_key n key seen))

-- the key of an entry counts where its field is a map
counts : (a e b k : Bool) → (e ≡ true → a ≡ true) → ((a && (e && b)) || k) ≡ ((e && b) || k)
counts true e b k h = refl
counts false true b k h = let wrong = h refl in cc
counts false false b k h = refl

is_same : (n m : ℕ) → (n == m) ≡ true → n ≡ m
is_same n m h = elim (eqb_tells n m) [ inl w ↦ w.1 | inr w ↦ absurd (let e : false ≡ true = sym w.0 ∙ h in cc) ]

pub met_after : (fs : List Field) (keys new : Keys) (seen : List Rec) (r : Rec) (l : Label) → is_map_field (field_at r.number fs) ≡ is_map l → AreMet fs keys seen
    → ((n : ℕ) (other : List ℕ) → is_met new n other ≡ ((is_map l && (r.number == n && bytes_eq (key_of r.value) other)) || is_met keys n other)) → AreMet fs new (seen ++ r ∷ [])
met_after fs keys new seen r l label are more n key mapped =
    let same : r.number == n ≡ true → is_map l ≡ true = λ h. sym label ∙ ap (λ m. is_map_field (field_at m fs)) (is_same r.number n h) ∙ mapped in
    more n key ∙ rw (are n key mapped, has_key-push n key seen r) (counts (is_map l) (r.number == n) (bytes_eq (key_of r.value) key) (has_key n key seen) same)

pub met_unknown : (fs : List Field) (keys : Keys) (seen : List Rec) (r : Rec) → field_at r.number fs ≡ None → AreMet fs keys seen → AreMet fs keys (seen ++ r ∷ [])
met_unknown fs keys seen r none are = met_after fs keys keys seen r Single (ap is_map_field none) are (λ n other. refl)

pub on_ok : {X E : Type 0} (r : Result X E) (P Q : Type 0) → (P → Q) → OnOk r P → OnOk r Q
on_ok (Ok x) P Q f h = f h
on_ok (Err e) P Q f h = tt

-- ---- a message in a value

not_both : {X : Type 0} (b : Bool) (e : ProtoFault) (x : X) (P : Type 0) → (if b then Err e else Ok None) ≡ Ok (Some x) → P
not_both true e x P h = cc
not_both false e x P h = cc

abbrev found_in : Schema × List ℕ → Look → Schema × List ℕ
found_in other (Ok (Some p)) = p
found_in other _ = other

pub nested_is : (inner : Inner) (n : ℕ) (kind : FieldKind) (value : WireValue) (schema : Schema) (bytes : List ℕ) → Ok (Some (schema, bytes)) ≡ nested_in n kind value → value_fault inner n kind value ≡ inner schema bytes
nested_is inner n (kinds.Number most) (wire.Varint x) schema bytes h = not_both (nat_lt most x) (faults.Range n) (schema, bytes) _ (sym h)
nested_is inner n (kinds.Number most) (wire.Fixed64 x) schema bytes h = cc
nested_is inner n (kinds.Number most) (wire.Fixed32 x) schema bytes h = cc
nested_is inner n (kinds.Number most) (wire.Chunk text) schema bytes h = cc
nested_is inner n kinds.Fixed32 (wire.Varint x) schema bytes h = cc
nested_is inner n kinds.Fixed32 (wire.Fixed64 x) schema bytes h = cc
nested_is inner n kinds.Fixed32 (wire.Fixed32 x) schema bytes h = cc
nested_is inner n kinds.Fixed32 (wire.Chunk text) schema bytes h = cc
nested_is inner n kinds.Fixed64 (wire.Varint x) schema bytes h = cc
nested_is inner n kinds.Fixed64 (wire.Fixed64 x) schema bytes h = cc
nested_is inner n kinds.Fixed64 (wire.Fixed32 x) schema bytes h = cc
nested_is inner n kinds.Fixed64 (wire.Chunk text) schema bytes h = cc
nested_is inner n kinds.Text (wire.Varint x) schema bytes h = cc
nested_is inner n kinds.Text (wire.Fixed64 x) schema bytes h = cc
nested_is inner n kinds.Text (wire.Fixed32 x) schema bytes h = cc
nested_is inner n kinds.Text (wire.Chunk text) schema bytes h = not_both (not (is_utf8 text)) (faults.NotUtf8 n) (schema, bytes) _ (sym h)
nested_is inner n (kinds.Message s) (wire.Varint x) schema bytes h = cc
nested_is inner n (kinds.Message s) (wire.Fixed64 x) schema bytes h = cc
nested_is inner n (kinds.Message s) (wire.Fixed32 x) schema bytes h = cc
nested_is inner n (kinds.Message s) (wire.Chunk text) schema bytes h = sym (ap (λ look. let p = found_in (schema, bytes) look in inner p.0 p.1) h)
