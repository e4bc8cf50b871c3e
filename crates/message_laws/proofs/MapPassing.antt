-- The entries of a map that is written pass the check: their keys rise, so no key comes twice.
use Rattle.std.proofs.Common.{◌≡◌, ℕ, suc, ◌≤◌, Bool, true, false, eqb, ◌&&◌, ◌||◌, List, [], ◌∷◌, ◌++◌, Some, None, refl, sym, ◌∙◌, arith, inl, inr}
use lib.Dec.{T}
use Rattle.std.proofs.lemmas.Bool.Decides.{eqb_tells}
use Rattle.std.proofs.lemmas.Map.Text.{is_eq-slice_cmp}
use Rattle.std.specs.Cmp.Lexicographic.{slice_cmp}
use Rattle.std.specs.FinMap.{FinMap, entries, entries_sorted, is_sorted}
use Rattle.std.specs.FinMap.Entries.{below_all}
use Rattle.std.specs.List.{AllByRecursion}
use Rattle.std.specs.Ordering.{is_eq, is_lt, nat_cmp}
use Rattle.std.specs.Str.{bytes_eq}
use Rattle.std.specs.declared.cmp.Ordering.{Ordering}
use Rattle.std.specs.declared.cmp.Ordering.TheVariants.{Less, Equal, Greater}
use Rattle.proto_wire.specs.declared.record.Rec.{Rec}
use Rattle.proto_wire.specs.declared.record.WireValue.TheVariants.{Chunk}
use Rattle.proto_wire.specs.Wire.{spelling}
use Rattle.proxy_proto.specs.declared.table.Field.{Field}
use Rattle.proxy_proto.specs.declared.table.FieldKind.TheVariants.{Message}
use Rattle.proxy_proto.specs.declared.table.Label.TheVariants.{Map}
use Rattle.proxy_proto.specs.declared.table.Schema.{Schema}
use Rattle.proxy_proto.specs.FieldRecords.{chunk, each_field}
use Rattle.proxy_proto.specs.Faults.{field_at, key_of, has_key, records_fault}
use Rattle.proxy_proto.specs.Tables.{field}
use Rattle.message_laws.proofs.Passing.{Inner, AreBelow, Passes, below_more, each_below, pass_entry}

abbrev pub Pair : Type 0
Pair = List ℕ × List ℕ

-- ---- distinct keys

abbrev is_labelled : List ℕ → List Pair → Bool
is_labelled key [] = false
is_labelled key (p ∷ ps) = bytes_eq key p.0 || is_labelled key ps

-- each key comes once
abbrev pub AreDistinct : List Pair → Type 0
AreDistinct [] = Unit {0}
AreDistinct (p ∷ ps) = (is_labelled p.0 ps ≡ false) × AreDistinct ps

and_first : (a b : Bool) → T (a && b) → T a
and_first true b h = tt
and_first false b h = h

and_second : (a b : Bool) → T (a && b) → T b
and_second true b h = h
and_second false b h = absurd h

less_apart : (o : Ordering) → T (is_lt o) → is_eq o ≡ false
less_apart Less h = refl
less_apart Equal h = absurd h
less_apart Greater h = refl

keys_apart : (key : List ℕ) (ps : List Pair) → T (below_all (slice_cmp nat_cmp) key ps) → is_labelled key ps ≡ false
keys_apart key [] h = refl
keys_apart key (p ∷ ps) h =
    let here : bytes_eq key p.0 ≡ false = sym (is_eq-slice_cmp key p.0) ∙ less_apart (slice_cmp nat_cmp key p.0) (and_first (is_lt (slice_cmp nat_cmp key p.0)) (below_all (slice_cmp nat_cmp) key ps) h) in
    rw (here, keys_apart key ps (and_second (is_lt (slice_cmp nat_cmp key p.0)) (below_all (slice_cmp nat_cmp) key ps) h)) refl

sorted_apart : (ps : List Pair) → T (is_sorted (slice_cmp nat_cmp) ps) → AreDistinct ps
sorted_apart [] h = tt
sorted_apart (p ∷ ps) h =
    (keys_apart p.0 ps (and_first (below_all (slice_cmp nat_cmp) p.0 ps) (is_sorted (slice_cmp nat_cmp) ps) h), sorted_apart ps (and_second (below_all (slice_cmp nat_cmp) p.0 ps) (is_sorted (slice_cmp nat_cmp) ps) h))

pub entries_apart : (m : FinMap (slice_cmp nat_cmp) (List ℕ)) → AreDistinct (entries m)
entries_apart m = sorted_apart (entries m) (entries_sorted m)

-- ---- new keys

or_first : (a b : Bool) → (a || b) ≡ false → a ≡ false
or_first true b h = absurd cc
or_first false b h = refl

or_second : (a b : Bool) → (a || b) ≡ false → b ≡ false
or_second true b h = absurd cc
or_second false b h = h

and_false : (b : Bool) → (b && false) ≡ false
and_false true = refl
and_false false = refl

pub record IsNewKey (n : ℕ) (seen : List Rec) (p : Pair) : Type 0 where
  pub new : has_key n p.0 seen ≡ false

below_key : (n : ℕ) (key : List ℕ) (seen : List Rec) → AreBelow n seen → has_key n key seen ≡ false
below_key n key [] h = refl
below_key n key (r ∷ rs) h =
    let lt = h.0.below in
    let other : eqb r.number n ≡ false = elim (eqb_tells r.number n) [ inl w ↦ absurd (omega (arith, w.1)) | inr w ↦ w.0 ] in
    rw (other, below_key n key rs h.1) refl

has_key-push : (n : ℕ) (key : List ℕ) (seen : List Rec) (r : Rec) → has_key n key seen ≡ false → bytes_eq (key_of r.value) key ≡ false → has_key n key (seen ++ r ∷ []) ≡ false
has_key-push n key [] r h e = rw (e, and_false (eqb r.number n)) refl
has_key-push n key (s ∷ seen) r h e =
    rw (or_first (eqb s.number n && bytes_eq (key_of s.value) key) (has_key n key seen) h, has_key-push n key seen r (or_second (eqb s.number n && bytes_eq (key_of s.value) key) (has_key n key seen) h) e) refl

new_keys : (n : ℕ) (seen : List Rec) (r : Rec) (ps : List Pair) → is_labelled (key_of r.value) ps ≡ false → AllByRecursion (IsNewKey n seen) ps → AllByRecursion (IsNewKey n (seen ++ r ∷ [])) ps
new_keys n seen r [] h all = tt
new_keys n seen r (p ∷ ps) h all = (
  record { new = has_key-push n p.0 seen r all.0.new (or_first (bytes_eq (key_of r.value) p.0) (is_labelled (key_of r.value) ps) h) },
  new_keys n seen r ps (or_second (bytes_eq (key_of r.value) p.0) (is_labelled (key_of r.value) ps) h) all.1,
)

all_new : (n : ℕ) (seen : List Rec) (ps : List Pair) → AreBelow n seen → AllByRecursion (IsNewKey n seen) ps
all_new n seen [] h = tt
all_new n seen (p ∷ ps) h = (record { new = below_key n p.0 seen h }, all_new n seen ps h)

-- ---- the entries

-- an entry's key is that of its pair
abbrev pub HasKey : (Pair → List Rec) → Pair → Type 0
HasKey f p = key_of (Chunk (spelling (f p))) ≡ p.0

entries_pass : (inner : Inner) (fs : List Field) (n : ℕ) (s : Schema) (f : Pair → List Rec) (ps : List Pair) (seen : List Rec) → field_at n fs ≡ Some (field n Map (Message s))
    → AllByRecursion (λ p. inner s (spelling (f p)) ≡ None) ps → AllByRecursion (HasKey f) ps → AreDistinct ps → AllByRecursion (IsNewKey n seen) ps
    → records_fault inner fs seen (each_field n f ps) ≡ None
entries_pass inner fs n s f [] seen found fine keys distinct new = refl
entries_pass inner fs n s f (p ∷ ps) seen found fine keys distinct new =
    let e = chunk n (spelling (f p)) in
    let once : has_key n (key_of e.value) seen ≡ false = rw keys.0 new.0.new in
    let apart : is_labelled (key_of e.value) ps ≡ false = rw keys.0 distinct.0 in
    rw (pass_entry inner fs seen n Map s (spelling (f p)) found refl once fine.0) (entries_pass inner fs n s f ps (seen ++ e ∷ []) found fine.1 keys.1 distinct.1 (new_keys n seen e ps apart new.1))

pub pass_map : (inner : Inner) (fs : List Field) (low n : ℕ) (s : Schema) (f : Pair → List Rec) (ps : List Pair) → field_at n fs ≡ Some (field n Map (Message s)) → low ≤ n
    → AllByRecursion (λ p. inner s (spelling (f p)) ≡ None) ps → AllByRecursion (HasKey f) ps → AreDistinct ps → Passes inner fs low (suc n) (each_field n f ps)
pass_map inner fs low n s f ps found le fine keys distinct = record {
  pass = λ seen h. entries_pass inner fs n s f ps seen found fine keys distinct (all_new n seen ps (below_more low n seen le h));
  under = each_below n f ps;
}
