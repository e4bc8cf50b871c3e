-- A message as the blocks of records that its fields are written as, in the order of their numbers. What is looked up
-- in a field is looked up in its block, and records that pass the check in their blocks pass it together.
use Rattle.std.proofs.Common.{◌≡◌, ◌≢◌, ℕ, suc, ◌^◌, ◌<◌, ◌≤◌, ◌&&◌, Bool, true, false, not, nat_lt, ◌==◌, if◌then◌else◌, List, [], ◌∷◌, ◌++◌, length, Some, None, refl, sym, ap, ◌∙◌, append-nil, arith, inl, inr}
use Rattle.std.proofs.lemmas.Bool.{cases_lt, lt-ltb}
use Rattle.std.proofs.lemmas.Bool.Decides.{eqb_tells}
use Rattle.std.proofs.lemmas.List.{length-append}
use Rattle.std.specs.List.{AllByRecursion}
use Rattle.proto_wire.specs.declared.record.Rec.{Rec}
use Rattle.proto_wire.specs.Wire.{spelled, spelling}
use Rattle.proxy_proto.specs.declared.table.Schema.{Schema}
use Rattle.proxy_proto.specs.Faults.{end_fault, fault_at, records_fault}
use Rattle.proxy_proto.specs.LookUps.{chunk_from, each_in, has, value_at}
use Rattle.proxy_proto.specs.Tables.{fields_of}
use Rattle.message_laws.proofs.Coming.{Comes, comes, joined}
use Rattle.message_laws.proofs.Found.{IsSound, sound_append}
use Rattle.message_laws.proofs.Passing.{AreBelow, Passes, behind, below_append, below_more}

pub record FieldBlock : Type 0 where
  pub number : ℕ
  pub records : List Rec

abbrev pub block : ℕ → List Rec → FieldBlock
block n rs = record { number = n; records = rs }

-- the records of all blocks
unfoldable pub laid : List FieldBlock → List Rec
laid [] = []
laid (b ∷ []) = b.records
laid (b ∷ c ∷ bs) = b.records ++ laid (c ∷ bs)

-- the blocks of this number
abbrev pub picked : ℕ → List FieldBlock → List Rec
picked n [] = []
picked n (b ∷ bs) = if b.number == n then b.records ++ picked n bs else picked n bs

-- numbers ascend from here
abbrev pub ascends : ℕ → List FieldBlock → Bool
ascends low [] = true
ascends low (b ∷ bs) = not (nat_lt b.number low) && ascends (suc b.number) bs

pub record IsOf (n : ℕ) (r : Rec) : Type 0 where
  pub is : r.number ≡ n

abbrev pub AreOf : ℕ → List Rec → Type 0
AreOf n rs = AllByRecursion (IsOf n) rs

-- The block of a field of this message is sound, and passes the check.
pub record Written (schema : Schema) (b : FieldBlock) : Type 0 where
  pub of : AreOf b.number b.records
  pub sound : AllByRecursion IsSound b.records
  pub passes : length (spelling b.records) < 2 ^ 64 → (d : ℕ) → length (spelling b.records) ≤ d → (low : ℕ) → low ≤ b.number → Passes (fault_at d) (fields_of schema) low (suc b.number) b.records

abbrev pub AllWritten : Schema → List FieldBlock → Type 0
AllWritten schema bs = AllByRecursion (Written schema) bs

-- ---- the records of a number

abbrev only : ℕ → List Rec → List Rec
only n [] = []
only n (r ∷ rs) = if r.number == n then r ∷ only n rs else only n rs

only_append : (n : ℕ) (xs ys : List Rec) → only n (xs ++ ys) ≡ only n xs ++ only n ys
only_append n [] ys = refl
only_append n (x ∷ xs) ys =
    elim (eqb_tells x.number n) [
      | inl w ↦ rw w.0 (ap (λ (rs : List Rec). x ∷ rs) (only_append n xs ys))
      | inr w ↦ rw w.0 (only_append n xs ys)
    ]

only_value : (n : ℕ) (rs : List Rec) → value_at n rs ≡ value_at n (only n rs)
only_value n [] = refl
only_value n (r ∷ rs) =
    elim (eqb_tells r.number n) [
      | inl w ↦ rw (w.0, w.0) refl
      | inr w ↦ rw w.0 (only_value n rs)
    ]

only_has : (n : ℕ) (rs : List Rec) → has n rs ≡ has n (only n rs)
only_has n [] = refl
only_has n (r ∷ rs) =
    elim (eqb_tells r.number n) [
      | inl w ↦ rw (w.0, w.0) refl
      | inr w ↦ rw w.0 (only_has n rs)
    ]

only_each : {X : Type 0} (n : ℕ) (said : List ℕ → X) (rs : List Rec) → each_in n said rs ≡ each_in n said (only n rs)
only_each n said [] = refl
only_each n said (r ∷ rs) =
    elim (eqb_tells r.number n) [
      | inl w ↦ rw (w.0, w.0) (ap (λ xs. said (chunk_from (Some r.value)) ∷ xs) (only_each n said rs))
      | inr w ↦ rw w.0 (only_each n said rs)
    ]

only_length : (n : ℕ) (rs : List Rec) → length (spelling (only n rs)) ≤ length (spelling rs)
only_length n [] = omega arith
only_length n (r ∷ rs) =
    let rest = only_length n rs in
    let whole = length-append (spelled r) (spelling rs) in
    let part = length-append (spelled r) (spelling (only n rs)) in
    elim (eqb_tells r.number n) [
      | inl w ↦ rw w.0 (omega arith)
      | inr w ↦ rw w.0 (omega arith)
    ]

only_same : (n : ℕ) (rs : List Rec) → AreOf n rs → only n rs ≡ rs
only_same n [] of = refl
only_same n (r ∷ rs) of =
    elim (eqb_tells r.number n) [
      | inl w ↦ rw w.0 (ap (λ (all : List Rec). r ∷ all) (only_same n rs of.1))
      | inr w ↦ absurd (w.1 of.0.is)
    ]

only_other : (n m : ℕ) (rs : List Rec) → m ≢ n → AreOf m rs → only n rs ≡ []
only_other n m [] apart of = refl
only_other n m (r ∷ rs) apart of =
    elim (eqb_tells r.number n) [
      | inl w ↦ absurd (apart (sym of.0.is ∙ w.1))
      | inr w ↦ rw w.0 (only_other n m rs apart of.1)
    ]

-- ---- blocks

laid_more : (b : FieldBlock) (bs : List FieldBlock) → laid (b ∷ bs) ≡ b.records ++ laid bs
unfolding laid
laid_more b [] = sym (append-nil b.records)
laid_more b (c ∷ bs) = refl

laid_none : laid [] ≡ []
unfolding laid
laid_none = refl

only_laid : (schema : Schema) (n : ℕ) (bs : List FieldBlock) → AllWritten schema bs → only n (laid bs) ≡ picked n bs
only_laid schema n [] there = ap (only n) laid_none
only_laid schema n (b ∷ bs) there =
    let parts = ap (only n) (laid_more b bs) ∙ only_append n b.records (laid bs) in
    elim (eqb_tells b.number n) [
      | inl w ↦ rw w.0 (parts ∙ ap (λ xs. xs ++ only n (laid bs)) (only_mine n b w.1 there.0.of) ∙ ap (λ ys. b.records ++ ys) (only_laid schema n bs there.1))
      | inr w ↦ rw w.0 (parts ∙ ap (λ xs. xs ++ only n (laid bs)) (only_other n b.number b.records w.1 there.0.of) ∙ only_laid schema n bs there.1)
    ]
  where
    only_mine : (n : ℕ) (b : FieldBlock) → b.number ≡ n → AreOf b.number b.records → only n b.records ≡ b.records
    only_mine n b is of = ap (λ m. only m b.records) (sym is) ∙ only_same b.number b.records of

pub value_in : (schema : Schema) (n : ℕ) (bs : List FieldBlock) → AllWritten schema bs → value_at n (laid bs) ≡ value_at n (picked n bs)
value_in schema n bs there = only_value n (laid bs) ∙ ap (value_at n) (only_laid schema n bs there)

pub has_in : (schema : Schema) (n : ℕ) (bs : List FieldBlock) → AllWritten schema bs → has n (laid bs) ≡ has n (picked n bs)
has_in schema n bs there = only_has n (laid bs) ∙ ap (has n) (only_laid schema n bs there)

pub items_in : {X : Type 0} (schema : Schema) (n : ℕ) (said : List ℕ → X) (bs : List FieldBlock) → AllWritten schema bs → each_in n said (laid bs) ≡ each_in n said (picked n bs)
items_in schema n said bs there = only_each n said (laid bs) ∙ ap (each_in n said) (only_laid schema n bs there)

-- a block is at most as long as all are
pub block_short : (schema : Schema) (n : ℕ) (bs : List FieldBlock) → AllWritten schema bs → length (spelling (picked n bs)) ≤ length (spelling (laid bs))
block_short schema n bs there =
    let less = only_length n (laid bs) in
    let same = ap (λ rs. length (spelling rs)) (only_laid schema n bs there) in
    omega arith

sound_laid : (schema : Schema) (bs : List FieldBlock) → AllWritten schema bs → AllByRecursion IsSound (laid bs)
sound_laid schema [] there = rw laid_none tt
sound_laid schema (b ∷ bs) there = rw (laid_more b bs) (sound_append b.records (laid bs) there.0.sound (sound_laid schema bs there.1))

both_first : (a b : Bool) → (a && b) ≡ true → a ≡ true
both_first true b h = refl
both_first false b h = h

both_second : (a b : Bool) → (a && b) ≡ true → b ≡ true
both_second true b h = h
both_second false b h = absurd cc

not_below : (n low : ℕ) → not (nat_lt n low) ≡ true → low ≤ n
not_below n low h =
    elim (cases_lt n low) [
      | inl lt ↦ absurd (let e : false ≡ true = rw (lt-ltb n low lt) at h in cc)
      | inr le ↦ le
    ]

laid_passes : (schema : Schema) (d low : ℕ) (bs : List FieldBlock) → AllWritten schema bs → ascends low bs ≡ true → length (spelling (laid bs)) < 2 ^ 64 → length (spelling (laid bs)) ≤ d → (seen : List Rec) → AreBelow low seen
    → records_fault (fault_at d) (fields_of schema) seen (laid bs) ≡ None
laid_passes schema d low [] there up short le seen below = rw laid_none refl
laid_passes schema d low (b ∷ bs) there up short le seen below =
    let all = ap (λ rs. length (spelling rs)) (laid_more b bs) in
    let parts = joined b.records (laid bs) in
    let from = not_below b.number low (both_first (not (nat_lt b.number low)) (ascends (suc b.number) bs) up) in
    let rest = both_second (not (nat_lt b.number low)) (ascends (suc b.number) bs) up in
    let here = there.0.passes (omega arith) d (omega arith) low from in
    let before = below_append (suc b.number) seen b.records (below_more low (suc b.number) seen (omega arith) below) here.under in
    rw (laid_more b bs) (behind (fault_at d) (fields_of schema) seen b.records (laid bs) (here.pass seen below) (laid_passes schema d (suc b.number) bs there.1 rest (omega arith) (omega arith) (seen ++ b.records) before))

-- a message of these blocks
pub laid_comes : {X : Type 0} (schema : Schema) (said : List Rec → X) (bs : List FieldBlock) (x : X) → AllWritten schema bs → ascends 0 bs ≡ true → end_fault schema (fields_of schema) (record { records = laid bs; fault = None }) ≡ None
    → said (laid bs) ≡ x → length (spelling (laid bs)) < 2 ^ 64 → Comes schema said (laid bs) x
laid_comes schema said bs x there up ends is short =
    comes schema said (laid bs) x (sound_laid schema bs there) short (λ d le. laid_passes schema d 0 bs there up short le [] tt) ends is
