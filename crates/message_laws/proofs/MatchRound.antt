-- What is written of a match, of a request or of a response, is read back.
use Rattle.std.proofs.Common.{◌≡◌, ℕ, zero, suc, ◌&&◌, ◌^◌, ◌<◌, ◌≤◌, Bool, true, false, List, [], ◌∷◌, map, length, Some, None, refl, sym, ap, subst, ◌∙◌, arith}
use Rattle.std.specs.List.{AllByRecursion, list_all}
use Rattle.proto_wire.specs.declared.record.Rec.{Rec}
use Rattle.proto_wire.specs.Wire.{spelling}
use Rattle.proxy_proto.specs.declared.table.FieldKind.TheVariants.{Message}
use Rattle.proxy_proto.specs.declared.table.Label.TheVariants.{Choice, Repeated}
use Rattle.proxy_proto.specs.declared.table.Schema.{Schema}
use Rattle.proxy_proto.specs.FieldRecords.{chunk, each_field}
use Rattle.proxy_proto.specs.Faults.{end_fault, fault_at, field_at, has_choice}
use Rattle.proxy_proto.specs.LookUps.{each_in, records_in}
use Rattle.proxy_proto.specs.Profiles.{seq_records}
use Rattle.proxy_proto.specs.Tables.{field, fields_of}
use Rattle.message_laws.proofs.Coming.{all_within, deep, each_alone, first_inside, set_clean}
use Rattle.message_laws.proofs.Found.{IsSound, recorded, sound_chunk}
use Rattle.message_laws.proofs.Passing.{chosen}

-- each item of the list is true
pub each_true : {X : Type 0} (f : X → Bool) (xs : List X) → list_all (λ b. b) (map f xs) ≡ true → AllByRecursion (λ x. f x ≡ true) xs
each_true f [] h = tt
each_true f (x ∷ xs) h = (first (f x) _ h, each_true f xs (second (f x) _ h))
  where
    first : (a b : Bool) → (a && b) ≡ true → a ≡ true
    first true b h = refl
    first false b h = h

    second : (a b : Bool) → (a && b) ≡ true → b ≡ true
    second true b h = h
    second false b h = absurd cc

pub seq_is : {X : Type 0} (f : X → List Rec) (xs : List X) → seq_records (map f xs) ≡ each_field 1 f xs
seq_is f [] = refl
seq_is f (x ∷ xs) = ap (λ (rs : List Rec). chunk 1 (spelling (f x)) ∷ rs) (seq_is f xs)

-- these records of a match pass the check, and give the match, at each depth that is enough
pub record MatchComes {M : Type 0} (schema : Schema) (match_in : ℕ → List ℕ → M) (rs : List Rec) (m : M) : Type 0 where
  pub clean : (depth : ℕ) → length (spelling rs) < depth → fault_at depth schema (spelling rs) ≡ None
  pub back : (depth : ℕ) → length (spelling rs) < depth → match_in depth (spelling rs) ≡ m

module _ {M : Type 0} (schema : Schema) (match_in : ℕ → List ℕ → M) (from : (List ℕ → M) → List Rec → M) (opens : (d : ℕ) (bytes : List ℕ) → match_in (suc d) bytes ≡ from (match_in d) (records_in bytes)) where
  back_at : (rs : List Rec) (m : M) → AllByRecursion IsSound rs → length (spelling rs) < 2 ^ 64 → ((d : ℕ) → length (spelling rs) ≤ d → from (match_in d) rs ≡ m) → (depth : ℕ) → length (spelling rs) < depth → match_in depth (spelling rs) ≡ m
  back_at rs m sound short is zero lt = absurd (omega arith)
  back_at rs m sound short is (suc d) lt = opens d (spelling rs) ∙ ap (from (match_in d)) (recorded rs sound short) ∙ is d (omega arith)

  -- the match whose one member is this message
  pub by_member : (m : M) (n : ℕ) (inner : List ℕ) (member : Schema) → 0 < n → n < 536870912 → length (spelling (chunk n inner ∷ [])) < 2 ^ 64 → field_at n (fields_of schema) ≡ Some (field n Choice (Message member)) → has_choice (fields_of schema) [] ≡ false
      → end_fault schema (fields_of schema) (record { records = chunk n inner ∷ []; fault = None }) ≡ None → ((d : ℕ) → length inner < d → fault_at d member inner ≡ None) → ((d : ℕ) → length inner < d → from (match_in d) (chunk n inner ∷ []) ≡ m)
      → MatchComes schema match_in (chunk n inner ∷ []) m
  by_member m n inner member some lt short found none ends fine is =
      let less = first_inside n inner [] in
      record {
        clean = deep schema (chunk n inner ∷ []) (sound_chunk n inner some lt, tt) short (λ d le. chosen (fault_at d) (fields_of schema) n member inner found none (fine d (omega arith))) ends;
        back = back_at (chunk n inner ∷ []) m (sound_chunk n inner some lt, tt) short (λ d le. is d (omega arith));
      }

  abbrev AllMatchCome : (M → List Rec) → List M → Type 0
  AllMatchCome f ms = AllByRecursion (λ m. MatchComes schema match_in (f m) m) ms

  -- ---- matches in a list

  pub seq_come : (P : M → Type 0) (f : M → List Rec) (ms : List M) → ((m : M) → P m → length (spelling (f m)) < 2 ^ 64 → MatchComes schema match_in (f m) m) → AllByRecursion P ms → length (spelling (seq_records (map f ms))) < 2 ^ 64 → AllMatchCome f ms
  seq_come P f ms go h short =
      let same : length (spelling (seq_records (map f ms))) ≡ length (spelling (each_field 1 f ms)) = ap (λ (rs : List Rec). length (spelling rs)) (seq_is f ms) in
      all_within 1 f P (λ m. MatchComes schema match_in (f m) m) (2 ^ 64) ms go h (omega arith)

  pub seq_clean : (seq : Schema) (f : M → List Rec) (ms : List M) → fields_of seq ≡ field 1 Repeated (Message schema) ∷ [] → end_fault seq (fields_of seq) (record { records = each_field 1 f ms; fault = None }) ≡ None → AllMatchCome f ms
      → length (spelling (seq_records (map f ms))) < 2 ^ 64 → (d : ℕ) → length (spelling (seq_records (map f ms))) < d → fault_at d seq (spelling (seq_records (map f ms))) ≡ None
  seq_clean seq f ms table ends there short d lt =
      let P : List Rec → Type 0 = λ rs. length (spelling rs) < 2 ^ 64 → length (spelling rs) < d → fault_at d seq (spelling rs) ≡ None in
      subst P (sym (seq_is f ms)) (λ low deep_enough. set_clean seq schema f ms table ends (λ e le. all_within 1 f (λ m. MatchComes schema match_in (f m) m) (λ m. fault_at e schema (spelling (f m)) ≡ None) e ms (λ m h l. h.clean e l) there le) low d deep_enough) short lt

  pub seq_back : (f : M → List Rec) (ms : List M) → AllMatchCome f ms → length (spelling (seq_records (map f ms))) < 2 ^ 64 → (d : ℕ) → length (spelling (seq_records (map f ms))) < d → each_in 1 (match_in d) (records_in (spelling (seq_records (map f ms)))) ≡ ms
  seq_back f ms there short d lt =
      let P : List Rec → Type 0 = λ rs. length (spelling rs) < 2 ^ 64 → length (spelling rs) < d → each_in 1 (match_in d) (records_in (spelling rs)) ≡ ms in
      subst P (sym (seq_is f ms)) (λ low deep_enough. each_alone f (match_in d) ms (all_within 1 f (λ m. MatchComes schema match_in (f m) m) (λ m. match_in d (spelling (f m)) ≡ m) d ms (λ m h l. h.back d l) there (omega arith)) low) short lt

-- ---- matches that may be sent

-- a member of the choice that a match is
pub record IsMember (schema : Schema) (n : ℕ) (member : Schema) : Type 0 where
  pub some : 0 < n
  pub small : n < 536870912
  pub found : field_at n (fields_of schema) ≡ Some (field n Choice (Message member))
  pub none : has_choice (fields_of schema) [] ≡ false
  pub ends : (inner : List ℕ) → end_fault schema (fields_of schema) (record { records = chunk n inner ∷ []; fault = None }) ≡ None

-- `written` gives a match's records, and `fits` says that it may be sent
module _ {M : Type 0} (schema : Schema) (match_in : ℕ → List ℕ → M) (from : (List ℕ → M) → List Rec → M) (opens : (d : ℕ) (bytes : List ℕ) → match_in (suc d) bytes ≡ from (match_in d) (records_in bytes)) (written : M → List Rec) (fits : M → Bool) where
  abbrev pub ComesIfFit : M → Type 0
  ComesIfFit m = fits m ≡ true → length (spelling (written m)) < 2 ^ 64 → MatchComes schema match_in (written m) m

  pub member_is : (n : ℕ) (member : Schema) (inner : List ℕ) (m : M) → IsMember schema n member → written m ≡ chunk n inner ∷ [] → (fits m ≡ true → length inner < 2 ^ 64 → (d : ℕ) → length inner < d → fault_at d member inner ≡ None)
      → (fits m ≡ true → length inner < 2 ^ 64 → (d : ℕ) → length inner < d → from (match_in d) (chunk n inner ∷ []) ≡ m) → ComesIfFit m
  member_is n member inner m is same clean back ok short =
      let P : List Rec → Type 0 = λ rs. length (spelling rs) < 2 ^ 64 → MatchComes schema match_in rs m in
      let less = first_inside n inner [] in
      subst P (sym same) (λ low. let below : length inner < 2 ^ 64 = omega arith in by_member schema match_in from opens m n inner member is.some is.small low is.found is.none (is.ends inner) (clean ok below) (back ok below)) short

  -- a match of another
  pub one_is : (n : ℕ) (of : M → M) (part : M) → IsMember schema n schema → written (of part) ≡ chunk n (spelling (written part)) ∷ [] → fits (of part) ≡ fits part
      → ((d : ℕ) (inner : List ℕ) → from (match_in d) (chunk n inner ∷ []) ≡ of (match_in d inner)) → ComesIfFit part → ComesIfFit (of part)
  one_is n of part is same fit made there =
      member_is n schema (spelling (written part)) (of part) is same (λ ok low. (there (sym fit ∙ ok) low).clean) (λ ok low d lt. made d (spelling (written part)) ∙ ap of ((there (sym fit ∙ ok) low).back d lt))

  abbrev IsPart : M → Type 0
  IsPart m = (fits m ≡ true) × ComesIfFit m

  are_parts : (ms : List M) → AllByRecursion (λ m. fits m ≡ true) ms → AllByRecursion ComesIfFit ms → AllByRecursion IsPart ms
  are_parts [] fit there = tt
  are_parts (m ∷ ms) fit there = ((fit.0, there.0), are_parts ms fit.1 there.1)

  parts_come : (parts : List M) → list_all (λ b. b) (map fits parts) ≡ true → AllByRecursion ComesIfFit parts → length (spelling (seq_records (map written parts))) < 2 ^ 64 → AllByRecursion (λ m. MatchComes schema match_in (written m) m) parts
  parts_come parts fit there = seq_come schema match_in from opens IsPart written parts (λ m part short. part.1 part.0 short) (are_parts parts (each_true fits parts fit) there)

  -- a match of a list
  pub list_is : (n : ℕ) (seq : Schema) (of : List M → M) (parts : List M) → IsMember schema n seq → fields_of seq ≡ field 1 Repeated (Message schema) ∷ [] → end_fault seq (fields_of seq) (record { records = each_field 1 written parts; fault = None }) ≡ None
      → written (of parts) ≡ chunk n (spelling (seq_records (map written parts))) ∷ [] → fits (of parts) ≡ list_all (λ b. b) (map fits parts)
      → ((d : ℕ) (inner : List ℕ) → from (match_in d) (chunk n inner ∷ []) ≡ of (each_in 1 (match_in d) (records_in inner))) → AllByRecursion ComesIfFit parts → ComesIfFit (of parts)
  list_is n seq of parts is table ends same fit made there =
      let inner = spelling (seq_records (map written parts)) in
      member_is n seq inner (of parts) is same (λ ok low. seq_clean schema match_in from opens seq written parts table ends (parts_come parts (sym fit ∙ ok) there low) low)
      (λ ok low d lt. made d inner ∙ ap of (seq_back schema match_in from opens written parts (parts_come parts (sym fit ∙ ok) there low) low d lt))
