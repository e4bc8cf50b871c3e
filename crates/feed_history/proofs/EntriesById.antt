-- An entry of a list is found by its id. If an entry gives way to another with its id, or to none,
-- the entries with other ids are found as before.
--
-- For subscriptions, and for a command that keeps entries of another type in a list, as streams that
-- it carries or clients that it serves.
use Rattle.std.proofs.Common.{◌≡◌, ◌≢◌, ℕ, ◌<◌, Bool, true, false, cond, eqb, List, [], ◌∷◌, ◌++◌, Option, Some, None, refl, sym, ap, ◌∙◌, subst, arith, inl, inr}
use Rattle.std.specs.Prelude.{option_and_then}
use Rattle.std.specs.List.{AllByRecursion}
use Rattle.std.proofs.lemmas.Bool.Decides.{eqb_tells}
use Rattle.feed_history.specs.Drains.{unless_too_long}
use Rattle.feed_history.specs.Ids.{AscendBy, at_id, ended, in_place}
use Rattle.feed_history.proofs.Lists.{all_weaker}

-- ---- ids

pub same_id : (a b : ℕ) → a ≡ b → eqb a b ≡ true
same_id a b is = elim (eqb_tells a b) [ inl same ↦ same.0 | inr apart ↦ absurd (apart.1 is) ]

pub other_id : (a b : ℕ) → a ≢ b → eqb a b ≡ false
other_id a b differ = elim (eqb_tells a b) [ inl same ↦ absurd (differ same.1) | inr apart ↦ apart.0 ]

-- ---- what an entry gives way to

abbrev pub first_of : {S : Type 0} → List S → Option S
first_of [] = None
first_of (one ∷ more) = Some one

-- what is found under an id once the entry that was found there has given way
abbrev pub then_at : {S : Type 0} → (S → List S) → Option S → Option S
then_at f found = option_and_then (λ sub. first_of (f sub)) found

-- nothing is left of an entry that ended
pub gone : {S : Type 0} (found : Option S) (left : S) → then_at ended found ≡ Some left → ⊥
gone None left is = cc is
gone (Some sub) left is = cc is

-- an entry after a drain, or none if a message is too long
abbrev pub drained_by : {S : Type 0} → (S → Option ℕ) → (S → S) → S → List S
drained_by too_long becomes sub = unless_too_long (too_long sub) (becomes sub)

-- A drain found an entry whose messages are not too long, and left it as it becomes.
pub record WasDrained {S : Type 0} (too_long : S → Option ℕ) (becomes : S → S) (found : Option S) (left : S) : Type 0 where
  pub sub : S
  pub there : found ≡ Some sub
  pub short : too_long sub ≡ None
  pub left_is : left ≡ becomes sub

pub was_drained : {S : Type 0} (too_long : S → Option ℕ) (becomes : S → S) (found : Option S) (left : S) → then_at (drained_by too_long becomes) found ≡ Some left → WasDrained too_long becomes found left
was_drained too_long becomes None left is = absurd (cc is)
was_drained {S} too_long becomes (Some sub) left is = by_length (too_long sub) refl is
  where
    by_length : (bytes : Option ℕ) → too_long sub ≡ bytes → first_of (unless_too_long bytes (becomes sub)) ≡ Some left → WasDrained too_long becomes (Some sub) left
    by_length None short is = record { sub = sub; there = refl; short = short; left_is = sym (cc is) }
    by_length (Some n) short is = absurd (cc is)

module _ {S : Type 0} (id_of : S → ℕ) where
  -- none of the entries has the id
  abbrev pub AreOthers : ℕ → List S → Type 0
  AreOthers id subs = AllByRecursion (λ (sub : S). eqb (id_of sub) id ≡ false) subs

  pub others_below : (id : ℕ) (subs : List S) → AllByRecursion (λ (sub : S). id_of sub < id) subs → AreOthers id subs
  others_below id subs below = all_weaker (λ (sub : S). id_of sub < id) (λ (sub : S). eqb (id_of sub) id ≡ false) (λ sub lt. other_id (id_of sub) id (λ is. omega (arith, lt, is))) subs below

  pub others_above : (id : ℕ) (subs : List S) → AllByRecursion (λ (sub : S). id < id_of sub) subs → AreOthers id subs
  others_above id subs above = all_weaker (λ (sub : S). id < id_of sub) (λ (sub : S). eqb (id_of sub) id ≡ false) (λ sub lt. other_id (id_of sub) id (λ is. omega (arith, lt, is))) subs above

  -- ---- what is found

  found_if : (id : ℕ) (sub : S) (subs : List S) (b : Bool) → eqb (id_of sub) id ≡ b → at_id id_of id (sub ∷ subs) ≡ cond b (Some sub) (at_id id_of id subs)
  found_if id sub subs b is = ap (λ (b : Bool). cond b (Some sub) (at_id id_of id subs)) is

  -- a first entry with another id changes nothing
  found_behind : (id : ℕ) (sub : S) (one other : List S) → at_id id_of id one ≡ at_id id_of id other → at_id id_of id (sub ∷ one) ≡ at_id id_of id (sub ∷ other)
  found_behind id sub one other same = ap (λ (found : Option S). cond (eqb (id_of sub) id) (Some sub) found) same

  pub none_found : (id : ℕ) (subs : List S) → AreOthers id subs → at_id id_of id subs ≡ None
  none_found id [] others = refl
  none_found id (sub ∷ subs) others = found_if id sub subs false others.0 ∙ none_found id subs others.1

  -- a new entry is found by its id, if no other has it
  new_found : (id : ℕ) (subs : List S) (new : S) → id_of new ≡ id → AreOthers id subs → at_id id_of id (subs ++ new ∷ []) ≡ Some new
  new_found id [] new is others = found_if id new [] true (same_id (id_of new) id is)
  new_found id (sub ∷ subs) new is others = found_if id sub (subs ++ new ∷ []) false others.0 ∙ new_found id subs new is others.1

  old_found : (id : ℕ) (subs : List S) (new : S) → eqb (id_of new) id ≡ false → at_id id_of id (subs ++ new ∷ []) ≡ at_id id_of id subs
  old_found id [] new apart = found_if id new [] false apart
  old_found id (sub ∷ subs) new apart = found_behind id sub (subs ++ new ∷ []) subs (old_found id subs new apart)

  -- what is found once an entry with an id above all others was added
  pub found_with : (id : ℕ) (subs : List S) (new : S) → AllByRecursion (λ (earlier : S). id_of earlier < id_of new) subs
      → at_id id_of id (subs ++ new ∷ []) ≡ cond (eqb (id_of new) id) (Some new) (at_id id_of id subs)
  found_with id subs new lower = elim (eqb_tells (id_of new) id) [
    | inl same ↦ rw same.0 (new_found id subs new same.1 (subst (λ (n : ℕ). AreOthers n subs) same.1 (others_below (id_of new) subs lower)))
    | inr apart ↦ rw apart.0 (old_found id subs new apart.0)
  ]

  -- ---- what gives way

  -- at most one entry, with the same id
  abbrev StandsFor : S → List S → Type 0
  StandsFor sub [] = Unit {0}
  StandsFor sub (one ∷ more) = (id_of one ≡ id_of sub) × (more ≡ [])

  abbrev pub KeepsIds : (S → List S) → Type 0
  KeepsIds f = (sub : S) → StandsFor sub (f sub)

  pub ended_keeps : KeepsIds ended
  ended_keeps sub = tt

  pub drained_keeps : (too_long : S → Option ℕ) (becomes : S → S) → ((sub : S) → id_of (becomes sub) ≡ id_of sub) → KeepsIds (drained_by too_long becomes)
  drained_keeps too_long becomes same sub = by_length (too_long sub)
    where
      by_length : (bytes : Option ℕ) → StandsFor sub (unless_too_long bytes (becomes sub))
      by_length None = (same sub, refl)
      by_length (Some n) = tt

  module _ (id : ℕ) (f : S → List S) (keeps : KeepsIds f) where
    placed_if : (sub : S) (subs : List S) (b : Bool) → eqb (id_of sub) id ≡ b → in_place id_of id f (sub ∷ subs) ≡ cond b (f sub ++ subs) (sub ∷ in_place id_of id f subs)
    placed_if sub subs b is = ap (λ (b : Bool). cond b (f sub ++ subs) (sub ∷ in_place id_of id f subs)) is

    -- what holds of all ids stays
    module _ (P : ℕ → Type 0) where
      abbrev HoldsOfAll : List S → Type 0
      HoldsOfAll subs = AllByRecursion (λ (sub : S). P (id_of sub)) subs

      all_before : (sub : S) (ones subs : List S) → StandsFor sub ones → P (id_of sub) → HoldsOfAll subs → HoldsOfAll (ones ++ subs)
      all_before sub [] subs stands here all = all
      all_before sub (one ∷ more) subs stands here all = (subst P (sym stands.0) here, subst (λ (rest : List S). HoldsOfAll (rest ++ subs)) (sym stands.1) all)

      pub all_in_place : (subs : List S) → HoldsOfAll subs → HoldsOfAll (in_place id_of id f subs)
      all_in_place [] all = tt
      all_in_place (sub ∷ subs) all = elim (eqb (id_of sub) id) as (λ b. HoldsOfAll (cond b (f sub ++ subs) (sub ∷ in_place id_of id f subs))) [
        | true ↦ all_before sub (f sub) subs (keeps sub) all.0 all.1
        | false ↦ (all.0, all_in_place subs all.1)
      ]

    ascend_before : (sub : S) (ones subs : List S) → StandsFor sub ones → AllByRecursion (λ (later : S). id_of sub < id_of later) subs → AscendBy id_of subs → AscendBy id_of (ones ++ subs)
    ascend_before sub [] subs stands lower ascend = ascend
    ascend_before sub (one ∷ more) subs stands lower ascend =
        subst (λ (rest : List S). AscendBy id_of (one ∷ (rest ++ subs))) (sym stands.1) (subst (λ (n : ℕ). AllByRecursion (λ (later : S). n < id_of later) subs) (sym stands.0) lower, ascend)

    pub ascend_in_place : (subs : List S) → AscendBy id_of subs → AscendBy id_of (in_place id_of id f subs)
    ascend_in_place [] ascend = tt
    ascend_in_place (sub ∷ subs) ascend = elim (eqb (id_of sub) id) as (λ b. AscendBy id_of (cond b (f sub ++ subs) (sub ∷ in_place id_of id f subs))) [
      | true ↦ ascend_before sub (f sub) subs (keeps sub) ascend.0 ascend.1
      | false ↦ (all_in_place (λ n. id_of sub < n) subs ascend.0, ascend_in_place subs ascend.1)
    ]

    found_before : (sub : S) (ones subs : List S) → StandsFor sub ones → id_of sub ≡ id → AreOthers id subs → at_id id_of id (ones ++ subs) ≡ first_of ones
    found_before sub [] subs stands is others = none_found id subs others
    found_before sub (one ∷ more) subs stands is others = found_if id one (more ++ subs) true (same_id (id_of one) id (stands.0 ∙ is))

    found_same : (subs : List S) → AscendBy id_of subs → at_id id_of id (in_place id_of id f subs) ≡ then_at f (at_id id_of id subs)
    found_same [] ascend = refl
    found_same (sub ∷ subs) ascend = elim (eqb_tells (id_of sub) id) [
      | inl same ↦
          ap (at_id id_of id) (placed_if sub subs true same.0)
          ∙ found_before sub (f sub) subs (keeps sub) same.1 (subst (λ (n : ℕ). AreOthers n subs) same.1 (others_above (id_of sub) subs ascend.0))
          ∙ ap (then_at f) (sym (found_if id sub subs true same.0))
      | inr apart ↦
          ap (at_id id_of id) (placed_if sub subs false apart.0)
          ∙ found_if id sub (in_place id_of id f subs) false apart.0
          ∙ found_same subs ascend.1
          ∙ ap (then_at f) (sym (found_if id sub subs false apart.0))
    ]

    module _ (other : ℕ) (differ : eqb id other ≡ false) where
      found_past : (sub : S) (ones subs : List S) → StandsFor sub ones → eqb (id_of sub) other ≡ false → at_id id_of other (ones ++ subs) ≡ at_id id_of other subs
      found_past sub [] subs stands apart = refl
      found_past sub (one ∷ more) subs stands apart =
          found_if other one (more ++ subs) false (subst (λ (n : ℕ). eqb n other ≡ false) (sym stands.0) apart)
          ∙ ap (λ (rest : List S). at_id id_of other (rest ++ subs)) stands.1

      found_other : (subs : List S) → at_id id_of other (in_place id_of id f subs) ≡ at_id id_of other subs
      found_other [] = refl
      found_other (sub ∷ subs) = elim (eqb_tells (id_of sub) id) [
        | inl same ↦
            let apart = subst (λ (n : ℕ). eqb n other ≡ false) (sym same.1) differ in
            ap (at_id id_of other) (placed_if sub subs true same.0) ∙ found_past sub (f sub) subs (keeps sub) apart ∙ sym (found_if other sub subs false apart)
        | inr apart ↦ ap (at_id id_of other) (placed_if sub subs false apart.0) ∙ found_behind other sub (in_place id_of id f subs) subs (found_other subs)
      ]

  -- what is found once the entry under an id has given way
  pub found_in_place : (id from : ℕ) (f : S → List S) → KeepsIds f → (subs : List S) → AscendBy id_of subs
      → at_id id_of id (in_place id_of from f subs) ≡ cond (eqb from id) (then_at f (at_id id_of id subs)) (at_id id_of id subs)
  found_in_place id from f keeps subs ascend = elim (eqb_tells from id) [
    | inl same ↦ rw same.0 (subst (λ (n : ℕ). at_id id_of id (in_place id_of n f subs) ≡ then_at f (at_id id_of id subs)) (sym same.1) (found_same id f keeps subs ascend))
    | inr apart ↦ rw apart.0 (found_other from f keeps id apart.0 subs)
  ]
