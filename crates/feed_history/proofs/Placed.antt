-- What stands under an id is found by its place, and what is put in its place stands there.
use Rattle.std.proofs.Common.{◌≡◌, ℕ, suc, ◌+◌, Bool, true, false, cond, eqb, List, [], ◌∷◌, ◌++◌, get_or, take, drop, Option, Some, None, refl, sym, ap, subst, ◌∙◌, arith, eqb-true}
use Rattle.std.specs.Prelude.{MatchOption}
use Rattle.std.specs.List.{position_from}
use Rattle.feed_history.specs.Ids.{StandsAt, at_id, in_place}

module _ {S : Type 0} (id_of : S → ℕ) (id : ℕ) where
  abbrev has_id : S → Bool
  has_id sub = eqb (id_of sub) id

  first_stands : (sub : S) (subs : List S) → has_id sub ≡ true → StandsAt id_of id (sub ∷ subs) 0
  first_stands sub subs tied = record { sub = sub; found = rw tied refl; within = omega arith; read = λ default. refl; giving = λ f. rw tied refl }

  later_stands : (sub : S) (subs : List S) (at : ℕ) → has_id sub ≡ false → StandsAt id_of id subs at → StandsAt id_of id (sub ∷ subs) (suc at)
  later_stands sub subs at free rest = record {
    sub = rest.sub;
    found = rw free rest.found;
    within = omega (arith, rest.within);
    read = λ default. rest.read default;
    giving = λ f. rw free (ap (λ (more : List S). sub ∷ more) (rest.giving f));
  }

  -- where one stands, counted from a place before the list
  record Behind (subs : List S) (from k : ℕ) : Type 0 where
    at : ℕ
    behind : k ≡ from + at
    stands : StandsAt id_of id subs at

  behind : (subs : List S) (from k : ℕ) → position_from has_id from subs ≡ Some k → Behind subs from k
  behind [] from k is = absurd (cc is)
  behind (sub ∷ subs) from k is = elim (eqb (id_of sub) id) as (λ b. eqb (id_of sub) id ≡ b → cond b (Some from) (position_from has_id (from + 1) subs) ≡ Some k → Behind (sub ∷ subs) from k) [
    | true ↦ λ tied is. let same : from ≡ k = cc is in record { at = 0; behind = omega (arith, same); stands = first_stands sub subs tied }
    | false ↦ λ free is. let rest = behind subs (from + 1) k is in record { at = suc rest.at; behind = omega (arith, rest.behind); stands = later_stands sub subs rest.at free rest.stands }
  ] refl is

  nowhere : (subs : List S) (from : ℕ) → position_from has_id from subs ≡ None → at_id id_of id subs ≡ None
  nowhere [] from is = refl
  nowhere (sub ∷ subs) from is = elim (eqb (id_of sub) id) as (λ b. eqb (id_of sub) id ≡ b → cond b (Some from) (position_from has_id (from + 1) subs) ≡ None → cond b (Some sub) (at_id id_of id subs) ≡ None) [
    | true ↦ λ tied is. absurd (cc is)
    | false ↦ λ free is. nowhere subs (from + 1) is
  ] refl is

  -- a place is found exactly where something stands under the id
  pub placed : (subs : List S) (place : Option ℕ) → place ≡ position_from has_id 0 subs → MatchOption place (at_id id_of id subs ≡ None) (StandsAt id_of id subs)
  placed subs None is = nowhere subs 0 (sym is)
  placed subs (Some k) is =
      let found = behind subs 0 k (sym is) in
      let same : found.at ≡ k = omega (arith, found.behind) in
      subst (StandsAt id_of id subs) same found.stands

  -- ---- what stands at the place, as it was read there

  module _ (subs : List S) (at : ℕ) (stands : StandsAt id_of id subs at) (sub : S) (is : sub ≡ get_or subs at sub) where
    same_sub : stands.sub ≡ sub
    same_sub = sym (is ∙ stands.read sub)

    pub found_there : at_id id_of id subs ≡ Some sub
    found_there = stands.found ∙ ap Some same_sub

    pub gives_way : (f : S → List S) → in_place id_of id f subs ≡ take at subs ++ (f sub ++ drop (suc at) subs)
    gives_way f = stands.giving f ∙ ap (λ (x : S). take at subs ++ (f x ++ drop (suc at) subs)) same_sub

  -- an id under which nothing stands gives way to nothing
  pub stays : (f : S → List S) (subs : List S) → at_id id_of id subs ≡ None → in_place id_of id f subs ≡ subs
  stays f [] none = refl
  stays f (sub ∷ subs) none = elim (eqb (id_of sub) id) as (λ b. cond b (Some sub) (at_id id_of id subs) ≡ None → cond b (f sub ++ subs) (sub ∷ in_place id_of id f subs) ≡ sub ∷ subs) [
    | true ↦ λ some. absurd (cc some)
    | false ↦ λ rest. ap (λ (more : List S). sub ∷ more) (stays f subs rest)
  ] none

  -- what is found under an id has it
  pub found_has_id : (subs : List S) (s : S) → at_id id_of id subs ≡ Some s → id_of s ≡ id
  found_has_id [] s is = absurd (cc is)
  found_has_id (first ∷ subs) s is = elim (eqb (id_of first) id) as (λ b. eqb (id_of first) id ≡ b → cond b (Some first) (at_id id_of id subs) ≡ Some s → id_of s ≡ id) [
    | true ↦ λ tied same. let it : first ≡ s = cc same in ap id_of (sym it) ∙ eqb-true (id_of first) id tied
    | false ↦ λ free rest. found_has_id subs s rest
  ] refl is
