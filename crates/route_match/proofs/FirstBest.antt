-- The best of a list, kept while walking through it.
use Rattle.std.proofs.Common.{◌≡◌, arith, ℕ, zero, suc, Bool, true, false, cond, List, [], ◌∷◌, take, Some, None, Option, Ordering, ◌⊎◌, inl, inr, refl, sym, ap, subst, ◌∙◌}
use Rattle.std.specs.Prelude.{MatchOption}
use Rattle.std.specs.List.{fold, All}
use Rattle.std.specs.Ordering.{nat_cmp, is_gt, ordering_reverse}
use Rattle.std.specs.Cmp.Lexicographic.{slice_cmp, nat_list_cmp_total}
use Rattle.std.specs.declared.cmp.Ordering.TheVariants.{Less, Equal, Greater}
use Rattle.route_match.specs.declared.best.Candidate.{Candidate}
use Rattle.route_match.specs.Matching.{BestIsFirst, IsFirstOfTheBest, better, candidates, is_better}

abbrev C : List ℕ → List ℕ → Ordering
C a b = slice_cmp nat_cmp a b

greater : (r : Ordering) → is_gt r ≡ true → r ≡ Greater
greater Less e = cc
greater Equal e = cc
greater Greater e = refl

its_own : (r : Ordering) → r ≡ ordering_reverse r → is_gt r ≡ false
its_own Less e = refl
its_own Equal e = refl
its_own Greater e = cc

-- no list of numbers is above itself
itself : (x : Candidate) → is_better x x ≡ false
itself x = its_own (C x.merit x.merit) (nat_list_cmp_total.antisymm x.merit x.merit)

below : (x b : Candidate) → is_better b x ≡ true → C x.merit b.merit ≡ Less
below x b more = nat_list_cmp_total.antisymm x.merit b.merit ∙ ap ordering_reverse (greater _ more)

above : (x b : Candidate) → C x.merit b.merit ≡ Less → is_better b x ≡ true
above x b less = ap is_gt (nat_list_cmp_total.antisymm b.merit x.merit ∙ ap ordering_reverse less)

not_above : (x b : Candidate) → is_better b x ≡ true → is_better x b ≡ false
not_above x b more = ap is_gt (below x b more)

-- what is above one that is above x is above x
through : (x y z : Candidate) → is_better y x ≡ true → is_better z y ≡ true → is_better z x ≡ true
through x y z first second = above x z (nat_list_cmp_total.trans x.merit y.merit z.merit (below x y first) (below y z second))

past_at : (x b z : Candidate) (r : Ordering) → C x.merit b.merit ≡ r → is_gt r ≡ false → is_better z b ≡ true → is_better z x ≡ true
past_at x b z Less is not_more more = above x z (nat_list_cmp_total.trans x.merit b.merit z.merit is (below b z more))
past_at x b z Equal is not_more more = above x z (nat_list_cmp_total.congr x.merit b.merit z.merit is ∙ below b z more)
past_at x b z Greater is not_more more = cc

past : (x b z : Candidate) → is_better x b ≡ false → is_better z b ≡ true → is_better z x ≡ true
past x b z not_more more = past_at x b z (C x.merit b.merit) refl not_more more

-- a later one that is better than the first
record Later (b : Candidate) (xs : List Candidate) (z : Candidate) : Type 0 where
  is_first : IsFirstOfTheBest xs z
  better_than : is_better z b ≡ true

-- what is kept from b on is b, where none is better, or the first best of those that are
abbrev Kept : Candidate → List Candidate → Candidate → Type 0
Kept b xs z = ((z ≡ b) × All (λ x. is_better x b ≡ false) xs) ⊎ Later b xs z

module _ (P : Candidate → Type 0) where
  all_none : All P []
  all_none k d lt = absurd (omega arith)

  all_cons : (x : Candidate) (xs : List Candidate) → P x → All P xs → All P (x ∷ xs)
  all_cons x xs here rest zero d lt = here
  all_cons x xs here rest (suc k) d lt = rest k d (omega arith)

module _ (x : Candidate) (xs : List Candidate) (b z : Candidate) where
  -- x replaced b, and the walk went on from x
  replaced : is_better x b ≡ true → Kept x xs z → Kept b (x ∷ xs) z
  replaced more (inl p) =
      let e : x ≡ z = sym p.0 in
      let here : IsFirstOfTheBest (x ∷ xs) x = record { place = 0; stands = refl; none_better = all_cons (λ y. is_better y x ≡ false) x xs (itself x) p.1; better_than_before = all_none (λ y. is_better x y ≡ true) } in
      inr record { is_first = subst (IsFirstOfTheBest (x ∷ xs)) e here; better_than = subst (λ (y : Candidate). is_better y b ≡ true) e more }
  replaced more (inr l) = inr record {
    is_first = record {
      place = suc l.is_first.place;
      stands = l.is_first.stands;
      none_better = all_cons (λ y. is_better y z ≡ false) x xs (not_above x z l.better_than) l.is_first.none_better;
      better_than_before = all_cons (λ y. is_better z y ≡ true) x (take l.is_first.place xs) l.better_than l.is_first.better_than_before;
    };
    better_than = through b x z more l.better_than;
  }

  -- x was passed over
  passed : is_better x b ≡ false → Kept b xs z → Kept b (x ∷ xs) z
  passed not_more (inl p) = inl (p.0, all_cons (λ y. is_better y b ≡ false) x xs not_more p.1)
  passed not_more (inr l) =
      let over : is_better z x ≡ true = past x b z not_more l.better_than in
      inr record {
        is_first = record {
          place = suc l.is_first.place;
          stands = l.is_first.stands;
          none_better = all_cons (λ y. is_better y z ≡ false) x xs (not_above x z over) l.is_first.none_better;
          better_than_before = all_cons (λ y. is_better z y ≡ true) x (take l.is_first.place xs) over l.is_first.better_than_before;
        };
        better_than = l.better_than;
      }

walk_at : (b x : Candidate) (xs : List Candidate) (t : Bool) → is_better x b ≡ t → ((c : Candidate) → (z : Candidate) × (fold better (Some c) xs ≡ Some z) × Kept c xs z) → (z : Candidate) × (fold better (Some (cond t x b)) xs ≡ Some z) × Kept b (x ∷ xs) z
walk_at b x xs true is rest = let r = rest x in (r.0, r.1, replaced x xs b r.0 is r.2)
walk_at b x xs false is rest = let r = rest b in (r.0, r.1, passed x xs b r.0 is r.2)

walk : (xs : List Candidate) (b : Candidate) → (z : Candidate) × (fold better (Some b) xs ≡ Some z) × Kept b xs z
walk [] b = (b, refl, inl (refl, all_none (λ y. is_better y b ≡ false)))
walk (x ∷ xs) b = walk_at b x xs (is_better x b) refl (λ c. walk xs c)

from_kept : (x : Candidate) (xs : List Candidate) (z : Candidate) → Kept x xs z → IsFirstOfTheBest (x ∷ xs) z
from_kept x xs z (inl p) =
    let e : x ≡ z = sym p.0 in
    let here : IsFirstOfTheBest (x ∷ xs) x = record { place = 0; stands = refl; none_better = all_cons (λ y. is_better y x ≡ false) x xs (itself x) p.1; better_than_before = all_none (λ y. is_better x y ≡ true) } in
    subst (IsFirstOfTheBest (x ∷ xs)) e here
from_kept x xs z (inr l) = record {
  place = suc l.is_first.place;
  stands = l.is_first.stands;
  none_better = all_cons (λ y. is_better y z ≡ false) x xs (not_above x z l.better_than) l.is_first.none_better;
  better_than_before = all_cons (λ y. is_better z y ≡ true) x (take l.is_first.place xs) l.better_than l.is_first.better_than_before;
}

first_best : (xs : List Candidate) → MatchOption (fold better None xs) (xs ≡ []) (IsFirstOfTheBest xs)
first_best [] = refl
first_best (x ∷ xs) =
    let w = walk xs x in
    subst (λ (o : Option Candidate). MatchOption o ((x ∷ xs) ≡ []) (IsFirstOfTheBest (x ∷ xs))) (sym w.1) (from_kept x xs w.0 w.2)

pub best_is_first : BestIsFirst
best_is_first pat request shapes = first_best (candidates pat request shapes)
