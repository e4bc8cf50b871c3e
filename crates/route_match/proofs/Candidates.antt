-- The list of candidates has the matches that hold, in the order of their places.
use Rattle.std.proofs.Common.{◌≡◌, ℕ, zero, suc, ◌+◌, ◌<◌, ◌⊎◌, inl, inr, Bool, true, false, if◌then◌else◌, List, [], ◌∷◌, ◌++◌, Option, Some, refl, sym, ap, subst, ◌∙◌, arith}
use Rattle.std.specs.List.{slice_get}
use Rattle.view_types.specs.declared.request.HttpRequest.{HttpRequest}
use Rattle.view_types.specs.declared.route.HttpMatch.{HttpMatch}
use Rattle.route_match.specs.Matching.{AreCandidates, CandidatesAreThoseThatHold, ComesBefore, IsCandidate, Pat, Shape, candidates, flat_from, holds, in_match, in_route, merit}
use Rattle.route_match.specs.declared.best.Candidate.{Candidate}

-- ---- what stands in a list

abbrev Among : {Y : Type 0} → Y → List Y → Type 0
Among y [] = ⊥
Among y (x ∷ xs) = (x ≡ y) ⊎ Among y xs

module _ {Y : Type 0} where
  among_front : (y : Y) (xs ys : List Y) → Among y xs → Among y (xs ++ ys)
  among_front y [] ys at = absurd at
  among_front y (x ∷ xs) ys (inl is) = inl is
  among_front y (x ∷ xs) ys (inr at) = inr (among_front y xs ys at)

  among_rest : (y : Y) (xs ys : List Y) → Among y ys → Among y (xs ++ ys)
  among_rest y [] ys at = at
  among_rest y (x ∷ xs) ys at = inr (among_rest y xs ys at)

  among_either : (y : Y) (xs ys : List Y) → Among y (xs ++ ys) → Among y xs ⊎ Among y ys
  among_either y [] ys at = inr at
  among_either y (x ∷ xs) ys (inl is) = inl (inl is)
  among_either y (x ∷ xs) ys (inr at) = elim (among_either y xs ys at) [
    | inl here ↦ inl (inr here)
    | inr there ↦ inr there
  ]

  among_at : (ys : List Y) (k : ℕ) (y : Y) → slice_get ys k ≡ Some y → Among y ys
  among_at [] k y at = absurd (cc at)
  among_at (x ∷ xs) zero y at = inl (cc at)
  among_at (x ∷ xs) (suc k) y at = inr (among_at xs k y at)

  place_of : (ys : List Y) (y : Y) → Among y ys → (k : ℕ) × (slice_get ys k ≡ Some y)
  place_of [] y at = absurd at
  place_of (x ∷ xs) y (inl is) = (0, ap Some is)
  place_of (x ∷ xs) y (inr at) = let rest = place_of xs y at in (suc rest.0, rest.1)

-- ---- what comes before what

module _ {Y : Type 0} (R : Y → Y → Type 0) where
  abbrev Rises : List Y → Type 0
  Rises [] = Unit {0}
  Rises (y ∷ ys) = ((z : Y) → Among z ys → R y z) × Rises ys

  rises_on : (xs ys : List Y) → Rises xs → Rises ys → ((x y : Y) → Among x xs → Among y ys → R x y) → Rises (xs ++ ys)
  rises_on [] ys first second apart = second
  rises_on (x ∷ xs) ys first second apart = (
    λ z at. elim (among_either z xs ys at) [
      | inl here ↦ first.0 z here
      | inr there ↦ apart x z (inl refl) there
    ],
    rises_on xs ys first.1 second (λ y z here there. apart y z (inr here) there),
  )

  in_rising : (ys : List Y) → Rises ys → (k l : ℕ) (c d : Y) → k < l → slice_get ys k ≡ Some c → slice_get ys l ≡ Some d → R c d
  in_rising [] rises k l c d lt first second = absurd (cc first)
  in_rising (y ∷ ys) rises k zero c d lt first second = absurd (omega arith)
  in_rising (y ∷ ys) rises zero (suc l) c d lt first second = let is : y ≡ c = cc first in subst (λ (y : Y). R y d) is (rises.0 d (among_at ys l d second))
  in_rising (y ∷ ys) rises (suc k) (suc l) c d lt first second = in_rising ys rises.1 k l c d (omega arith) first second

-- ---- a walk with places

module _ {X Y : Type 0} (f : ℕ → X → List Y) where
  -- where something comes from
  record From (n : ℕ) (xs : List X) (y : Y) : Type 0 where
    place : ℕ
    item : X
    item_at : slice_get xs place ≡ Some item
    among : Among y (f (n + place) item)

  from_more : (n : ℕ) (x : X) (xs : List X) (y : Y) → From (n + 1) xs y → From n (x ∷ xs) y
  from_more n x xs y from =
      let one : n + 1 + from.place ≡ n + suc from.place = omega arith in
      record { place = suc from.place; item = from.item; item_at = from.item_at; among = subst (λ (k : ℕ). Among y (f k from.item)) one from.among }

  from_where : (n : ℕ) (xs : List X) (y : Y) → Among y (flat_from f n xs) → From n xs y
  from_where n [] y at = absurd at
  from_where n (x ∷ xs) y at = elim (among_either y (f n x) (flat_from f (n + 1) xs) at) [
    | inl here ↦ let same : n ≡ n + 0 = omega arith in record { place = 0; item = x; item_at = refl; among = subst (λ (k : ℕ). Among y (f k x)) same here }
    | inr there ↦ from_more n x xs y (from_where (n + 1) xs y there)
  ]

  to_where : (n : ℕ) (xs : List X) (place : ℕ) (item : X) → slice_get xs place ≡ Some item → (y : Y) → Among y (f (n + place) item) → Among y (flat_from f n xs)
  to_where n [] place item at y here = absurd (cc at)
  to_where n (x ∷ xs) zero item at y here =
      let same : n + 0 ≡ n = omega arith in
      let is : item ≡ x = cc at in
      among_front y (f n x) (flat_from f (n + 1) xs) (subst (λ (x : X). Among y (f n x)) is (subst (λ (k : ℕ). Among y (f k item)) same here))
  to_where n (x ∷ xs) (suc place) item at y here =
      let one : n + suc place ≡ n + 1 + place = omega arith in
      among_rest y (f n x) (flat_from f (n + 1) xs) (to_where (n + 1) xs place item at y (subst (λ (k : ℕ). Among y (f k item)) one here))

  -- from the first place on
  from_first : (xs : List X) (y : Y) → Among y (flat_from f 0 xs) → (place : ℕ) × (item : X) × (slice_get xs place ≡ Some item) × Among y (f place item)
  from_first xs y at =
      let from = from_where 0 xs y at in
      let same : 0 + from.place ≡ from.place = omega arith in
      (from.place, from.item, from.item_at, subst (λ (k : ℕ). Among y (f k from.item)) same from.among)

  to_first : (xs : List X) (place : ℕ) (item : X) → slice_get xs place ≡ Some item → (y : Y) → Among y (f place item) → Among y (flat_from f 0 xs)
  to_first xs place item at y here =
      let same : place ≡ 0 + place = omega arith in
      to_where 0 xs place item at y (subst (λ (k : ℕ). Among y (f k item)) same here)

  module _ (R : Y → Y → Type 0) (each : (n : ℕ) (x : X) → Rises R (f n x)) (apart : (n m : ℕ) (x z : X) (c d : Y) → n < m → Among c (f n x) → Among d (f m z) → R c d) where
    rises_from : (n : ℕ) (xs : List X) → Rises R (flat_from f n xs)
    rises_from n [] = tt
    rises_from n (x ∷ xs) =
        rises_on R (f n x) (flat_from f (n + 1) xs) (each n x) (rises_from (n + 1) xs)
        (λ c d here there. let from = from_where (n + 1) xs d there in apart n (n + 1 + from.place) x from.item c d (omega arith) here from.among)

-- ---- the candidates

module _ (pat : Pat) (request : HttpRequest) where
  abbrev made : ℕ → ℕ → ℕ → HttpMatch → Candidate
  made route rule item m = record { merit = merit m; route = route; rule = rule; item = item }

  in_one : (hosts : List (List ℕ)) (route rule item : ℕ) (m : HttpMatch) (c : Candidate) → Among c (in_match pat request hosts route rule item m) → (holds pat request hosts m ≡ true) × (made route rule item m ≡ c)
  in_one hosts route rule item m c at =
      elim (holds pat request hosts m) as (λ b. holds pat request hosts m ≡ b → Among c (if b then made route rule item m ∷ [] else []) → (holds pat request hosts m ≡ true) × (made route rule item m ≡ c)) [
        | true ↦ λ is at. elim at [
          | inl same ↦ (is, same)
          | inr none ↦ absurd none
        ]
        | false ↦ λ is at. absurd at
      ] refl at

  into_one : (hosts : List (List ℕ)) (route rule item : ℕ) (m : HttpMatch) → holds pat request hosts m ≡ true → Among (made route rule item m) (in_match pat request hosts route rule item m)
  into_one hosts route rule item m is = subst (λ (b : Bool). Among (made route rule item m) (if b then made route rule item m ∷ [] else [])) (sym is) (inl refl)

  module _ (hosts : List (List ℕ)) (route : ℕ) where
    abbrev of_rule : ℕ → List HttpMatch → List Candidate
    of_rule rule matches = flat_from (in_match pat request hosts route rule) 0 matches

    in_rule : (rule : ℕ) (matches : List HttpMatch) (c : Candidate) → Among c (of_rule rule matches)
        → (item : ℕ) × (m : HttpMatch) × (slice_get matches item ≡ Some m) × (holds pat request hosts m ≡ true) × (made route rule item m ≡ c)
    in_rule rule matches c at =
        let from = from_first (in_match pat request hosts route rule) matches c at in
        let one = in_one hosts route rule from.0 from.1 c from.3 in
        (from.0, from.1, from.2, one.0, one.1)

    matches_apart : (rule n m : ℕ) (x z : HttpMatch) (c d : Candidate) → n < m → Among c (in_match pat request hosts route rule n x) → Among d (in_match pat request hosts route rule m z) → ComesBefore c d
    matches_apart rule n m x z c d lt here there =
        let first = (in_one hosts route rule n x c here).1 in
        let second = (in_one hosts route rule m z d there).1 in
        subst (λ (c : Candidate). ComesBefore c d) first (subst (λ (d : Candidate). ComesBefore (made route rule n x) d) second (inr (refl, inr (refl, lt))))

    one_rises : (rule n : ℕ) (m : HttpMatch) → Rises ComesBefore (in_match pat request hosts route rule n m)
    one_rises rule n m = elim (holds pat request hosts m) as (λ b. Rises ComesBefore (if b then made route rule n m ∷ [] else [])) [
      | true ↦ (λ z at. absurd at, tt)
      | false ↦ tt
    ]

    rule_rises : (rule : ℕ) (matches : List HttpMatch) → Rises ComesBefore (of_rule rule matches)
    rule_rises rule matches = rises_from (in_match pat request hosts route rule) ComesBefore (one_rises rule) (matches_apart rule) 0 matches

    rules_apart : (n m : ℕ) (x z : List HttpMatch) (c d : Candidate) → n < m → Among c (of_rule n x) → Among d (of_rule m z) → ComesBefore c d
    rules_apart n m x z c d lt here there =
        let first = in_rule n x c here in
        let second = in_rule m z d there in
        subst (λ (c : Candidate). ComesBefore c d) first.4 (subst (λ (d : Candidate). ComesBefore (made route n first.0 first.1) d) second.4 (inr (refl, inl lt)))

  in_one_route : (route : ℕ) (shape : Shape) (c : Candidate) → Among c (in_route pat request route shape)
      → (rule : ℕ) × (matches : List HttpMatch) × (slice_get shape.1 rule ≡ Some matches) × (item : ℕ) × (m : HttpMatch) × (slice_get matches item ≡ Some m) × (holds pat request shape.0 m ≡ true) × (made route rule item m ≡ c)
  in_one_route route shape c at =
      let from = from_first (of_rule shape.0 route) shape.1 c at in
      let inner = in_rule shape.0 route from.0 from.1 c from.3 in
      (from.0, from.1, from.2, inner.0, inner.1, inner.2, inner.3, inner.4)

  route_rises : (route : ℕ) (shape : Shape) → Rises ComesBefore (in_route pat request route shape)
  route_rises route shape = rises_from (of_rule shape.0 route) ComesBefore (rule_rises shape.0 route) (rules_apart shape.0 route) 0 shape.1

  routes_apart : (n m : ℕ) (x z : Shape) (c d : Candidate) → n < m → Among c (in_route pat request n x) → Among d (in_route pat request m z) → ComesBefore c d
  routes_apart n m x z c d lt here there =
      let first = in_one_route n x c here in
      let second = in_one_route m z d there in
      subst (λ (c : Candidate). ComesBefore c d) first.7 (subst (λ (d : Candidate). ComesBefore (made n first.0 first.3 first.4) d) second.7 (inl lt))

  module _ (shapes : List Shape) where
    all_rise : Rises ComesBefore (candidates pat request shapes)
    all_rise = rises_from (in_route pat request) ComesBefore route_rises routes_apart 0 shapes

    one_of : (c : Candidate) → Among c (candidates pat request shapes) → IsCandidate pat request shapes c
    one_of c at =
        let from = from_first (in_route pat request) shapes c at in
        let inner = in_one_route from.0 from.1 c from.3 in
        let is : IsCandidate pat request shapes (made from.0 inner.0 inner.3 inner.4) = record {
          shape = from.1;
          route_at = from.2;
          matches = inner.1;
          rule_at = inner.2;
          found = inner.4;
          item_at = inner.5;
          holding = inner.6;
          merit_is = refl;
        } in
        subst (IsCandidate pat request shapes) inner.7 is

    stands_among : (c : Candidate) → IsCandidate pat request shapes c → Among c (candidates pat request shapes)
    stands_among c is =
        let here : Among (made c.route c.rule c.item is.found) (candidates pat request shapes) =
        to_first (in_route pat request) shapes c.route is.shape is.route_at (made c.route c.rule c.item is.found)
        (to_first (of_rule is.shape.0 c.route) is.shape.1 c.rule is.matches is.rule_at (made c.route c.rule c.item is.found)
        (to_first (in_match pat request is.shape.0 c.route c.rule) is.matches c.item is.found is.item_at (made c.route c.rule c.item is.found)
        (into_one is.shape.0 c.route c.rule c.item is.found is.holding))) in
        let same : made c.route c.rule c.item is.found ≡ c = λ i. record { merit = sym is.merit_is i; route = c.route; rule = c.rule; item = c.item } in
        subst (λ (c : Candidate). Among c (candidates pat request shapes)) same here

pub candidates_are_those_that_hold : CandidatesAreThoseThatHold
candidates_are_those_that_hold pat request shapes = record {
  only = λ k c at. one_of pat request shapes c (among_at (candidates pat request shapes) k c at);
  each = λ c is. place_of (candidates pat request shapes) c (stands_among pat request shapes c is);
  in_order = in_rising ComesBefore (candidates pat request shapes) (all_rise pat request shapes);
}
