-- A search among chunks by their first items, and then in one chunk, as a search in the whole.
use Rattle.std.proofs.Common.{◌≡◌, ℕ, zero, suc, ◌+◌, ◌<◌, ◌≤◌, true, false, List, [], ◌∷◌, get_or, flat_map, length, Ordering, inl, inr, refl, sym, ap, subst, ◌∙◌, arith}
use denote.Param.Members.{Mut}
use Rattle.std.specs.Fn.{AlwaysReturns, Called}
use Rattle.std.specs.List.{AllWithin, HoldsAt}
use Rattle.std.specs.List.Sorted.{IsNonDecreasingBy, IsPartitionPoint}
use Rattle.std.specs.Ordering.{is_gt, ordering_index}
use Rattle.std.specs.declared.cmp.Ordering.TheVariants.{Less, Equal, Greater}
use Rattle.std.proofs.lemmas.Bool.{cases_lt}
use Rattle.std.proofs.lemmas.List.{get_or_default}
use Rattle.std.proofs.lemmas.List.Concat.{get_or-flat_map}
use Rattle.chunked_list.specs.Spots.{NoneEmpty, start_of}
use Rattle.chunked_list.proofs.Chunked.{end_is, filled_at, in_whole, start_of_all}

bottom : (o : Ordering) → ordering_index o ≤ 0 → o ≡ Less
bottom Less h = refl
bottom Equal h = absurd (omega (arith, h))
bottom Greater h = absurd (omega (arith, h))

top : (o : Ordering) → 2 ≤ ordering_index o → o ≡ Greater
top Less h = absurd (omega (arith, h))
top Equal h = absurd (omega (arith, h))
top Greater h = refl

is_Greater : (o : Ordering) → is_gt o ≡ true → o ≡ Greater
is_Greater Less h = cc
is_Greater Equal h = cc
is_Greater Greater h = refl

same_before : (b c : ℕ) → c + 1 ≡ suc b → c ≡ b
same_before b c is = omega (arith, is)

-- ---- in a list whose answers rise

module _ {A : Type 0} (ord : A → Ordering) (xs : List A) (rises : IsNonDecreasingBy (λ y. ordering_index (ord y)) xs) where
  pub all_below : (i n : ℕ) → i < length xs → n ≤ suc i → HoldsAt (λ y. ord y ≡ Less) xs i → AllWithin (λ y. ord y ≡ Less) xs 0 n
  all_below i n lt le is k d low below = bottom _ (subst (λ (o : Ordering). ordering_index (ord (get_or xs k d)) ≤ ordering_index o) (is d) (rises k i d (omega (arith, le, below)) lt))

  pub all_above : (i : ℕ) → HoldsAt (λ y. ord y ≡ Greater) xs i → AllWithin (λ y. ord y ≡ Greater) xs i (length xs)
  all_above i is k d from below = top _ (subst (λ (o : Ordering). ordering_index o ≤ ordering_index (ord (get_or xs k d))) (is d) (rises i k d from below))

-- ---- among chunks

all_none : {X A : Type 0} (items : X → List A) (chunks : List X) → length chunks ≤ 0 → length (flat_map items chunks) ≤ 0
all_none items [] none = omega arith
all_none items (x ∷ chunks) none = absurd (omega (arith, none))

module _ {X A : Type 0} (items : X → List A) (ord : A → Ordering) (chunks : List X) where
  -- the first item of the chunk before low isn't greater, and that of the chunk at high is
  pub record Narrowed (low high : ℕ) : Type 0 where
    pub below : (c : ℕ) → low ≡ suc c → HoldsAt (λ y. is_gt (ord y) ≡ false) (flat_map items chunks) (start_of items chunks c)
    pub above : high < length chunks → HoldsAt (λ y. ord y ≡ Greater) (flat_map items chunks) (start_of items chunks high)

  pub whole : Narrowed 0 (length chunks)
  whole = record { below = λ c is. absurd (omega (arith, is)); above = λ lt. absurd (omega (arith, lt)) }

  module _ (filled : NoneEmpty items chunks) where
    first_is : (c : ℕ) (e : X) (d : A) → c < length chunks → get_or (flat_map items chunks) (start_of items chunks c) d ≡ get_or (items (get_or chunks c e)) 0 d
    first_is c e d lt =
        let from : start_of items chunks c ≡ start_of items chunks c + 0 = omega arith in
        ap (λ k. get_or (flat_map items chunks) k d) from ∙ get_or-flat_map items chunks c 0 e d lt (filled_at items chunks c e lt filled)

    module _ (c : ℕ) (e : X) (x : A) (lt : c < length chunks) (is : e ≡ get_or chunks c e) (item : x ≡ get_or (items e) 0 x) where
      first_read : (d : A) → get_or (flat_map items chunks) (start_of items chunks c) d ≡ x
      first_read d =
          let some : 0 < length (items e) = subst (λ (k : X). 0 < length (items k)) (sym is) (filled_at items chunks c e lt filled) in
          first_is c e d lt ∙ ap (λ k. get_or (items k) 0 d) (sym is) ∙ get_or_default (items e) 0 d x some ∙ sym item

      pub to_greater : (low high : ℕ) → c < high → true ≡ is_gt (ord x) → Narrowed low high → Narrowed low c
      to_greater low high under said n = record { below = n.below; above = λ _ d. ap ord (first_read d) ∙ is_Greater _ (sym said) }

      pub past_lesser : (low high : ℕ) → false ≡ is_gt (ord x) → Narrowed low high → Narrowed (c + 1) high
      past_lesser low high said n = record { below = λ b next d. ap (λ k. is_gt (ord (get_or (flat_map items chunks) (start_of items chunks k) d))) (sym (same_before b c next)) ∙ ap (λ y. is_gt (ord y)) (first_read d) ∙ sym said; above = n.above }

  pub ended : (c low high : ℕ) → low ≡ c → high ≡ c → Narrowed low high → Narrowed c c
  ended c low high from to n = subst (λ (h : ℕ). Narrowed c h) to (subst (λ (l : ℕ). Narrowed l high) from n)

  -- nothing stands before a first item that is greater
  pub at_start : Narrowed 0 0 → IsNonDecreasingBy (λ y. ordering_index (ord y)) (flat_map items chunks)
      → IsPartitionPoint (λ y. ord y ≡ Less) (λ y. ord y ≡ Greater) (flat_map items chunks) 0
  at_start n rises = (
    λ k d low below. absurd (omega (arith, below)),
    elim (cases_lt 0 (length chunks)) [
      | inl some ↦ all_above ord (flat_map items chunks) rises 0 (n.above some)
      | inr none ↦ λ k d low below. let bound = all_none items chunks none in absurd (omega (arith, bound, below))
    ],
  )

  module _ (c start : ℕ) (e : X) (lt : c < length chunks) (starts : start ≡ start_of items chunks c) (is : e ≡ get_or chunks c e) where
    read : (at : ℕ) (d : A) → at < length (items e) → get_or (flat_map items chunks) (start + at) d ≡ get_or (items e) at d
    read at d within =
        let own : at < length (items (get_or chunks c e)) = subst (λ (k : X). at < length (items k)) is within in
        ap (λ k. get_or (flat_map items chunks) (k + at) d) starts ∙ get_or-flat_map items chunks c at e d lt own ∙ ap (λ k. get_or (items k) at d) (sym is)

    pub hit_is : (at : ℕ) → at < length (items e) → HoldsAt (λ y. ord y ≡ Equal) (items e) at → HoldsAt (λ y. ord y ≡ Equal) (flat_map items chunks) (start + at)
    hit_is at within hit d = ap ord (read at d within) ∙ hit d

    module _ (rises : IsNonDecreasingBy (λ y. ordering_index (ord y)) (flat_map items chunks)) where
      rises_within : IsNonDecreasingBy (λ y. ordering_index (ord y)) (items e)
      rises_within i j d le within =
          let bound = in_whole items chunks c start e lt starts is in
          let whole_rises : ordering_index (ord (get_or (flat_map items chunks) (start + i) d)) ≤ ordering_index (ord (get_or (flat_map items chunks) (start + j) d)) = rises (start + i) (start + j) d (omega (arith, le)) (omega (arith, within, bound)) in
          rw (read i d (omega (arith, le, within)), read j d within) at whole_rises

      module _ (narrowed : Narrowed (suc c) (suc c)) (at : ℕ) (le : at ≤ length (items e)) (parts : IsPartitionPoint (λ y. ord y ≡ Less) (λ y. ord y ≡ Greater) (items e) at) where
        greater_at : at < length (items e) → HoldsAt (λ y. ord y ≡ Greater) (flat_map items chunks) (start + at)
        greater_at within d = ap ord (read at d within) ∙ parts.1 at d (omega arith) within

        less_before : (b : ℕ) → at ≡ suc b → AllWithin (λ y. ord y ≡ Less) (flat_map items chunks) 0 (start + at)
        less_before b is_next =
            let bound = in_whole items chunks c start e lt starts is in
            all_below ord (flat_map items chunks) rises (start + b) (start + at) (omega (arith, bound, le, is_next)) (omega (arith, is_next)) (λ d. ap ord (read b d (omega (arith, is_next, le))) ∙ parts.0 b d (omega arith) (omega (arith, is_next)))

        not_both : (d : A) → at ≡ 0 → 0 < length (items e) → true ≡ false
        not_both d none some =
            let from : start + at ≡ start_of items chunks c = omega (arith, none, starts) in
            sym (ap is_gt (greater_at (omega (arith, none, some)) d)) ∙ ap (λ k. is_gt (ord (get_or (flat_map items chunks) k d))) from ∙ narrowed.below c refl d

        pub below_at : 0 < length (items e) → (n : ℕ) → at ≡ n → AllWithin (λ y. ord y ≡ Less) (flat_map items chunks) 0 (start + at)
        below_at some zero none k d low below = let no = not_both d none some in cc
        below_at some (suc b) is_next k d low below = less_before b is_next k d low below

        pub above_at : AllWithin (λ y. ord y ≡ Greater) (flat_map items chunks) (start + at) (length (flat_map items chunks))
        above_at = elim (cases_lt at (length (items e))) [
          | inl within ↦ all_above ord (flat_map items chunks) rises (start + at) (greater_at within)
          | inr past ↦ elim (cases_lt (suc c) (length chunks)) [
            | inl more ↦ let from : start_of items chunks (suc c) ≡ start + at = let ends = end_is items chunks c start e lt starts is in omega (arith, ends, past, le) in
                subst (λ (k : ℕ). AllWithin (λ y. ord y ≡ Greater) (flat_map items chunks) k (length (flat_map items chunks))) from (all_above ord (flat_map items chunks) rises (start_of items chunks (suc c)) (narrowed.above more))
            | inr last ↦ λ k d low below.
                let all : suc c ≡ length chunks = omega (arith, last, lt) in
                let end : start_of items chunks (suc c) ≡ length (flat_map items chunks) = ap (start_of items chunks) all ∙ start_of_all items chunks in
                let ends = end_is items chunks c start e lt starts is in
                absurd (omega (arith, low, below, end, ends, past))
          ]
        ]

    pub gap_is : Narrowed (suc c) (suc c) → 0 < length (items e) → (at : ℕ) → at ≤ length (items e)
        → (IsNonDecreasingBy (λ y. ordering_index (ord y)) (items e) → IsPartitionPoint (λ y. ord y ≡ Less) (λ y. ord y ≡ Greater) (items e) at)
        → IsNonDecreasingBy (λ y. ordering_index (ord y)) (flat_map items chunks) → IsPartitionPoint (λ y. ord y ≡ Less) (λ y. ord y ≡ Greater) (flat_map items chunks) (start + at)
    gap_is narrowed some at le parted rises =
        let parts = parted (rises_within rises) in
        (below_at rises narrowed at le parts some at refl, above_at rises narrowed at le parts)

-- one call of a closure that answers by P
pub answers_next : {F X R : Type 0} (g : Mut F X R) (P : X → R → Type 0) (f : F) (a : X) (r : R) (f' : F) → Called g f a r f' → AlwaysReturns g P f → P a r × AlwaysReturns g P f'
answers_next g P f a r f' k h = ((h.at (a ∷ []) r f' k).0, record { at = λ xs. (h.at (a ∷ xs) r f' k).1 })

pub positive : (n : ℕ) → (n ≡ 0 → ⊥) → 0 < n
positive zero other = absurd (other refl)
positive (suc n) other = omega arith
