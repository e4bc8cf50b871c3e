-- The first item that passes a test, in a list that is made of other lists.
use Rattle.std.proofs.Common.{◌≡◌, ◌≢◌, ℕ, zero, suc, ◌<◌, Bool, true, false, cond, List, [], ◌∷◌, ◌++◌, Some, None, inl, inr, refl, sym, ap, ◌∙◌, arith}
use Rattle.std.specs.List.{find, flat_map, slice_get}
use Rattle.std.specs.Option.{option_or}
use Rattle.std.specs.Cmp.{ranks}
use Rattle.std.specs.Ordering.{MatchOrdering, nat_cmp, ordering_then}
use Rattle.std.specs.declared.cmp.Ordering.{Ordering}
use Rattle.std.specs.declared.cmp.Ordering.TheVariants.{Less, Equal, Greater}
use Rattle.view_rules.proofs.Among.{Among}

pub stands_at : {X : Type 0} (xs : List X) (k : ℕ) (x : X) → slice_get xs k ≡ Some x → Among x xs
stands_at [] k x e = absurd (cc e)
stands_at (y ∷ ys) zero x e = inl (cc e)
stands_at (y ∷ ys) (suc k) x e = inr (stands_at ys k x e)

pub some_place : {X : Type 0} (xs : List X) (x : X) → Among x xs → (k : ℕ) × (slice_get xs k ≡ Some x)
some_place [] x h = absurd h
some_place (y ∷ ys) x h = elim h [
  | inl e ↦ (zero, ap Some e)
  | inr r ↦ let rest = some_place ys x r in (suc rest.0, rest.1)
]

-- the first item whose list has one that passes, and that one
pub record FirstAt {X Y : Type 0} (p : Y → Bool) (f : X → List Y) (xs : List X) (y : Y) : Type 0 where
  pub place : ℕ
  pub item : X
  pub at : slice_get xs place ≡ Some item
  pub found : find p (f item) ≡ Some y
  pub before : (j : ℕ) (z : X) → j < place → slice_get xs j ≡ Some z → find p (f z) ≡ None

module _ {X Y : Type 0} (p : Y → Bool) (f : X → List Y) where
  joined : (ys zs : List Y) → find p (ys ++ zs) ≡ option_or (find p ys) (find p zs)
  joined [] zs = refl
  joined (y ∷ ys) zs = elim (p y) as (λ b. cond b (Some y) (find p (ys ++ zs)) ≡ option_or (cond b (Some y) (find p ys)) (find p zs)) [ true ↦ refl | false ↦ joined ys zs ]

  here : (x : X) (xs : List X) (y : Y) → find p (f x) ≡ Some y → FirstAt p f (x ∷ xs) y
  here x xs y e = record { place = zero; item = x; at = refl; found = e; before = λ j z lt at. absurd (omega arith) }

  later_before : (x : X) (xs : List X) (y : Y) (first : FirstAt p f xs y) → find p (f x) ≡ None → (j : ℕ) (z : X) → j < suc first.place → slice_get (x ∷ xs) j ≡ Some z → find p (f z) ≡ None
  later_before x xs y first none zero z lt at = let is : x ≡ z = cc at in ap (λ x. find p (f x)) (sym is) ∙ none
  later_before x xs y first none (suc j) z lt at = first.before j z (omega arith) at

  later : (x : X) (xs : List X) (y : Y) → find p (f x) ≡ None → FirstAt p f xs y → FirstAt p f (x ∷ xs) y
  later x xs y none first = record { place = suc first.place; item = first.item; at = first.at; found = first.found; before = later_before x xs y first none }

  pub first_at : (xs : List X) (y : Y) → find p (flat_map f xs) ≡ Some y → FirstAt p f xs y
  first_at [] y e = absurd (cc e)
  first_at (x ∷ xs) y e =
      elim (find p (f x)) as (λ found. find p (f x) ≡ found → option_or found (find p (flat_map f xs)) ≡ Some y → FirstAt p f (x ∷ xs) y) [
        | Some z ↦ λ is e. here x xs y (is ∙ e)
        | None ↦ λ is e. later x xs y is (first_at xs y e)
      ] refl (sym (joined (f x) (flat_map f xs)) ∙ e)

  -- a list with one that passes isn't passed over
  pub passes : (ys : List Y) (y : Y) → Among y ys → p y ≡ true → find p ys ≡ None → ⊥
  passes [] y h is none = absurd h
  passes (z ∷ zs) y h is none =
      elim (p z) as (λ b. p z ≡ b → cond b (Some z) (find p zs) ≡ None → ⊥) [
        | true ↦ λ e none. absurd (cc none)
        | false ↦ λ e none. elim h [
          | inl same ↦ let no : false ≡ true = sym e ∙ ap p same ∙ is in absurd (cc no)
          | inr rest ↦ passes zs y rest is none
        ]
      ] refl none

  -- an item whose list has one that passes doesn't stand before the first
  pub not_before : (xs : List X) (y : Y) (first : FirstAt p f xs y) (j : ℕ) (z : X) (other : Y) → slice_get xs j ≡ Some z → Among other (f z) → p other ≡ true → j < first.place → ⊥
  not_before xs y first j z other at among is lt = passes (f z) other among is (first.before j z lt at)

-- one that passes behind a test
pub found_behind : {Y : Type 0} (p : Y → Bool) (b : Bool) (ys : List Y) (y : Y) → find p (cond b ys []) ≡ Some y → (b ≡ true) × (find p ys ≡ Some y)
found_behind p true ys y e = (refl, e)
found_behind p false ys y e = absurd (cc e)

pub found_only : {Y : Type 0} (p : Y → Bool) (x y : Y) → find p (x ∷ []) ≡ Some y → x ≡ y
found_only p x y e = elim (p x) as (λ b. cond b (Some x) None ≡ Some y → x ≡ y) [ true ↦ λ e. cc e | false ↦ λ e. absurd (cc e) ] e

-- no later place by places: not before here, and at one place no later by the rest
pub level : (k j : ℕ) (rest : Ordering) → (j < k → ⊥) → (k ≡ j → rest ≢ Greater) → ordering_then (nat_cmp k j) rest ≢ Greater
level k j rest low same =
    elim (nat_cmp k j) as (λ o. MatchOrdering o (k < j) (k ≡ j) (j < k) → ordering_then o rest ≢ Greater) [
      | Less ↦ λ lt e. absurd (cc e)
      | Equal ↦ λ is. same is
      | Greater ↦ λ gt. absurd (low gt)
    ] (ranks k j)

pub level_end : (k j : ℕ) → (j < k → ⊥) → nat_cmp k j ≢ Greater
level_end k j low =
    elim (nat_cmp k j) as (λ o. MatchOrdering o (k < j) (k ≡ j) (j < k) → o ≢ Greater) [
      | Less ↦ λ lt e. absurd (cc e)
      | Equal ↦ λ is e. absurd (cc e)
      | Greater ↦ λ gt. absurd (low gt)
    ] (ranks k j)
