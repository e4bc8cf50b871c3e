-- The items of lists that are made of other lists.
use Rattle.std.proofs.Common.{◌≡◌, ℕ, zero, suc, ◌<◌, ◌⊎◌, inl, inr, Bool, true, false, cond, List, [], ◌∷◌, ◌++◌, map, get_or, length, Option, Some, None, refl, sym, ap, subst, ◌∙◌, arith}
use Rattle.std.specs.List.{AllByRecursion, Contains, filter, filter_map, cons_option, flat_map}

-- x is an item
abbrev pub Among : {X : Type 0} → X → List X → Type 0
Among x [] = ⊥
Among x (y ∷ ys) = (y ≡ x) ⊎ Among x ys

at_place : {X : Type 0} (xs : List X) (x : X) (k : ℕ) → k < length xs → get_or xs k x ≡ x → Among x xs
at_place [] x k lt is = absurd (omega arith)
at_place (y ∷ ys) x zero lt is = inl is
at_place (y ∷ ys) x (suc k) lt is = inr (at_place ys x k (omega arith) is)

pub among_from : {X : Type 0} (xs : List X) (x : X) → Contains xs x → Among x xs
among_from xs x h = at_place xs x h.0 h.1 h.2

pub contained : {X : Type 0} (xs : List X) (x : X) → Among x xs → Contains xs x
contained [] x h = absurd h
contained (y ∷ ys) x h = elim h [
  | inl e ↦ (0, omega arith, e)
  | inr r ↦ let rest = contained ys x r in (suc rest.0, omega (arith, rest.1), rest.2)
]

pub all_among : {X : Type 0} (P : X → Type 0) (xs : List X) → ((x : X) → Among x xs → P x) → AllByRecursion P xs
all_among P [] each = tt
all_among P (x ∷ xs) each = (each x (inl refl), all_among P xs (λ y at. each y (inr at)))

pub among_map : {X Y : Type 0} (f : X → Y) (xs : List X) (x : X) → Among x xs → Among (f x) (map f xs)
among_map f [] x h = absurd h
among_map f (z ∷ zs) x h = elim h [ inl e ↦ inl (ap f e) | inr r ↦ inr (among_map f zs x r) ]

pub from_map : {X Y : Type 0} (f : X → Y) (xs : List X) (y : Y) → Among y (map f xs) → (x : X) × Among x xs × (f x ≡ y)
from_map f [] y h = absurd h
from_map f (z ∷ zs) y h = elim h [ inl e ↦ (z, inl refl, e) | inr r ↦ let rest = from_map f zs y r in (rest.0, inr rest.1, rest.2) ]

among_left : {X : Type 0} (xs ys : List X) (x : X) → Among x xs → Among x (xs ++ ys)
among_left [] ys x h = absurd h
among_left (z ∷ zs) ys x h = elim h [ inl e ↦ inl e | inr r ↦ inr (among_left zs ys x r) ]

among_right : {X : Type 0} (xs ys : List X) (x : X) → Among x ys → Among x (xs ++ ys)
among_right [] ys x h = h
among_right (z ∷ zs) ys x h = inr (among_right zs ys x h)

from_append : {X : Type 0} (xs ys : List X) (x : X) → Among x (xs ++ ys) → Among x xs ⊎ Among x ys
from_append [] ys x h = inr h
from_append (z ∷ zs) ys x h = elim h [
  | inl e ↦ inl (inl e)
  | inr r ↦ elim (from_append zs ys x r) [ inl a ↦ inl (inr a) | inr b ↦ inr b ]
]

pub among_flat : {X Y : Type 0} (f : X → List Y) (xs : List X) (x : X) (y : Y) → Among x xs → Among y (f x) → Among y (flat_map f xs)
among_flat f [] x y h here = absurd h
among_flat f (z ∷ zs) x y h here = elim h [
  | inl e ↦ among_left (f z) (flat_map f zs) y (subst (λ x. Among y (f x)) (sym e) here)
  | inr r ↦ among_right (f z) (flat_map f zs) y (among_flat f zs x y r here)
]

pub from_flat : {X Y : Type 0} (f : X → List Y) (xs : List X) (y : Y) → Among y (flat_map f xs) → (x : X) × Among x xs × Among y (f x)
from_flat f [] y h = absurd h
from_flat f (z ∷ zs) y h = elim (from_append (f z) (flat_map f zs) y h) [
  | inl here ↦ (z, inl refl, here)
  | inr r ↦ let rest = from_flat f zs y r in (rest.0, inr rest.1, rest.2)
]

from_cons : {Y : Type 0} (found : Option Y) (ys : List Y) (y : Y) → Among y (cons_option found ys) → (found ≡ Some y) ⊎ Among y ys
from_cons None ys y h = inr h
from_cons (Some z) ys y h = elim h [ inl e ↦ inl (ap Some e) | inr r ↦ inr r ]

among_cons : {Y : Type 0} (found : Option Y) (ys : List Y) (y : Y) → Among y ys → Among y (cons_option found ys)
among_cons None ys y h = h
among_cons (Some z) ys y h = inr h

pub among_found : {X Y : Type 0} (h : X → Option Y) (xs : List X) (x : X) (y : Y) → Among x xs → h x ≡ Some y → Among y (filter_map h xs)
among_found h [] x y at is = absurd at
among_found h (z ∷ zs) x y at is = elim at [
  | inl e ↦ subst (λ found. Among y (cons_option found (filter_map h zs))) (sym (ap h e ∙ is)) (inl refl)
  | inr r ↦ among_cons (h z) (filter_map h zs) y (among_found h zs x y r is)
]

pub from_found : {X Y : Type 0} (h : X → Option Y) (xs : List X) (y : Y) → Among y (filter_map h xs) → (x : X) × Among x xs × (h x ≡ Some y)
from_found h [] y at = absurd at
from_found h (z ∷ zs) y at = elim (from_cons (h z) (filter_map h zs) y at) [
  | inl is ↦ (z, inl refl, is)
  | inr r ↦ let rest = from_found h zs y r in (rest.0, inr rest.1, rest.2)
]

-- ---- items that pass

pub among_kept : {X : Type 0} (p : X → Bool) (xs : List X) (x : X) → Among x xs → p x ≡ true → Among x (filter p xs)
among_kept p [] x h t = absurd h
among_kept p (y ∷ ys) x h t =
    elim (p y) as (λ b. p y ≡ b → Among x (cond b (y ∷ filter p ys) (filter p ys))) [
      | true ↦ λ e. elim h [ inl is ↦ inl is | inr rest ↦ inr (among_kept p ys x rest t) ]
      | false ↦ λ e. elim h [ inl is ↦ absurd (let no : false ≡ true = sym e ∙ ap p is ∙ t in cc no) | inr rest ↦ among_kept p ys x rest t ]
    ] refl

pub from_kept : {X : Type 0} (p : X → Bool) (xs : List X) (x : X) → Among x (filter p xs) → Among x xs × (p x ≡ true)
from_kept p [] x h = absurd h
from_kept p (y ∷ ys) x h =
    elim (p y) as (λ b. p y ≡ b → Among x (cond b (y ∷ filter p ys) (filter p ys)) → Among x (y ∷ ys) × (p x ≡ true)) [
      | true ↦ λ t h. elim h [ inl is ↦ (inl is, ap p (sym is) ∙ t) | inr rest ↦ let k = from_kept p ys x rest in (inr k.0, k.1) ]
      | false ↦ λ t h. let k = from_kept p ys x h in (inr k.0, k.1)
    ] refl h
