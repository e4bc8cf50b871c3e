-- The change of a value that contracts may or may not know.
use Rattle.std.specs.Prelude.{◌≡◌, List, ◌++◌, Some, None}
use Rattle.std.specs.declared.option.Option.{Option}

-- a known value stays known, and its old and new values are related
abbrev pub Becomes : {S : Type 0} → Option S → Option S → (S → S → Type 0) → Type 0
Becomes None new R = Unit {0}
Becomes (Some old) None R = ⊥
Becomes (Some old) (Some new) R = R old new

-- a known list is extended by these items
abbrev pub Grows : {A : Type 0} → Option (List A) → Option (List A) → List A → Type 0
Grows old new added = Becomes old new (λ xs ys. ys ≡ xs ++ added)

-- a list is extended by any items
pub record Extends {A : Type 0} (old new : List A) : Type 0 where
  pub added : List A
  pub adds : new ≡ old ++ added

-- a weaker relation holds, too
pub Becomes-weaker : {S : Type 0} (a b : Option S) (R Q : S → S → Type 0) → ((x y : S) → R x y → Q x y) → Becomes a b R → Becomes a b Q
Becomes-weaker None b R Q weaker holds = tt
Becomes-weaker (Some x) None R Q weaker holds = holds
Becomes-weaker (Some x) (Some y) R Q weaker holds = weaker x y holds
