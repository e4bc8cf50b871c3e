-- What holds of each value that a word of the tables gives, from what holds of those that it is made of.
use Rattle.std.proofs.Common.{◌≡◌, ℕ, Bool, true, false, List, Option, Some, None, Result, Ok, Err, IfOk, if◌then◌else◌, refl, ap, subst}
use Rattle.k8s_meta.specs.Given.{GivesOnly}
use Rattle.k8s_meta.specs.Spots.{Reading, Reads, Spot, ◌>>=◌, is_absent, then}
use Rattle.k8s_meta.specs.Words.{choice, default, filled, optional, required, some, unless, valid}
use Rattle.k8s_meta.specs.declared.fault.ReadFault.{ReadFault}
use Rattle.k8s_meta.specs.declared.fault.ReadFault.TheVariants as faults
use Rattle.k8s_meta.specs.declared.fault.What.{What}

-- What gave a value has read something first.
pub first_step : {A B : Type 0} (r : Result A ReadFault) (f : A → Result B ReadFault) (y : B) → (r >>= f) ≡ Ok y → (x : A) × (r ≡ Ok x) × (f x ≡ Ok y)
unfolding then
first_step (Ok x) f y e = (x, refl, e)
first_step (Err w) f y e = absurd cc

-- the same, to be followed member by member
pub after : {A B : Type 0} (P : B → Type 0) (r : Result A ReadFault) (f : A → Result B ReadFault) → ((x : A) → r ≡ Ok x → (y : B) → f x ≡ Ok y → P y) → (y : B) → (r >>= f) ≡ Ok y → P y
unfolding then
after P (Ok x) f go y e = go x refl y e
after P (Err w) f go y e = absurd cc

abbrev pub given : {A : Type 0} → A → Result A ReadFault
given x = Ok x

-- and the value that a table ends in
pub last : {A : Type 0} (P : A → Type 0) (x : A) → P x → (y : A) → given x ≡ given y → P y
last P x p y e = let same : x ≡ y = cc in subst P same p

pub same_value : {A : Type 0} (x y : A) → given x ≡ given y → x ≡ y
same_value x y e = cc

-- What a reader returned has what its table gives only.
pub has_read : {A : Type 0} (P : A → Type 0) (read : Reading A) → GivesOnly P read → (s : Spot) (r : Result A ReadFault) → Reads r (read s) → IfOk r P
has_read P read gives s (Ok x) e = gives s x e
has_read P read gives s (Err w) e = tt

pub weaker : {A : Type 0} (P Q : A → Type 0) (read : Reading A) → ((x : A) → P x → Q x) → GivesOnly P read → GivesOnly Q read
weaker P Q read less gives s x e = less x (gives s x e)

pub valid_value : {A : Type 0} (at : List ℕ) (fault : What) (o : Option A) (x : A) → valid at fault o ≡ Ok x → o ≡ Some x
valid_value at fault None x e = absurd cc
valid_value at fault (Some y) x e = ap Some (same_value y x e)

-- ---- there or not

either : {A : Type 0} (P : A → Type 0) (b : Bool) (x y : A) (r : Result A ReadFault) → P x → (r ≡ Ok y → P y) → (if b then Ok x else r) ≡ Ok y → P y
either P true x y r here there e = subst P (same_value x y e) here
either P false x y r here there e = there e

module _ {A : Type 0} (P : A → Type 0) where
  pub default_gives : (x : A) (read : Reading A) → P x → GivesOnly P read → GivesOnly P (default x read)
  unfolding default
  default_gives x read here there s y e = either P (is_absent s) x y (read s) here (there s y) e

  pub unless_gives : (blank : List ℕ → Bool) (x : A) (read : Reading A) → P x → GivesOnly P read → GivesOnly P (unless blank x read)
  unfolding unless
  unless_gives blank x read here there s = after P _ _ (λ t _ y e. either P (blank t) x y (read s) here (there s y) e)

  pub required_gives : (read : Reading A) → GivesOnly P read → GivesOnly P (required read)
  unfolding required
  required_gives read there s y e = cases (is_absent s) e
    where
      cases : (b : Bool) → (if b then Err (faults.Missing s.at) else read s) ≡ Ok y → P y
      cases true e = absurd cc
      cases false e = there s y e

  pub choice_gives : (table : List ℕ → Option A) → ((t : List ℕ) (x : A) → table t ≡ Some x → P x) → GivesOnly P (choice table)
  unfolding choice
  choice_gives table each s = after P _ _ (λ t _ x e. each t x (valid_value _ _ (table t) x e))

module _ {A : Type 0} (P : Option A → Type 0) (read : Reading A) (none : P None) (there : GivesOnly (λ (x : A). P (Some x)) read) where
  pub some_gives : GivesOnly P (some read)
  some_gives s = after P _ _ (λ x is. last P (Some x) (there s x is))

  pub optional_gives : GivesOnly P (optional read)
  unfolding optional
  optional_gives = default_gives P None (some read) none some_gives

  pub filled_gives : GivesOnly P (filled read)
  unfolding filled
  filled_gives s = unless_gives P _ None (some read) none some_gives s
