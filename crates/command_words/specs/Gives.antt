-- The result of a function that reads words.
use Rattle.std.specs.Prelude.{◌≡◌, ℕ, List, Option, Some, None, Result, Ok, Err, ⊤}
use Rattle.command_words.specs.declared.fault.WordsFault.{WordsFault}
use Rattle.command_words.specs.declared.fault.WordsFault.TheVariants.{Usage, Memory}

-- the value that is defined, or Usage if there is none; or memory ran out
abbrev pub Gives : {A : Type 0} → Result A WordsFault → Option A → Type 0
Gives (Ok x) found = found ≡ Some x
Gives (Err Usage) found = found ≡ None
Gives (Err Memory) found = ⊤

-- the second value, computed from the first, if both are there
unfoldable pub then : {A B : Type 0} → Option A → (A → Option B) → Option B
then (Some x) f = f x
then None f = None

infixl 10 ◌>>=◌
abbrev pub ◌>>=◌ : {A B : Type 0} → Option A → (A → Option B) → Option B
o >>= f = then o f

-- the value of a required string
abbrev pub needed : {A : Type 0} → (List ℕ → Option A) → Option (List ℕ) → Option A
needed value (Some text) = value text
needed value None = None

-- the value of an optional string, with a default
abbrev pub defaulted : {A : Type 0} → A → (List ℕ → Option A) → Option (List ℕ) → Option A
defaulted usual value (Some text) = value text
defaulted usual value None = Some usual
