-- Sets of numbers.
use Rattle.std.specs.Prelude.{◌≡◌, ◌≤◌, ◌<◌, ℕ, Bool, true, false, Option, Some, None}

-- the least number from this one on that passes the test
abbrev pub IsFirstFrom : (ℕ → Bool) → ℕ → Option ℕ → Type 0
IsFirstFrom test from None = (n : ℕ) → from ≤ n → test n ≡ false
IsFirstFrom test from (Some first) = (from ≤ first) × (test first ≡ true) × ((n : ℕ) → from ≤ n → n < first → test n ≡ false)

-- some number that passes the test, if there is one
abbrev pub IsOneOf : (ℕ → Bool) → Option ℕ → Type 0
IsOneOf test None = (n : ℕ) → test n ≡ false
IsOneOf test (Some one) = test one ≡ true

-- whether some number passes the test
abbrev pub IsAnyOf : (ℕ → Bool) → Bool → Type 0
IsAnyOf test true = (n : ℕ) × (test n ≡ true)
IsAnyOf test false = (n : ℕ) → test n ≡ false
