-- The greatest accepted id.
use Rattle.std.specs.Prelude.{◌≡◌, nat_lt, ℕ, Bool, true, false, List, Option, Some, None}
use Rattle.std.specs.List.{list_any}
use Rattle.subscriptions.specs.Live.{LiveSubscription, id_of}

-- the id is above it, or no id was accepted
abbrev pub is_over : Option ℕ → ℕ → Bool
is_over None id = true
is_over (Some last) id = nat_lt last id

-- no live id is above it
abbrev pub AreUpTo : Option ℕ → List LiveSubscription → Type 0
AreUpTo last subs = list_any (λ sub. is_over last (id_of sub)) subs ≡ false
