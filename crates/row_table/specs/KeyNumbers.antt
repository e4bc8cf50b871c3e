-- The number and the users of each key.
pub use Rattle.mark_graph.specs.Puts.{PutsAt}
use Rattle.std.specs.Prelude.{◌≡◌, ◌+◌, ◌-◌, if◌then◌else◌, nat_lt, ℕ, Option, Some, None, option_map}
use Rattle.std.specs.HashMap as map
use Rattle.std.specs.Ordering.{eq_by_cmp}
use Rattle.std.specs.declared.cmp.Ordering.{Ordering}
use Rattle.row_table.specs.declared.key_numbers.KeyNumbers.{KeyNumbers}
use Rattle.row_table.specs.declared.key_numbers.UsedKey.{UsedKey}

-- the number of users, which is zero without a key
abbrev pub users_in : Option UsedKey → ℕ
users_in None = 0
users_in (Some u) = u.users

abbrev pub number_in : Option UsedKey → Option ℕ
number_in used = option_map (λ u. u.number) used

-- the key with one user more
abbrev pub one_more : UsedKey → UsedKey
one_more u = record u { users = u.users + 1 }

-- the key with one user fewer, and no key without users
abbrev pub one_less : Option UsedKey → Option UsedKey
one_less None = None
one_less (Some u) = if nat_lt 1 u.users then Some (record u { users = u.users - 1 }) else None

-- one user is removed, unless it is the last one of the key, which has this number
abbrev pub TakesOne : UsedKey → Option ℕ → UsedKey → Type 0
TakesOne old None new = (one_less (Some old) ≡ Some new) × (new.number ≡ old.number)
TakesOne old (Some n) new = (new ≡ old) × (n ≡ old.number) × (one_less (Some old) ≡ None)

module _ {Key : Type 0} (cmp : Key → Key → Ordering) where
  -- the number and the users of a key that has users
  abbrev pub used_at : KeyNumbers Key → Key → Option UsedKey
  used_at used key = map.get (eq_by_cmp cmp) used.by_hash key

  -- the number of a key that has users
  abbrev pub number_at : KeyNumbers Key → Key → Option ℕ
  number_at used key = number_in (used_at used key)

  -- ---- the effects of its calls

  -- one user of the key is removed, unless it is the last one of the key with this number
  abbrev pub TakesUser : Key → KeyNumbers Key → Option ℕ → KeyNumbers Key → Type 0
  TakesUser key old None new = PutsAt cmp key (one_less (used_at old key)) (used_at old) (used_at new) × (number_in (one_less (used_at old key)) ≡ number_at old key)
  TakesUser key old (Some n) new = PutsAt cmp key (used_at old key) (used_at old) (used_at new) × (number_at old key ≡ Some n) × (one_less (used_at old key) ≡ None)
