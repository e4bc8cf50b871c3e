-- Views that are kept in three parts: profiles, ports of Pods, outbound policies.
use Rattle.std.specs.Prelude.{◌≡◌, ℕ, Option, Some, None}
use Rattle.std.specs.Coded.{codes}
use Rattle.std.specs.Option.{option_or}
use Rattle.view_types.specs.contracts.query.Query as the_query
use Rattle.view_types.specs.declared.query.Query.{Query}

-- the first of three values that is there
abbrev pub first_of : {X : Type 0} → Option X → Option X → Option X → Option X
first_of first second third = option_or first (option_or second third)

-- no id is open in both
abbrev pub AreApart : (ℕ → Option Query) → (ℕ → Option Query) → Type 0
AreApart asked others = (id : ℕ) (query : Query) → asked id ≡ Some query → others id ≡ None

-- Each part is in order, and an id is open in at most one of them.
pub record PartsStand (Profiles Ports Outbound : Type 0) (of_profiles of_ports of_outbound : ℕ → Option Query) : Type 0 where
  pub profiles : Profiles
  pub ports : Ports
  pub outbound : Outbound
  pub profiles_apart : AreApart of_profiles (λ id. option_or (of_ports id) (of_outbound id))
  pub ports_apart : AreApart of_ports of_outbound

pub PartsStand-prop : {Profiles Ports Outbound : Type 0} {of_profiles of_ports of_outbound : ℕ → Option Query} → IsProp Profiles → IsProp Ports → IsProp Outbound → IsProp (PartsStand Profiles Ports Outbound of_profiles of_ports of_outbound)
PartsStand-prop first second third = hlevel (first, second, third, codes, the_query.the_row.coded)
