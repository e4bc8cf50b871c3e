use Rattle.std.proofs.Common.{◌≡◌, List, ℕ, take}
use Rattle.std.specs.List.{filter_map}
use Rattle.view_types.specs.declared.authn.IdSpec.{IdSpec}
use Rattle.view_types.specs.declared.config.Config.{Config}
use Rattle.view_rules.specs.Policies.{identity_in, suffix_in}
use Rattle.policy_rows.proofs.clients.clients_shown.Given as goal

pub record AreGiven (config : Config) (ids : List IdSpec) (names endings : List (List ℕ)) : Type 0 where
  pub identities : names ≡ filter_map (identity_in config) ids
  pub suffixes : endings ≡ filter_map (suffix_in config) ids

-- what the clients so far give
abbrev pub invariant-loop-id : goal.invariant-loop-id
invariant-loop-id l = AreGiven l.config (take l.id-index l.ids) l.identities.items l.suffixes.items
