-- The members that matches of every kind have.
use Rattle.std.specs.Prelude.{◌++◌, List, [], ◌∷◌, Option, Some, None, Result, Ok, Err, option_map, option_to_list}
use Rattle.serde_json.specs.Data.{Items, no_items, item}
use Rattle.serde_json.specs.Find.{as_array}
use Rattle.k8s_meta.specs.Lists.{each}
use Rattle.k8s_meta.specs.Spots.{Reading, Spot, ◌·◌, ◌>>=◌, item_spot}
use Rattle.k8s_meta.specs.Words.{object, optional, valid}
use Rattle.k8s_meta.specs.declared.fault.What.TheVariants as what
use Rattle.k8s_meta.specs.declared.fault.ReadFault.{ReadFault}
use Rattle.k8s_meta.specs.declared.fault.ReadFault.TheVariants as faults
use Rattle.k8s_meta.specs.declared.key.Key.TheVariants as keys
use Rattle.profile_objects.specs.Nested.{Form, nested}

-- A kind of match: the match of all of some matches, the match of any of some, and the match of
-- what does not match; and the matches of its own members.
pub record MatchKind (M : Type 0) : Type 0 where
  pub all : List M → M
  pub any : List M → M
  pub negated : M → M
  pub own : Reading (List M)

-- one part as it is, and several as a match of all of them
abbrev pub joined : {M : Type 0} → (List M → M) → List M → Option M
joined all [] = None
joined all (part ∷ []) = Some part
joined all (first ∷ second ∷ more) = Some (all (first ∷ second ∷ more))

-- the parts in the order of the members
abbrev pub parts : {M : Type 0} → MatchKind M → List M → Option (List M) → Option (List M) → Option M → List M
parts kind own all any negated = own ++ option_to_list (option_map kind.all all) ++ option_to_list (option_map kind.any any) ++ option_to_list (option_map kind.negated negated)

abbrev pub only_of : Spot → Option Items → Result Spot ReadFault
only_of s None = Ok s
only_of s (Some no_items) = Err (faults.BadValue s.at what.Shape)
only_of s (Some (item d no_items)) = Ok (item_spot s.at 0 d)
only_of s (Some (item d (item e ds))) = Err (faults.BadValue s.at what.Shape)

-- the place of the negated match: here, or the item of a list of one
unfoldable pub only : Spot → Result Spot ReadFault
only s = only_of s (as_array s.value)

-- the negated match
abbrev pub negation : {M : Type 0} → Reading M → Reading M
negation inner m = only m >>= inner

-- the members of a match, first those of its kind
unfoldable pub match_by : {M : Type 0} → MatchKind M → Form M
match_by kind inner s = do
  s ← object s
  own ← kind.own s
  all ← optional (each inner) (s · keys.All)
  any ← optional (each inner) (s · keys.Any)
  negated ← optional (negation inner) (s · keys.Not)
  valid s.at what.Shape (joined kind.all (parts kind own all any negated))

-- a match, whose inner matches are of the same kind
abbrev pub match_of : {M : Type 0} → MatchKind M → Reading M
match_of kind = nested (match_by kind)
