-- The group of each id, and the number of ids in each group.
use Rattle.std.specs.Prelude.{◌≡◌, ◌+◌, ℕ, nat_eq, List, Option, Some, None, if◌then◌else◌, option_map}
use Rattle.std.specs.BTreeMap as tree
use Rattle.std.specs.BTreeMap.{BTreeMap}
use Rattle.std.specs.List.{sum_by}
use Rattle.std.specs.Option.{unwrap_or}
use Rattle.std.specs.Ordering.{nat_cmp}
use Rattle.view_types.specs.declared.endpoint.EndpointView.{EndpointView}
use Rattle.endpoint_groups.specs.declared.group.Group.{Group}
use Rattle.endpoint_groups.specs.Members.{encoding_at, members_at, one_if, shown_at}

-- the group of an id, if it has one
abbrev pub group_of : BTreeMap ℕ ℕ → ℕ → Option ℕ
group_of members id = tree.get nat_cmp members id

-- how many ids have the group
abbrev pub count_in : ℕ → BTreeMap ℕ ℕ → ℕ
count_in n members = sum_by (λ k. one_if (nat_eq n k)) (tree.values members)

-- 1 if it is the group, and otherwise 0
abbrev pub count_if : ℕ → Option ℕ → ℕ
count_if n number = unwrap_or (option_map (λ k. one_if (nat_eq n k)) number) 0

-- the group of the id becomes this one, or none; those of other ids stay
pub record SetsMember (id : ℕ) (number : Option ℕ) (old new : BTreeMap ℕ ℕ) : Type 0 where
  pub at : (n : ℕ) → group_of new n ≡ (if nat_eq n id then number else group_of old n)
  pub counts : (n : ℕ) → count_in n new + count_if n (group_of old id) ≡ count_in n old + count_if n number

module _ {F : Type 0} where
  -- the member count of each group is the number of ids that have it
  abbrev pub AreCounted : List (Group F) → BTreeMap ℕ ℕ → Type 0
  AreCounted groups members = (n : ℕ) → members_at groups n ≡ count_in n members

  -- what a group was last shown, given the current endpoints; without a group, nothing
  abbrev pub shown_in : List (Group F) → EndpointView → Option ℕ → Option EndpointView
  shown_in groups now None = None
  shown_in groups now (Some n) = shown_at groups n now

  -- the kept encoding of the messages of a group
  abbrev pub encoding_in : List (Group F) → Option ℕ → Option F
  encoding_in groups None = None
  encoding_in groups (Some n) = encoding_at groups n
