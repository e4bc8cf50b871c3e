-- Groups by their numbers: how many members each has, what they were last shown, and the kept encoding of their messages.
use Rattle.std.specs.Prelude.{◌≡◌, ◌+◌, ◌-◌, ◌<◌, ◌==◌, ◌&&◌, ⊤, ℕ, Bool, true, false, nat_eq, nat_lt, not, List, get_or, Option, Some, None, is_none, if◌then◌else◌}
use Rattle.view_diff.specs.Earlier.{Stood, earlier_rows}
use Rattle.view_types.specs.declared.endpoint.EndpointView.{EndpointView}
use Rattle.pending_rows.specs.Pending.{is_up_to_date, last_view, pending_of, with_notes}
use Rattle.pending_rows.specs.declared.rows.PendingRows.{PendingRows}
use Rattle.endpoint_groups.specs.declared.group.Group.{Group}

-- the endpoints that were last shown, given the current ones
abbrev pub last_view_of : Option PendingRows → EndpointView → Option EndpointView
last_view_of None now = None
last_view_of (Some pending) now = Some (last_view pending.exists pending.pending.items now)

-- the current rows were shown, and whether the Service exists
abbrev pub has_told_all : Bool → Option PendingRows → Bool
has_told_all exists None = false
has_told_all exists (Some pending) = is_up_to_date exists pending.exists pending.pending.items

-- The addresses were noted, if anything was shown before.
abbrev pub Notes : List Stood → Option PendingRows → Option PendingRows → Type 0
Notes before None None = ⊤
Notes before None (Some new) = ⊥
Notes before (Some old) None = ⊥
Notes before (Some old) (Some new) = (new.exists ≡ old.exists) × (pending_of new.pending.items ≡ with_notes before (pending_of old.pending.items))

abbrev pub one_if : Bool → ℕ
one_if b = if b then 1 else 0

module _ {F : Type 0} where
  -- ---- a group

  -- a group without members
  abbrev pub vacant : Group F
  vacant = record { pending = None; members = 0; encoding = None }

  -- its members were shown nothing yet
  abbrev pub is_untold : Group F → Bool
  is_untold group = is_none group.pending

  -- it has members, which were shown the current endpoints
  abbrev pub is_current : Bool → Group F → Bool
  is_current exists group = not (group.members == 0) && has_told_all exists group.pending

  abbrev pub one_more : Group F → Group F
  one_more group = record group { members = group.members + 1 }

  -- The group is removed with its last member. The encoding for new subscribers stays, for later ones.
  abbrev pub no_members : Group F → Group F
  no_members group = if is_untold group then record group { members = 0 } else vacant

  abbrev pub one_less : Group F → Group F
  one_less group = if nat_lt 1 group.members then record group { members = group.members - 1 } else no_members group

  -- only a group with members keeps an encoding
  abbrev pub with_encoding : F → Group F → Group F
  with_encoding encoding group = if nat_lt 0 group.members then record group { encoding = Some encoding } else group

  -- ---- groups by their numbers

  abbrev pub group_at : List (Group F) → ℕ → Group F
  group_at groups n = get_or groups n vacant

  abbrev pub members_at : List (Group F) → ℕ → ℕ
  members_at groups n = (group_at groups n).members

  abbrev pub encoding_at : List (Group F) → ℕ → Option F
  encoding_at groups n = (group_at groups n).encoding

  -- what the members of a group were last shown, given the current endpoints
  abbrev pub shown_at : List (Group F) → ℕ → EndpointView → Option EndpointView
  shown_at groups n now = last_view_of (group_at groups n).pending now

  -- the number, if the members of its group were shown the current endpoints
  abbrev pub current_group : Bool → ℕ → List (Group F) → Option ℕ
  current_group exists n groups = if is_current exists (group_at groups n) then Some n else None

  -- ---- changes

  abbrev pub Same : List (Group F) → List (Group F) → Type 0
  Same old new = (n : ℕ) → group_at new n ≡ group_at old n

  -- the group with this number changes by the function, and all others stay
  abbrev pub SetsAt : ℕ → (Group F → Group F) → List (Group F) → List (Group F) → Type 0
  SetsAt number becomes old new = (n : ℕ) → group_at new n ≡ (if nat_eq n number then becomes (group_at old n) else group_at old n)

  -- The rows have changed at these addresses: given the new rows, each group was last shown what it was, given the old ones.
  abbrev pub KeepsShown : List Stood → List (Group F) → List (Group F) → Type 0
  KeepsShown before old new = (now was : EndpointView) → earlier_rows before now.rows ≡ was.rows → (n : ℕ) → shown_at new n now ≡ shown_at old n was

  -- the group has no members, and is not the one of new subscribers
  pub record IsFree (groups : List (Group F)) (place : ℕ) : Type 0 where
    pub later : 0 < place
    pub members : members_at groups place ≡ 0

  -- A new group with one member, which was shown the current endpoints, takes a free place.
  pub record Opens (exists : Bool) (to : ℕ) (old new : List (Group F)) : Type 0 where
    pub free : IsFree old to
    pub current : is_current exists (group_at new to) ≡ true
    pub one : members_at new to ≡ 1
    pub unencoded : encoding_at new to ≡ None
    pub others : (n : ℕ) → nat_eq n to ≡ false → group_at new n ≡ group_at old n

  -- A member is added to the current group, if there is one, or else to a new group.
  abbrev pub EntersIf : Bool → Bool → ℕ → ℕ → List (Group F) → List (Group F) → Type 0
  EntersIf true exists current to old new = (to ≡ current) × SetsAt to one_more old new
  EntersIf false exists current to old new = Opens exists to old new

  -- A member is added to a group of those that were shown the current endpoints.
  abbrev pub Enters : Bool → ℕ → ℕ → List (Group F) → List (Group F) → Type 0
  Enters exists current to old new = EntersIf (is_current exists (group_at old current)) exists current to old new

  -- A member moves from one group to another, or stays. What the other members were shown, and their encodings, stay.
  pub record Moves (number to : ℕ) (old new : List (Group F)) : Type 0 where
    pub members : (n : ℕ) → members_at new n + one_if (nat_eq n number) ≡ members_at old n + one_if (nat_eq n to)
    pub stays : (n : ℕ) → 0 < members_at old n → 0 < members_at new n → ((group_at new n).pending ≡ (group_at old n).pending) × (encoding_at new n ≡ encoding_at old n)
