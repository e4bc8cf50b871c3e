-- The addresses that have changed since they were shown.
use Rattle.std.specs.Prelude.{◌==◌, ◌&&◌, ℕ, Bool, true, List, [], ◌∷◌, Option, Some, None, if◌then◌else◌, is_some, length}
use lib.Dec.{T}
use Rattle.std.specs.FinMap.{FinMap, get, insert}
use Rattle.std.specs.Bool.{beq}
use Rattle.std.specs.List.{list_all}
use Rattle.mesh_base.specs.Keyed.{IsKeyed, keyed_map}
use Rattle.net_cidr.specs.declared.ip.Ip.{Ip}
use Rattle.view_diff.specs.Earlier.{Stood, address, earlier_endpoints}
use Rattle.view_rules.specs.Batch.{same_pair}
use Rattle.view_rules.specs.Endpoints.{pair_cmp, pair_of}
use Rattle.view_types.specs.declared.endpoint.EndpointRow.{EndpointRow}
use Rattle.view_types.specs.declared.endpoint.EndpointView.{EndpointView}

-- addresses, each with the row that was shown there
abbrev pub Pending : Type 0
Pending = FinMap pair_cmp Stood

abbrev pub pending_of : List Stood → Pending
pending_of stood = keyed_map pair_cmp address (λ s. s) stood

-- with one more address, unless it is noted already
abbrev pub note_one : Stood → Pending → Pending
note_one s pending = if is_some (get pending (address s)) then pending else insert pending (address s) s

-- with the addresses that are not noted yet, and the rows that were there
abbrev pub with_notes : List Stood → Pending → Pending
with_notes [] pending = pending
with_notes (s ∷ before) pending = with_notes before (note_one s pending)

-- ---- the form of pending addresses

-- the addresses are in strictly ascending order
abbrev pub AreKeyed : List Stood → Type 0
AreKeyed stood = IsKeyed pair_cmp address (λ s. s) stood

-- the row, if there is one, has this address
abbrev pub is_at : Ip × ℕ → Option EndpointRow → Bool
is_at pair None = true
is_at pair (Some row) = same_pair (pair_of row) pair

abbrev pub IsOwn : Stood → Type 0
IsOwn s = T (is_at (address s) s.2)

-- each row has its own address
abbrev pub AreOwn : List Stood → Type 0
AreOwn stood = T (list_all (λ s. is_at (address s) s.2) stood)

-- ---- what was shown

-- the endpoints that were last shown: the noted addresses as they were shown, and all others as they are now
abbrev pub last_view : Bool → List Stood → EndpointView → EndpointView
last_view exists pending now = earlier_endpoints exists pending now

-- the current rows were shown, and whether the Service exists
abbrev pub is_up_to_date : Bool → Bool → List Stood → Bool
is_up_to_date exists existed pending = beq existed exists && (length pending == 0)
