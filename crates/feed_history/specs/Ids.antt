-- Which ids and subscriptions are refused, and how a subscription is replaced. The entries of a list
-- are of any type that has an id.
use Rattle.std.specs.Prelude.{◌≡◌, ◌<◌, ℕ, suc, List, [], ◌∷◌, ◌++◌, ◌==◌, nat_lt, if◌then◌else◌, Option, Some, None, find, length, take, drop, slice_index_or}
use Rattle.std.specs.List.{AllByRecursion}
use Rattle.feed_history.specs.declared.refusal.HubFault.{HubFault}
use Rattle.feed_history.specs.declared.refusal.HubFault.TheVariants.{TooManySubs, IdOrder, NoSuchId}

abbrev pub room_refusal : ℕ → ℕ → Option HubFault
room_refusal limit live = if live == limit then Some (TooManySubs live) else None

-- a subscription is refused if its id is not above the greatest accepted one, or else if the limit is reached
abbrev pub subscribe_refusal : ℕ → Option ℕ → ℕ → ℕ → Option HubFault
subscribe_refusal limit None live id = room_refusal limit live
subscribe_refusal limit (Some last) live id = if nat_lt last id then room_refusal limit live else Some (IdOrder last)

-- a refusal leaves the state as it was
abbrev pub unless_refused : {A S : Type 0} → Option A → S → S → S
unless_refused None before after = after
unless_refused (Some refusal) before after = before

-- an id under which nothing is live is refused
abbrev pub unknown_refusal : {S : Type 0} → ℕ → Option S → Option HubFault
unknown_refusal id (Some sub) = None
unknown_refusal id None = Some (NoSuchId id)

-- the entry under an id
abbrev pub at_id : {S : Type 0} → (S → ℕ) → ℕ → List S → Option S
at_id id_of id subs = find (λ sub. id_of sub == id) subs

-- the list, with the first entry under the id replaced by others
abbrev pub in_place : {S : Type 0} → (S → ℕ) → ℕ → (S → List S) → List S → List S
in_place id_of id f [] = []
in_place id_of id f (sub ∷ subs) = if id_of sub == id then f sub ++ subs else sub ∷ in_place id_of id f subs

-- an entry replaced by nothing
abbrev pub ended : {S : Type 0} → S → List S
ended sub = []

-- each id is below those that follow it
abbrev pub AscendBy : {S : Type 0} → (S → ℕ) → List S → Type 0
AscendBy id_of [] = Unit {0}
AscendBy id_of (sub ∷ subs) =
    AllByRecursion (λ later. id_of sub < id_of later) subs × AscendBy id_of subs

-- The entry under the id is at this index, and is replaced there.
pub record StandsAt {S : Type 0} (id_of : S → ℕ) (id : ℕ) (subs : List S) (at : ℕ) : Type 0 where
  pub sub : S
  pub found : at_id id_of id subs ≡ Some sub
  pub within : at < length subs
  pub read : (default : S) → slice_index_or subs at default ≡ sub
  pub giving : (f : S → List S) → in_place id_of id f subs ≡ take at subs ++ (f sub ++ drop (suc at) subs)
