-- Which subscriptions are due, and how calls change this.
use Rattle.std.specs.Prelude.{◌≡◌, ◌&&◌, ◌||◌, not, nat_eq, ℕ, Bool, true, false, List, [], Option, Result, Ok, Err, IfSome}
use Rattle.feed_history.specs.declared.refusal.HubFault.{HubFault}
use Rattle.feed_history.specs.declared.refusal.HubFault.TheVariants.{Memory}
use Rattle.subscriptions.specs.DueIds.{is_among}
use Rattle.mesh_hub.specs.Hub.{HubState, is_live, state_of}
use Rattle.mesh_hub.specs.declared.hub.Hub.{Hub}

-- ---- changes, given which ids were due and which are

-- the same ids are due, unless memory ran out
abbrev pub StayUnlessSpent : Option HubState → (ℕ → Bool) → (ℕ → Bool) → Type 0
StayUnlessSpent new was now = IfSome new (λ state. state.spent ≡ false → (id : ℕ) → now id ≡ was id)

-- the ids that pass the test become due, and the others stay as they were
abbrev pub BecomeDue : (ℕ → Bool) → (ℕ → Bool) → (ℕ → Bool) → Type 0
BecomeDue test was now = (id : ℕ) → now id ≡ (test id || was id)

-- if the call is accepted, the ids that pass the test become due; a refusal changes nothing
abbrev pub BecomeDueIfOk : (ℕ → Bool) → Result (Unit {0}) HubFault → (ℕ → Bool) → (ℕ → Bool) → Type 0
BecomeDueIfOk test (Ok done) was now = BecomeDue test was now
BecomeDueIfOk test (Err Memory) was now = Unit {0}
BecomeDueIfOk test (Err _) was now = (id : ℕ) → now id ≡ was id

-- this id is no longer due, and the others stay as they were
abbrev pub Leaves : ℕ → (ℕ → Bool) → (ℕ → Bool) → Type 0
Leaves gone was now = (id : ℕ) → now id ≡ (not (nat_eq id gone) && was id)

abbrev pub LeavesUnlessMemory : {T : Type 0} → ℕ → Result T HubFault → (ℕ → Bool) → (ℕ → Bool) → Type 0
LeavesUnlessMemory gone (Err Memory) was now = Unit {0}
LeavesUnlessMemory gone _ was now = Leaves gone was now

-- a drain of a live id that is not due sends nothing and changes nothing, whatever memory there is
abbrev pub Idles : {S : Type 0} → ℕ → HubState → (ℕ → Bool) → Result (List (List ℕ)) HubFault → S → S → Type 0
Idles id state due result old new = state.spent ≡ false → is_live id state.subs ≡ true → due id ≡ false → (result ≡ Ok []) × (new ≡ old)

-- ---- the same of a hub

-- the id is due; once memory ran out, none is
abbrev pub is_due : Hub → ℕ → Bool
is_due hub id = not hub.spent && is_among id hub.subscribers.live.due

abbrev pub StaysDue : Hub → Hub → Type 0
StaysDue old new = new.spent ≡ false → (id : ℕ) → is_due new id ≡ is_due old id

abbrev pub AlsoDue : (ℕ → Bool) → Hub → Hub → Type 0
AlsoDue test old new = BecomeDue test (is_due old) (is_due new)

abbrev pub StaysDueOr : (ℕ → Bool) → Result (Unit {0}) HubFault → Hub → Hub → Type 0
StaysDueOr test result old new = BecomeDueIfOk test result (is_due old) (is_due new)

abbrev pub Undue : ℕ → Hub → Hub → Type 0
Undue gone old new = Leaves gone (is_due old) (is_due new)

abbrev pub IsUndueUnlessMemory : {T : Type 0} → ℕ → Result T HubFault → Hub → Hub → Type 0
IsUndueUnlessMemory gone result old new = LeavesUnlessMemory gone result (is_due old) (is_due new)

abbrev pub IdlesUnlessDue : ℕ → Hub → Result (List (List ℕ)) HubFault → Hub → Type 0
IdlesUnlessDue id old result new = Idles id (state_of old) (is_due old) result old new
