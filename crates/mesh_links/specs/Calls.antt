-- The trace of calls on links, the links open after it, and the numbers of new links.
use Rattle.std.specs.Prelude.{◌≡◌, ◌<◌, ℕ, ◌==◌, Bool, false, ◌||◌, List, [], ◌∷◌, ◌++◌, Option, Some, None, Result, Ok, Err, if◌then◌else◌, max, take}
use Rattle.mesh_links.specs.declared.call.LinkCall.{LinkCall}
use Rattle.mesh_links.specs.declared.call.LinkCall.TheVariants as calls
use Rattle.mesh_links.specs.declared.call.LinkEvent.{LinkEvent}
use Rattle.mesh_links.specs.declared.call.LinkEvent.TheVariants as events
use Rattle.mesh_links.specs.declared.call.ReadGot.TheVariants as reads
use Rattle.mesh_links.specs.declared.call.WriteGot.TheVariants as writes
use Rattle.mesh_links.specs.declared.links.LinkFault.{LinkFault}
use Rattle.mesh_links.specs.declared.links.LinkFault.TheVariants as faults
use Rattle.mesh_links.specs.declared.links.PollFault.{PollFault}
use Rattle.mesh_links.specs.declared.links.PollFault.TheVariants as polls

-- the trace after a call; a call that returns Memory isn't recorded
abbrev pub with_call : List LinkCall → Option LinkCall → List LinkCall
with_call trace None = trace
with_call trace (Some call) = trace ++ call ∷ []

-- if the trace was specified before the call, it is specified after it, with the call
abbrev pub Continues : Option (List LinkCall) → Option (List LinkCall) → (List LinkCall → Option LinkCall) → Type 0
Continues old new made = (trace : List LinkCall) → old ≡ Some trace → new ≡ Some (with_call trace (made trace))

-- ---- the call that was made, by its result

abbrev pub poll_made : Bool → Result (List LinkEvent) PollFault → Option LinkCall
poll_made wait (Ok shown) = Some (calls.Poll wait (Some shown))
poll_made wait (Err polls.Failed) = Some (calls.Poll wait None)
poll_made wait (Err polls.Memory) = None

-- a read into a buffer of `room` bytes, which holds `buf` after it
abbrev pub read_made : ℕ → ℕ → Result ℕ LinkFault → List ℕ → Option LinkCall
read_made link room (Ok n) buf = Some (calls.Read link room (reads.Bytes (take n buf)))
read_made link room (Err faults.Pending) buf = Some (calls.Read link room reads.Pending)
read_made link room (Err faults.Failed) buf = Some (calls.Read link room reads.Failed)
read_made link room (Err faults.Memory) buf = None

abbrev pub write_made : ℕ → List ℕ → Result ℕ LinkFault → Option LinkCall
write_made link piece (Ok n) = Some (calls.Write link piece (writes.Took n))
write_made link piece (Err faults.Pending) = Some (calls.Write link piece writes.Pending)
write_made link piece (Err faults.Failed) = Some (calls.Write link piece writes.Failed)
write_made link piece (Err faults.Memory) = None

-- ---- which links are open

abbrev pub is_open_after_events : ℕ → Bool → List LinkEvent → Bool
is_open_after_events link is_open [] = is_open
is_open_after_events link is_open (events.New n ∷ more) = is_open_after_events link (is_open || (n == link)) more
is_open_after_events link is_open (events.Readable n ∷ more) = is_open_after_events link is_open more
is_open_after_events link is_open (events.Writable n ∷ more) = is_open_after_events link is_open more

abbrev pub is_open_after : ℕ → Bool → List LinkCall → Bool
is_open_after link is_open [] = is_open
is_open_after link is_open (calls.Poll wait None ∷ more) = is_open_after link is_open more
is_open_after link is_open (calls.Poll wait (Some shown) ∷ more) = is_open_after link (is_open_after_events link is_open shown) more
is_open_after link is_open (calls.Read n room got ∷ more) = is_open_after link is_open more
is_open_after link is_open (calls.Write n piece got ∷ more) = is_open_after link is_open more
is_open_after link is_open (calls.Close n ∷ more) = is_open_after link (if n == link then false else is_open) more

-- a poll has returned the link as New, and no close followed
abbrev pub is_open_in : List LinkCall → ℕ → Bool
is_open_in trace link = is_open_after link false trace

-- a close of a link that isn't open does nothing, and isn't recorded
abbrev pub close_made : List LinkCall → ℕ → Option LinkCall
close_made trace link = if is_open_in trace link then Some (calls.Close link) else None

-- ---- numbers of new links

abbrev pub last_of_events : ℕ → List LinkEvent → ℕ
last_of_events last [] = last
last_of_events last (events.New n ∷ more) = last_of_events (max last n) more
last_of_events last (events.Readable n ∷ more) = last_of_events last more
last_of_events last (events.Writable n ∷ more) = last_of_events last more

abbrev pub last_after : ℕ → List LinkCall → ℕ
last_after last [] = last
last_after last (calls.Poll wait None ∷ more) = last_after last more
last_after last (calls.Poll wait (Some shown) ∷ more) = last_after (last_of_events last shown) more
last_after last (calls.Read n room got ∷ more) = last_after last more
last_after last (calls.Write n piece got ∷ more) = last_after last more
last_after last (calls.Close n ∷ more) = last_after last more

-- the greatest number of a link that was returned as New, or 0
abbrev pub last_in : List LinkCall → ℕ
last_in trace = last_after 0 trace

abbrev pub AreAbove : ℕ → List LinkEvent → Type 0
AreAbove last [] = Unit {0}
AreAbove last (events.New n ∷ more) = (last < n) × AreAbove n more
AreAbove last (events.Readable n ∷ more) = AreAbove last more
AreAbove last (events.Writable n ∷ more) = AreAbove last more

-- each link returned as New has a number above those of all earlier ones
abbrev pub AreNew : List LinkCall → List LinkEvent → Type 0
AreNew trace shown = AreAbove (last_in trace) shown
