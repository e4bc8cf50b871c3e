-- The results that are counted.
use Rattle.std.specs.Prelude.{ℕ, Bool, true, false, List, Result, Ok, Err}
use Rattle.mesh_links.specs.declared.call.LinkEvent.{LinkEvent}
use Rattle.mesh_links.specs.declared.links.LinkFault.{LinkFault}
use Rattle.mesh_links.specs.declared.links.LinkFault.TheVariants as faults
use Rattle.mesh_links.specs.declared.links.PollFault.{PollFault}
use Rattle.mesh_links.specs.declared.links.PollFault.TheVariants as polls
use Rattle.mesh_links.specs.Counts.{Counts}

-- a read or a write failed
abbrev pub is_failed : Result ℕ LinkFault → Bool
is_failed (Ok n) = false
is_failed (Err faults.Failed) = true
is_failed (Err faults.Pending) = false
is_failed (Err faults.Memory) = false

-- a read or a write returned Pending
abbrev pub is_pending : Result ℕ LinkFault → Bool
is_pending (Ok n) = false
is_pending (Err faults.Failed) = false
is_pending (Err faults.Pending) = true
is_pending (Err faults.Memory) = false

-- a poll failed
abbrev pub is_poll_failed : Result (List LinkEvent) PollFault → Bool
is_poll_failed (Ok shown) = false
is_poll_failed (Err polls.Failed) = true
is_poll_failed (Err polls.Memory) = false

-- all links have one count of failures, which includes those of polls, and one of results Pending
abbrev pub counts_of : ℕ → ℕ → Counts
counts_of failures pendings = record {
  polls = failures;
  faults = λ link. failures;
  pendings = λ link. pendings;
}
