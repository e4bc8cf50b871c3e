-- Counts of errors on links. An error is returned only if its count rose or is at its maximum.
use Rattle.std.specs.Prelude.{◌≡◌, ◌≤◌, ℕ, List, Result, IsErrOf}
use Rattle.mesh_outside.specs.Causes.{Rose}
use Rattle.mesh_links.specs.declared.call.LinkEvent.{LinkEvent}
use Rattle.mesh_links.specs.declared.links.LinkFault.{LinkFault}
use Rattle.mesh_links.specs.declared.links.LinkFault.TheVariants as faults
use Rattle.mesh_links.specs.declared.links.PollFault.{PollFault}
use Rattle.mesh_links.specs.declared.links.PollFault.TheVariants as polls

-- the number of failed polls, and for each link those of failed calls and of Pending results
pub record Counts : Type 0 where
  pub polls : ℕ
  pub faults : ℕ → ℕ
  pub pendings : ℕ → ℕ

pub record NoneFalls (old new : Counts) : Type 0 where
  pub polls : old.polls ≤ new.polls
  pub faults : (link : ℕ) → old.faults link ≤ new.faults link
  pub pendings : (link : ℕ) → old.pendings link ≤ new.pendings link

pub record KeptInPoll (old new : Counts) (result : Result (List LinkEvent) PollFault) : Type 0 where
  pub later : NoneFalls old new
  pub failed : IsErrOf result polls.Failed → Rose old.polls new.polls
  pub memory : IsErrOf result polls.Memory → new ≡ old

pub record KeptInCall (link : ℕ) (old new : Counts) (result : Result ℕ LinkFault) : Type 0 where
  pub later : NoneFalls old new
  pub failed : IsErrOf result faults.Failed → Rose (old.faults link) (new.faults link)
  pub pending : IsErrOf result faults.Pending → Rose (old.pendings link) (new.pendings link)
  pub memory : IsErrOf result faults.Memory → new ≡ old
