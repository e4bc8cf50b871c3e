-- The counts of links that play a script.
use Rattle.std.specs.Prelude.{ℕ, Bool, true, false}
use Rattle.mesh_links.specs.Counts.{Counts}
use Rattle.mesh_links.specs.declared.links.LinkFault.{LinkFault}
use Rattle.mesh_links.specs.declared.links.LinkFault.TheVariants as faults

-- one count of failed polls, and one each of the failures and the results `Pending` of all links
abbrev pub counts_of : ℕ → ℕ → ℕ → Counts
counts_of polls faults pendings = record { polls = polls; faults = λ link. faults; pendings = λ link. pendings }

abbrev pub is_failed : LinkFault → Bool
is_failed faults.Failed = true
is_failed faults.Pending = false
is_failed faults.Memory = false

abbrev pub is_pending : LinkFault → Bool
is_pending faults.Failed = false
is_pending faults.Pending = true
is_pending faults.Memory = false
