-- What a fault and its counts are for the trait.
use Rattle.std.proofs.Common.{◌≡◌, ◌≢◌, ℕ, ◌≤◌, Err, refl, arith}
use Rattle.mesh_outside.specs.Causes.{counted}
use Rattle.mesh_links.specs.Counts.{KeptInCall}
use Rattle.mesh_links.specs.declared.links.LinkFault.{LinkFault}
use Rattle.mesh_links.specs.declared.links.LinkFault.TheVariants as faults
use Rattle.mio_edge.specs.Answers.{counts_of, is_failed, is_pending}

-- A fault that is answered: failures and answers Pending alone are counted, and it isn't want of memory.
pub fault_kept : (link f p g q : ℕ) (fault : LinkFault) → g ≡ counted (is_failed (Err fault)) f → q ≡ counted (is_pending (Err fault)) p → (f ≤ g) × (p ≤ q) → fault ≢ faults.Memory → KeptInCall link (counts_of f p) (counts_of g q) (Err fault)
fault_kept link f p g q faults.Failed ef ep later none = record {
  later = record { polls = later.0; faults = λ other. later.0; pendings = λ other. later.1 };
  failed = λ e. omega arith;
  pending = λ e. cc;
  memory = λ e. cc;
}
fault_kept link f p g q faults.Pending ef ep later none = record {
  later = record { polls = later.0; faults = λ other. later.0; pendings = λ other. later.1 };
  failed = λ e. cc;
  pending = λ e. omega arith;
  memory = λ e. cc;
}
fault_kept link f p g q faults.Memory ef ep later none = absurd (none refl)
