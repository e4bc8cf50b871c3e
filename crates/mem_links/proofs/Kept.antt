-- What a fault that was counted and its counts are for the trait.
use Rattle.std.proofs.Common.{◌≡◌, ◌≢◌, ℕ, ◌≤◌, Err, refl, arith}
use Rattle.mesh_outside.specs.Causes.{counted}
use Rattle.mesh_links.specs.Counts.{KeptInCall}
use Rattle.mesh_links.specs.declared.links.LinkFault.{LinkFault}
use Rattle.mesh_links.specs.declared.links.LinkFault.TheVariants as faults
use Rattle.mem_links.specs.Counted.{counts_of, is_failed, is_pending}

pub fault_kept : (link a a_now f g f_now p q p_now : ℕ) (fault : LinkFault) → a_now ≡ a → g ≡ f → f_now ≡ counted (is_failed fault) g → q ≡ p → p_now ≡ counted (is_pending fault) q
    → (g ≤ f_now) × (q ≤ p_now) → fault ≢ faults.Memory → KeptInCall link (counts_of a f p) (counts_of a_now f_now p_now) (Err fault)
fault_kept link a a_now f g f_now p q p_now faults.Failed ea eg ef eq ep later none = record {
  later = record { polls = omega arith; faults = λ other. omega arith; pendings = λ other. omega arith };
  failed = λ e. omega arith;
  pending = λ e. cc;
  memory = λ e. cc;
}
fault_kept link a a_now f g f_now p q p_now faults.Pending ea eg ef eq ep later none = record {
  later = record { polls = omega arith; faults = λ other. omega arith; pendings = λ other. omega arith };
  failed = λ e. cc;
  pending = λ e. omega arith;
  memory = λ e. cc;
}
fault_kept link a a_now f g f_now p q p_now faults.Memory ea eg ef eq ep later none = absurd (none refl)
