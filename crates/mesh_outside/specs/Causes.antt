-- When an error may be returned: its count rose in the call, or is at the maximum of its type.
use Rattle.std.specs.Prelude.{◌≡◌, ◌+◌, ◌-◌, ◌^◌, ◌≤◌, ◌<◌, ℕ, Bool, true, false, ◌&&◌, ◌==◌, nat_lt, if◌then◌else◌, List, length, min, Result, Ok, Err, OnErr, OnOk, IsErrOf}
use Rattle.mesh_outside.specs.declared.sink.SinkFault.{SinkFault}
use Rattle.mesh_outside.specs.declared.sink.SinkFault.TheVariants.{Failed, Memory}

-- the count plus one, which saturates at the maximum of u64
abbrev pub one_more : ℕ → ℕ
one_more n = min (n + 1) (2 ^ 64 - 1)

-- the count after a call that is counted, or isn't
abbrev pub counted : Bool → ℕ → ℕ
counted is_counted count = if is_counted then one_more count else count

-- a write failed, or accepted nothing of a nonempty piece
abbrev pub is_fault : List ℕ → Result ℕ SinkFault → Bool
is_fault piece (Ok n) = n == 0 && nat_lt 0 (length piece)
is_fault piece (Err Failed) = true
is_fault piece (Err Memory) = false

-- a write didn't run out of memory
abbrev pub had_memory : Result ℕ SinkFault → Bool
had_memory (Ok n) = true
had_memory (Err Failed) = true
had_memory (Err Memory) = false

-- the count of errors where none occurs
abbrev pub none_ever : ℕ
none_ever = 0

-- the count rose from before to now, or is at the maximum of its type
abbrev pub Rose : ℕ → ℕ → Type 0
Rose before now = one_more before ≤ now

-- the count didn't rise, and is below the maximum of its type
abbrev pub Unrisen : ℕ → ℕ → Type 0
Unrisen before now = (now ≡ before) × (before < 2 ^ 64 - 1)

-- The count doesn't fall in a call. An error is returned only if it rose. Ok leaves it unchanged.
pub record HasCause {T E : Type 0} (before now : ℕ) (result : Result T E) : Type 0 where
  pub later : before ≤ now
  pub failed : OnErr result (Rose before now)
  pub other : OnOk result (now ≡ before)

-- The count doesn't fall in a write. `Failed`, and 0 for a nonempty piece, are returned only if it
-- rose. Any other result leaves it unchanged.
pub record WriteHasCause (before now : ℕ) (piece : List ℕ) (result : Result ℕ SinkFault) : Type 0 where
  pub later : before ≤ now
  pub failed : IsErrOf result Failed → Rose before now
  pub nothing : result ≡ Ok 0 → 0 < length piece → Rose before now
  pub other : is_fault piece result ≡ false → now ≡ before
