-- The result of a write of several bytes.
use Rattle.std.specs.Prelude.{◌≡◌, ◌≢◌, ◌≤◌, ℕ, List, ◌++◌, Result, Err, IsErrOf}
use Rattle.std.specs.declared.option.Option.{Option}
use Rattle.std.specs.Io.KnownBytes.{Appends}
use Rattle.mesh_outside.specs.Causes.{Rose}
use Rattle.mesh_outside.specs.declared.sink.SinkFault.{SinkFault}
use Rattle.mesh_outside.specs.declared.sink.SinkFault.TheVariants.{Failed}

-- a front of the bytes was written, and `rest` is left
abbrev pub Moves : List ℕ → List ℕ → Option (List ℕ) → Option (List ℕ) → Type 0
Moves bytes rest held held_new = (front : List ℕ) × (bytes ≡ front ++ rest) × Appends held held_new front

-- The count of errors doesn't fall: only `Failed`, which is returned only if it rose, changes it.
pub record FailsByCause {T : Type 0} (before now : ℕ) (result : Result T SinkFault) : Type 0 where
  pub later : before ≤ now
  pub failed : IsErrOf result Failed → Rose before now
  pub other : result ≢ Err Failed → now ≡ before
