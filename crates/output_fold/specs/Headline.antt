-- The result of a fold.
use Rattle.std.specs.Prelude.{◌≡◌, ◌<◌, ℕ, Bool, List, ◌++◌, IfSome, length}
use Rattle.std.specs.declared.option.Option.{Option}
use Rattle.std.specs.Io.KnownBytes.{Appends}
use Rattle.mesh_base.specs.declared.limits.Limits.{Limits}
use Rattle.line_run.specs.Rows.{rows_of}
use Rattle.view_types.specs.declared.query.Method.{Method}
use Rattle.output_fold.specs.Folded.{folded_of, refused_in}

-- The input is below its limit, what was written is what is defined for it, and the flag says whether a row could not be read.
abbrev pub WritesFolded : Method → ℕ → Limits → Option (List ℕ) → Option (List ℕ) → Option (List ℕ) → Bool → Type 0
WritesFolded method id limits left held held_new refused = IfSome left (λ bytes.
    (length bytes < limits.input) × Appends held held_new (folded_of method id limits bytes) × (refused ≡ refused_in method id (rows_of limits.line bytes)))

-- What was written is a prefix of that.
abbrev pub WritesFoldedFront : Method → ℕ → Limits → Option (List ℕ) → Option (List ℕ) → Option (List ℕ) → Type 0
WritesFoldedFront method id limits left held held_new = IfSome left (λ bytes.
    (sent : List ℕ) × (unsent : List ℕ) × Appends held held_new sent × (folded_of method id limits bytes ≡ sent ++ unsent))
