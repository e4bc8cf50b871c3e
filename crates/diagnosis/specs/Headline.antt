-- The result of a diagnosis.
use Rattle.std.specs.Prelude.{◌≡◌, ◌<◌, ℕ, Bool, List, ◌++◌, IfSome, length}
use Rattle.std.specs.declared.option.Option.{Option}
use Rattle.std.specs.Io.KnownBytes.{Appends}
use Rattle.mesh_base.specs.declared.limits.Limits.{Limits}
use Rattle.line_run.specs.Rows.{past_of}
use Rattle.view_types.specs.declared.config.Config.{Config}
use Rattle.view_types.specs.declared.query.Query.{Query}
use Rattle.diagnosis.specs.Diagnosed.{diagnosed_of, refused_in}

-- The input is below its limit, what was written is what is defined for it, and the flag says whether a row was refused.
abbrev pub WritesDiagnosed : Config → Limits → ℕ → Query → Option (List ℕ) → Option (List ℕ) → Option (List ℕ) → Bool → Type 0
WritesDiagnosed config limits id query left held held_new refused = IfSome left (λ bytes.
    (length bytes < limits.input) × Appends held held_new (diagnosed_of config limits id query bytes) × (refused ≡ refused_in config limits (past_of limits.line bytes)))

-- What was written is a prefix of that.
abbrev pub WritesDiagnosedFront : Config → Limits → ℕ → Query → Option (List ℕ) → Option (List ℕ) → Option (List ℕ) → Type 0
WritesDiagnosedFront config limits id query left held held_new = IfSome left (λ bytes.
    (sent : List ℕ) × (unsent : List ℕ) × Appends held held_new sent × (diagnosed_of config limits id query bytes ≡ sent ++ unsent))
