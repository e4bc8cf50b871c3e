-- The result of a run of a relay.
use Rattle.std.specs.Prelude.{◌≡◌, ◌<◌, ℕ, Bool, List, ◌++◌, IfSome, length}
use Rattle.std.specs.declared.option.Option.{Option}
use Rattle.std.specs.Io.KnownBytes.{Appends}
use Rattle.line_run.specs.Rows.{past_of}
use Rattle.mesh_base.specs.declared.limits.Limits.{Limits}
use Rattle.view_types.specs.declared.config.Config.{Config}
use Rattle.view_relay.specs.Relayed.{refused_after, relayed_of}

-- The input is below its limit, what was written is what is defined for it, and the flag says whether a row was refused.
abbrev pub WritesRelayed : Config → Limits → Option (List ℕ) → Option (List ℕ) → Option (List ℕ) → Bool → Type 0
WritesRelayed config limits left held held_new refused = IfSome left (λ bytes.
    (length bytes < limits.input) × Appends held held_new (relayed_of config limits bytes) × (refused ≡ refused_after config limits (past_of limits.line bytes)))

-- What was written is a prefix of that.
abbrev pub WritesRelayedFront : Config → Limits → Option (List ℕ) → Option (List ℕ) → Option (List ℕ) → Type 0
WritesRelayedFront config limits left held held_new = IfSome left (λ bytes.
    (sent : List ℕ) × (unsent : List ℕ) × Appends held held_new sent × (relayed_of config limits bytes ≡ sent ++ unsent))
