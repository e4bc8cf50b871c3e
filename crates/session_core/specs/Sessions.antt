-- A session, and what was passed to it.
use Rattle.std.specs.Prelude.{◌≡◌, ℕ, List}
use Rattle.mesh_base.specs.declared.limits.Limits.{Limits}
use Rattle.view_types.specs.declared.config.Config.{Config}
use Rattle.session_core.specs.Pieces.{Given}
use Rattle.session_core.specs.States.{Keeps}
use Rattle.session_core.specs.declared.session.SessionFault.TheVariants.{Memory}
use Rattle.session_core.specs.declared.state.State.{State}
use Rattle.session_core.specs.declared.state.State.TheVariants.{Fault}

-- a session: its parameters, the state of its input, and its outbox
pub record SessionState : Type 0 where
  pub config : Config
  pub limits : Limits
  pub state : State
  pub outbox : List (List ℕ)

-- The session was created with this configuration and these limits, and this was passed to it.
pub record Stands (config : Config) (limits : Limits) (given : Given) (session : SessionState) : Type 0 where
  pub config_is : session.config ≡ config
  pub limits_are : session.limits ≡ limits
  pub keeps : Keeps config limits session.state given

-- Memory ran out, which is the answer to each further piece.
abbrev pub IsSpent : SessionState → Type 0
IsSpent session = session.state ≡ Fault Memory
