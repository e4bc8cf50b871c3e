-- The state of a run of a relay after some rows, the newest first, while it writes the end, and after that.
use Rattle.std.specs.Prelude.{◌≡◌, ℕ, Bool, List, ◌++◌}
use Rattle.std.proofs.Common.{ap, ◌∙◌}
use Rattle.line_run.specs.Rows.{Row}
use Rattle.mesh_base.specs.declared.limits.Limits.{Limits}
use Rattle.view_types.specs.declared.config.Config.{Config}
use Rattle.view_relay.specs.Relayed.{end_lines, output_after, refused_after, relayed_after, written_after}
use Rattle.view_relay.specs.Relays.{RelayState}

pub record Stands (config : Config) (limits : Limits) (past : List Row) (text : List ℕ) (refused : Bool) (now : RelayState) : Type 0 where
  pub state : now ≡ relayed_after config limits past
  pub writes : text ≡ written_after config limits past
  pub refuses : refused ≡ refused_after config limits past

-- What is still to be written is that of the clients that are left.
pub record Ending (config : Config) (limits : Limits) (past : List Row) (text : List ℕ) (refused : Bool) (now : RelayState) : Type 0 where
  pub writes : text ++ end_lines now ≡ output_after config limits past
  pub refuses : refused ≡ refused_after config limits past

pub record Ended (config : Config) (limits : Limits) (past : List Row) (text : List ℕ) (refused : Bool) : Type 0 where
  pub writes : text ≡ output_after config limits past
  pub refuses : refused ≡ refused_after config limits past

-- the state after all rows, before the first client is sent anything
pub ends_as : (config : Config) (limits : Limits) (past : List Row) (text : List ℕ) (refused : Bool) (now : RelayState) → Stands config limits past text refused now → text ++ end_lines now ≡ output_after config limits past
ends_as config limits past text refused now stood =
    ap (λ (xs : List ℕ). xs ++ end_lines now) stood.writes ∙ ap (λ (now : RelayState). written_after config limits past ++ end_lines now) stood.state
