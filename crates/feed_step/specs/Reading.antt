-- What a row says that cannot be read.
use Rattle.std.specs.Prelude.{◌≡◌, Result, Err}
use Rattle.watch_events.specs.declared.line.Line.{Line}
use Rattle.watch_events.specs.declared.line.LineFault.{LineFault}
use Rattle.watch_events.specs.declared.line.LineFault.TheVariants as faults
use Rattle.feed_history.specs.declared.refusal.Refusal.{Refusal}
use Rattle.feed_history.specs.declared.refusal.Refusal.TheVariants as refusals

-- a fault of a line, other than out of memory
abbrev pub IsTold : LineFault → Type 0
IsTold faults.Memory = ⊥
IsTold _ = Unit {0}

-- the row is refused for its fault
pub record IsUnread (fault : LineFault) (read : Result Line Refusal) : Type 0 where
  pub refuses : read ≡ Err (refusals.Line fault)
  pub told : IsTold fault
