use Rattle.history_laws.proofs.LastDrain.{told_at_last_drain}
use Rattle.history_laws.proofs.laws.last_drain_decides_shown.Goals as goal

pub returns : goal.returns
returns c = told_at_last_drain
