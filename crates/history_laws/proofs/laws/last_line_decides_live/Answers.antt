use Rattle.history_laws.proofs.Lives.{live_by_the_last}
use Rattle.history_laws.proofs.laws.last_line_decides_live.Goals as goal

pub returns : goal.returns
returns c = live_by_the_last
