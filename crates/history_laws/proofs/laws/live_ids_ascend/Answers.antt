use Rattle.history_laws.proofs.Lives.{live_ids_ascend}
use Rattle.history_laws.proofs.laws.live_ids_ascend.Goals as goal

pub returns : goal.returns
returns c = live_ids_ascend
