use Rattle.history_laws.proofs.Lives.{last_is_greatest}
use Rattle.history_laws.proofs.laws.the_last_id_is_the_greatest.Goals as goal

pub returns : goal.returns
returns c = last_is_greatest
