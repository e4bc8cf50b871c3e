use Rattle.history_laws.proofs.Deliveries.{end_writes_what_is_sent}
use Rattle.history_laws.proofs.laws.the_end_writes_what_is_sent.Goals as goal

pub returns : goal.returns
returns c = end_writes_what_is_sent
