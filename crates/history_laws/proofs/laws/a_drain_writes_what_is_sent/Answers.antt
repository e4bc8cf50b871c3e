use Rattle.history_laws.proofs.Deliveries.{drain_writes_what_is_sent}
use Rattle.history_laws.proofs.laws.a_drain_writes_what_is_sent.Goals as goal

pub returns : goal.returns
returns c = drain_writes_what_is_sent
