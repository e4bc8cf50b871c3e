use Rattle.history_laws.proofs.Held.{told_by_the_last}
use Rattle.history_laws.proofs.laws.last_event_decides_held.Goals as goal

pub returns : goal.returns
returns c program reads = told_by_the_last program reads
