use Rattle.history_laws.proofs.Held.{queries_are_lawful}
use Rattle.history_laws.proofs.laws.queries_are_lawful.Goals as goal

pub returns : goal.returns
returns c program reads = queries_are_lawful program reads
