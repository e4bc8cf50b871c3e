use Rattle.history_laws.proofs.Held.{held_are_lawful}
use Rattle.history_laws.proofs.laws.held_are_lawful.Goals as goal

pub returns : goal.returns
returns c program reads = held_are_lawful program reads
