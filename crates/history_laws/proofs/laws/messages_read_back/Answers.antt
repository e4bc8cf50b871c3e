use Rattle.history_laws.proofs.Held.{held_are_lawful, queries_are_lawful}
use Rattle.history_laws.proofs.Sendable.{messages_read_back}
use Rattle.history_laws.proofs.laws.messages_read_back.Goals as goal

pub returns : goal.returns
returns c program reads = messages_read_back program (held_are_lawful program reads) (queries_are_lawful program reads)
