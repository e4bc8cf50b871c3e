use Rattle.history_laws.proofs.Held.{held_are_lawful, queries_are_lawful}
use Rattle.history_laws.proofs.Sendable.{messages_are_sendable}
use Rattle.history_laws.proofs.laws.messages_are_sendable.Goals as goal

pub returns : goal.returns
returns c program reads = messages_are_sendable program (held_are_lawful program reads) (queries_are_lawful program reads)
