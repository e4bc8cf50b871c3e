use Rattle.message_laws.proofs.Lengths.{plain_length}
use Rattle.message_laws.proofs.laws.plain_messages_are_short.Goals as goal

pub returns : goal.returns
returns c = λ message plain. plain_length message plain
