use Rattle.message_laws.proofs.Round.{message_back}
use Rattle.message_laws.proofs.laws.messages_read_back.Goals as goal

pub returns : goal.returns
returns c = λ message fits. message_back message fits
