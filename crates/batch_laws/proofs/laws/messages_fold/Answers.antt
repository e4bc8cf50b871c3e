use Rattle.batch_laws.proofs.MessagesFold.{messages_fold}
use Rattle.batch_laws.proofs.laws.messages_fold.Goals as goal

pub returns : goal.returns
returns c = messages_fold
