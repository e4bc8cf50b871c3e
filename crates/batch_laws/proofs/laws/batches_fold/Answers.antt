use Rattle.batch_laws.proofs.BatchesFold.{batches_fold}
use Rattle.batch_laws.proofs.laws.batches_fold.Goals as goal

pub returns : goal.returns
returns c = batches_fold
