use Rattle.batch_laws.proofs.Sizes.{pairs_cut}
use Rattle.batch_laws.proofs.laws.pairs_are_cut.Goals as goal

pub returns : goal.returns
returns c = pairs_cut
