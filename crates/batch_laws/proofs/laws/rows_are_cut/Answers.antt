use Rattle.batch_laws.proofs.Sizes.{rows_cut}
use Rattle.batch_laws.proofs.laws.rows_are_cut.Goals as goal

pub returns : goal.returns
returns c = rows_cut
