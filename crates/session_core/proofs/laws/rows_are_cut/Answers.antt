use Rattle.session_core.proofs.RowCuts.{rows_are_cut}
use Rattle.session_core.proofs.laws.rows_are_cut.Goals as goal

pub returns : goal.returns
returns c = rows_are_cut
