use Rattle.session_core.proofs.Rows.{rows_stay}
use Rattle.session_core.proofs.laws.rows_stay.Goals as goal

pub returns : goal.returns
returns c = rows_stay
