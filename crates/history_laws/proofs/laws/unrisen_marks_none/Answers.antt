use Rattle.history_laws.proofs.Simulating.{unrisen_marks_none}
use Rattle.history_laws.proofs.laws.unrisen_marks_none.Goals as goal

pub returns : goal.returns
returns c = unrisen_marks_none
