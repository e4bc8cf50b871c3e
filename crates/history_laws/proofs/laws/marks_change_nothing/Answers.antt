use Rattle.history_laws.proofs.Simulating.{marks_change_nothing}
use Rattle.history_laws.proofs.laws.marks_change_nothing.Goals as goal

pub returns : goal.returns
returns c = marks_change_nothing
