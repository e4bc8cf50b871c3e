use Rattle.due_laws.proofs.Lookback as proved
use Rattle.due_laws.proofs.laws.due_are_live.Goals as goal

pub returns : goal.returns
returns c = proved.due_are_live
