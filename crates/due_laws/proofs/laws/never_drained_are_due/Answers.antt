use Rattle.due_laws.proofs.Lookback as proved
use Rattle.due_laws.proofs.laws.never_drained_are_due.Goals as goal

pub returns : goal.returns
returns c program reads = proved.never_drained_are_due program (c.only_due_are_owed.ensures program reads)
