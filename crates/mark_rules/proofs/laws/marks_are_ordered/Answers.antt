use Rattle.mark_rules.proofs.MarkOrder as proved
use Rattle.mark_rules.proofs.laws.marks_are_ordered.Goals as goal

pub returns : goal.returns
returns c = (proved.marks_total, proved.marks_exact)
