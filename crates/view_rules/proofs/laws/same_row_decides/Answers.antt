use Rattle.view_rules.proofs.SameRow.{row_decides}
use Rattle.view_rules.proofs.laws.same_row_decides.Goals as goal

pub returns : goal.returns
returns c = row_decides
