use Rattle.view_rules.proofs.FirstRows.{are_first}
use Rattle.view_rules.proofs.laws.first_rows_are_first.Goals as goal

pub returns : goal.returns
returns c = are_first
