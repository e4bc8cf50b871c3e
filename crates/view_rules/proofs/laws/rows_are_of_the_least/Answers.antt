use Rattle.view_rules.proofs.Least.{rows_are_of_the_least}
use Rattle.view_rules.proofs.laws.rows_are_of_the_least.Goals as goal

pub returns : goal.returns
returns c = rows_are_of_the_least
