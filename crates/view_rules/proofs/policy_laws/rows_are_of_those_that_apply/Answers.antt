use Rattle.view_rules.proofs.ShownRows.{rows_are_of_those_that_apply}
use Rattle.view_rules.proofs.policy_laws.rows_are_of_those_that_apply.Goals as goal

pub returns : goal.returns
returns c = rows_are_of_those_that_apply
