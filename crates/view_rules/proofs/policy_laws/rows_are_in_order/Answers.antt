use Rattle.view_rules.proofs.ShownRows.{rows_are_in_order}
use Rattle.view_rules.proofs.policy_laws.rows_are_in_order.Goals as goal

pub returns : goal.returns
returns c = rows_are_in_order
