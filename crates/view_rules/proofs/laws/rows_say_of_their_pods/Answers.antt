use Rattle.view_rules.proofs.RowsOfPods.{row_of_says, rows_say_of_their_pods}
use Rattle.view_rules.proofs.laws.rows_say_of_their_pods.Goals as goal

pub returns-clause-endpoints : goal.returns-clause-endpoints
returns-clause-endpoints c = rows_say_of_their_pods

pub returns-clause-of_pod : goal.returns-clause-of_pod
returns-clause-of_pod c = row_of_says
