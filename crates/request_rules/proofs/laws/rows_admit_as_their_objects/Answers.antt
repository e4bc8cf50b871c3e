use Rattle.request_rules.proofs.Admitted.{rows_admit_as_their_objects}
use Rattle.request_rules.proofs.laws.rows_admit_as_their_objects.Goals as goal

pub returns : goal.returns
returns c = rows_admit_as_their_objects
