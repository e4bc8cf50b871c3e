use Rattle.serve_rules.proofs.OwedBytes.{owed_has_work}
use Rattle.serve_rules.proofs.laws.what_is_owed_is_work.Goals as goal

pub returns : goal.returns
returns c = owed_has_work
