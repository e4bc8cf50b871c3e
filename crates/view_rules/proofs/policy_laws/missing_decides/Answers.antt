use Rattle.view_rules.proofs.Backends.{missing_decides}
use Rattle.view_rules.proofs.policy_laws.missing_decides.Goals as goal

pub returns : goal.returns
returns c = missing_decides
