use Rattle.view_rules.proofs.Selected.{selects_decides}
use Rattle.view_rules.proofs.policy_laws.selects_decides.Goals as goal

pub returns : goal.returns
returns c = selects_decides
