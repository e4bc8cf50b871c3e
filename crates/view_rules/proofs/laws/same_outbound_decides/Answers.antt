use Rattle.view_rules.proofs.SamePolicies.{outbound_decides}
use Rattle.view_rules.proofs.laws.same_outbound_decides.Goals as goal

pub returns : goal.returns
returns c = outbound_decides
