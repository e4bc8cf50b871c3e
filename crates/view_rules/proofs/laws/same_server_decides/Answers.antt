use Rattle.view_rules.proofs.SamePolicies.{server_decides}
use Rattle.view_rules.proofs.laws.same_server_decides.Goals as goal

pub returns : goal.returns
returns c = server_decides
