use Rattle.view_rules.proofs.SamePolicies.{authz_decides}
use Rattle.view_rules.proofs.laws.same_authz_decides.Goals as goal

pub returns : goal.returns
returns c = authz_decides
