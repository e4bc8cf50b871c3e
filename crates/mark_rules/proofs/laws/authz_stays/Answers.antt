use Rattle.mark_rules.proofs.Authz as proved
use Rattle.mark_rules.proofs.laws.authz_stays.Goals as goal

pub returns : goal.returns
returns c = proved.authz_stays
