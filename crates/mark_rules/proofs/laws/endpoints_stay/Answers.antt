use Rattle.mark_rules.proofs.Endpoints as proved
use Rattle.mark_rules.proofs.laws.endpoints_stay.Goals as goal

pub returns : goal.returns
returns c = proved.endpoints_stay
