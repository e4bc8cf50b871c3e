use Rattle.mark_rules.proofs.Outbound as proved
use Rattle.mark_rules.proofs.laws.outbound_stays.Goals as goal

pub returns : goal.returns
returns c = proved.outbound_stays
