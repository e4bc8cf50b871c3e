use Rattle.mark_rules.proofs.Servers as proved
use Rattle.mark_rules.proofs.laws.servers_stay.Goals as goal

pub returns : goal.returns
returns c = proved.servers_stay
