use Rattle.mark_rules.proofs.ServerMatches as proved
use Rattle.mark_rules.proofs.laws.matching_servers.Goals as goal

pub returns-clause-first : goal.returns-clause-first
returns-clause-first c = proved.first_is_chosen

pub returns-clause-stay : goal.returns-clause-stay
returns-clause-stay c = proved.matches_stay
