use Rattle.mark_rules.proofs.MarkLookups as proved
use Rattle.mark_rules.proofs.laws.keys_by_mark.Goals as goal

pub returns-clause-found : goal.returns-clause-found
returns-clause-found c = proved.found_at_keys

pub returns-clause-stay : goal.returns-clause-stay
returns-clause-stay c = proved.keys_stay

pub returns-clause-keys : goal.returns-clause-keys
returns-clause-keys c = proved.keys_by_mark
