use Rattle.mark_rules.proofs.MarkLookups as proved
use Rattle.mark_rules.proofs.laws.addresses_by_mark.Goals as goal

pub returns-clause-services : goal.returns-clause-services
returns-clause-services c = proved.services_by_mark

pub returns-clause-pods : goal.returns-clause-pods
returns-clause-pods c = proved.pods_by_mark
