use Rattle.view_rules.proofs.ByAddress.{pods_are_the_least, services_are_the_least}
use Rattle.view_rules.proofs.laws.addresses_lead_to_the_least.Goals as goal

pub returns-clause-services : goal.returns-clause-services
returns-clause-services c = services_are_the_least

pub returns-clause-pods : goal.returns-clause-pods
returns-clause-pods c = pods_are_the_least
