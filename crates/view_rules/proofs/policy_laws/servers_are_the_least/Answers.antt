use Rattle.view_rules.proofs.ServersOfPorts.{servers_are_the_least}
use Rattle.view_rules.proofs.policy_laws.servers_are_the_least.Goals as goal

pub returns : goal.returns
returns c = servers_are_the_least
