use Rattle.k8s_meta.specs.Spots.{seen}
use Rattle.k8s_meta.proofs.Given.{has_read}
use Rattle.policy_objects.specs.Servers.{server_at}
use Rattle.policy_objects.proofs.Lawfully.{server_gives}
use Rattle.policy_objects.proofs.server.server_of.Goals as goal
use Rattle.view_types.specs.Lawful.{IsLawfulServer}

pub returns-clause-lawful : goal.returns-clause-lawful
returns-clause-lawful c = has_read IsLawfulServer server_at server_gives (seen c.args.object.now) c.members_of.result c.members_of.ensures
