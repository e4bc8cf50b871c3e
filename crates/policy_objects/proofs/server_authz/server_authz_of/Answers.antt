use Rattle.k8s_meta.specs.Spots.{seen}
use Rattle.k8s_meta.proofs.Given.{has_read}
use Rattle.policy_objects.specs.ServerAuthorizations.{server_authz_at}
use Rattle.policy_objects.proofs.Lawfully.{server_authz_gives}
use Rattle.policy_objects.proofs.server_authz.server_authz_of.Goals as goal
use Rattle.view_types.specs.Lawful.{IsLawfulServerAuthz}

pub returns-clause-lawful : goal.returns-clause-lawful
returns-clause-lawful c = has_read IsLawfulServerAuthz server_authz_at server_authz_gives (seen c.args.object.now) c.members_of.result c.members_of.ensures
