use Rattle.k8s_meta.specs.Spots.{seen}
use Rattle.k8s_meta.proofs.Given.{has_read}
use Rattle.policy_objects.specs.Authentications.{net_authn_at}
use Rattle.policy_objects.proofs.Lawfully.{net_authn_gives}
use Rattle.policy_objects.proofs.authn.net_authn_of.Goals as goal
use Rattle.view_types.specs.Lawful.{IsLawfulNetAuthn}

pub returns-clause-lawful : goal.returns-clause-lawful
returns-clause-lawful c = has_read IsLawfulNetAuthn net_authn_at net_authn_gives (seen c.args.object.now) c.net_members_of.result c.net_members_of.ensures
