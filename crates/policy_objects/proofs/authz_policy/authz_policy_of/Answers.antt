use Rattle.k8s_meta.specs.Spots.{seen}
use Rattle.k8s_meta.proofs.Given.{has_read}
use Rattle.policy_objects.specs.AuthorizationPolicies.{authz_policy_at}
use Rattle.policy_objects.proofs.Lawfully.{authz_policy_gives}
use Rattle.policy_objects.proofs.authz_policy.authz_policy_of.Goals as goal
use Rattle.view_types.specs.Lawful.{IsLawfulPolicy}

pub returns-clause-lawful : goal.returns-clause-lawful
returns-clause-lawful c = has_read IsLawfulPolicy authz_policy_at authz_policy_gives (seen c.args.object.now) c.members_of.result c.members_of.ensures
