use Rattle.k8s_meta.specs.Spots.{seen}
use Rattle.k8s_meta.proofs.Given.{has_read}
use Rattle.policy_objects.specs.Authentications.{mesh_authn_at}
use Rattle.policy_objects.proofs.Lawfully.{mesh_authn_gives}
use Rattle.policy_objects.proofs.authn.mesh_authn_of.Goals as goal
use Rattle.view_types.specs.Lawful.{IsLawfulMeshAuthn}

pub returns-clause-lawful : goal.returns-clause-lawful
returns-clause-lawful c = has_read IsLawfulMeshAuthn mesh_authn_at mesh_authn_gives (seen c.args.object.now) c.mesh_members_of.result c.mesh_members_of.ensures
