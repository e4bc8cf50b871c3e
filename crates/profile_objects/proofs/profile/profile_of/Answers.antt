use Rattle.k8s_meta.specs.Spots.{seen}
use Rattle.k8s_meta.proofs.Given.{has_read}
use Rattle.profile_objects.proofs.Lawfully.{profile_gives}
use Rattle.profile_objects.specs.Profiles.{profile_at}
use Rattle.view_types.specs.Lawful.{IsLawfulProfile}
use Rattle.profile_objects.proofs.profile.profile_of.Goals as goal

pub returns-clause-lawful : goal.returns-clause-lawful
returns-clause-lawful c = has_read IsLawfulProfile profile_at profile_gives (seen c.args.object.now) c.members_of.result c.members_of.ensures
