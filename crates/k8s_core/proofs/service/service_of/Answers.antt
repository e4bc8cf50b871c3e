use Rattle.k8s_meta.specs.Spots.{seen}
use Rattle.k8s_meta.proofs.Given.{has_read}
use Rattle.k8s_core.specs.Services.{service_at}
use Rattle.k8s_core.proofs.Lawfully.{service_gives}
use Rattle.k8s_core.proofs.service.service_of.Goals as goal
use Rattle.view_types.specs.Lawful.{IsLawfulService}

pub returns-clause-lawful : goal.returns-clause-lawful
returns-clause-lawful c = has_read IsLawfulService service_at service_gives (seen c.args.object.now) c.members_of.result c.members_of.ensures
