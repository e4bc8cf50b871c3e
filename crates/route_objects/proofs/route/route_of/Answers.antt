use Rattle.k8s_meta.proofs.Given.{has_read}
use Rattle.k8s_meta.specs.Spots.{seen}
use Rattle.route_objects.proofs.Lawfully.{route_gives}
use Rattle.route_objects.proofs.route.route_of.Goals as goal
use Rattle.route_objects.specs.Routes.{route_at}
use Rattle.view_types.specs.Lawful.{IsLawfulRoute}

pub returns-clause-lawful : goal.returns-clause-lawful
returns-clause-lawful c = has_read (IsLawfulRoute c.args.kind) (route_at c.args.kind) (route_gives c.args.kind) (seen c.args.object.now) c.members_of.result c.members_of.ensures
