use Rattle.k8s_meta.specs.Spots.{seen}
use Rattle.k8s_meta.proofs.Given.{has_read}
use Rattle.k8s_core.specs.Slices.{slice_at}
use Rattle.k8s_core.proofs.Lawfully.{slice_gives}
use Rattle.k8s_core.proofs.slice.slice_of.Goals as goal
use Rattle.view_types.specs.Lawful.{IsLawfulSlice}

pub returns-clause-lawful : goal.returns-clause-lawful
returns-clause-lawful c = has_read IsLawfulSlice slice_at slice_gives (seen c.args.object.now) c.members_of.result c.members_of.ensures
