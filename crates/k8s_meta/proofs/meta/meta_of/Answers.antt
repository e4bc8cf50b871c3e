use Rattle.k8s_meta.specs.Lawful.{IsLawfulMeta}
use Rattle.k8s_meta.specs.Metadata.{meta_at}
use Rattle.k8s_meta.specs.Spots.{seen}
use Rattle.k8s_meta.proofs.Given.{has_read}
use Rattle.k8s_meta.proofs.GivenMeta.{meta_gives}
use Rattle.k8s_meta.proofs.meta.meta_of.Goals as goal

pub returns-clause-lawful : goal.returns-clause-lawful
returns-clause-lawful c = has_read IsLawfulMeta meta_at (meta_gives 253) (seen c.args.object.now) c.meta_within.result c.meta_within.ensures
