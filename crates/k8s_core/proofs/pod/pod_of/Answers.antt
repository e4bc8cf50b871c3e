use Rattle.k8s_meta.specs.Spots.{seen}
use Rattle.k8s_meta.proofs.Given.{has_read}
use Rattle.k8s_core.specs.Pods.{pod_at}
use Rattle.k8s_core.proofs.Lawfully.{pod_gives}
use Rattle.k8s_core.proofs.pod.pod_of.Goals as goal
use Rattle.view_types.specs.Lawful.{IsLawfulPod}

pub returns-clause-lawful : goal.returns-clause-lawful
returns-clause-lawful c = has_read IsLawfulPod pod_at pod_gives (seen c.args.object.now) c.members_of.result c.members_of.ensures
