use Rattle.k8s_core.proofs.Lawfully.{pod_gives, service_gives, slice_gives}
use Rattle.k8s_core.proofs.laws.objects_are_lawful.Goals as goal

pub returns : goal.returns
returns c = record { pods = pod_gives; services = service_gives; slices = slice_gives }
