use Rattle.k8s_meta.proofs.DurationLaws.{durations_are_sums}
use Rattle.k8s_meta.proofs.laws.durations_are_sums.Goals as goal

pub returns : goal.returns
returns c = durations_are_sums
