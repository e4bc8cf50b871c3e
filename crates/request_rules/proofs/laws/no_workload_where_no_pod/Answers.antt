use Rattle.request_rules.proofs.Undecided.{no_workload_where_no_pod}
use Rattle.request_rules.proofs.laws.no_workload_where_no_pod.Goals as goal

pub returns : goal.returns
returns c = no_workload_where_no_pod
