use Rattle.run_report.proofs.Written.{counts_refused}
use Rattle.run_report.proofs.output.OutputCounts.refused.Goals as goal

pub returns : goal.returns
returns c = λ written are. counts_refused c.args.self.now written c.is_refused.result c.count_with.result are c.is_refused.ensures c.count_with.ensures
