use Rattle.run_report.proofs.Written.{counts_frames}
use Rattle.run_report.proofs.output.OutputCounts.frames.Goals as goal

pub returns : goal.returns
returns c = λ written are. counts_frames c.args.self.now written c.is_frame.result c.count_with.result are c.is_frame.ensures c.count_with.ensures
