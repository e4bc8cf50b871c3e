use Rattle.std.proofs.Common.{refl}
use Rattle.run_report.proofs.Written.{line_written}
use Rattle.run_report.proofs.output.OutputCounts.end_line.Goals as goal

pub returns : goal.returns
returns c = λ written are. line_written c.args.self.now _ written c.is_refused.result c.is_frame.result c.is_not_json.result refl c.is_refused.ensures c.count_with.ensures c.is_frame.ensures c.count_with-2.ensures c.is_not_json.ensures c.count_with-3.ensures are
