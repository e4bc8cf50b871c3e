use Rattle.std.proofs.Common.{rules}
use Rattle.run_report.proofs.Places.{fault_stops}
use Rattle.run_report.proofs.output.after_fault.Goals as goal

pub returns-else-is_next : goal.returns-else-is_next
returns-else-is_next c = λ line is. fault_stops c.args.matched c.args.byte line c.is_next.result c.is_next.ensures.same (search rules) is
