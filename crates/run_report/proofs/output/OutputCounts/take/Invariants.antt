use Rattle.std.proofs.Common.{length}
use Rattle.run_report.specs.Written.{AreWritten}
use Rattle.run_report.proofs.Fronts.{FrontCounted}
use Rattle.run_report.proofs.output.OutputCounts.take.Given as goal

abbrev pub invariant-loop-at : goal.invariant-loop-at
invariant-loop-at l = FrontCounted AreWritten l.fn.self l.self l.piece l.rest

abbrev pub decreases-loop-at : goal.decreases-loop-at
decreases-loop-at l = length l.rest
