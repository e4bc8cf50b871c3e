use Rattle.std.proofs.Common.{length}
use Rattle.run_report.specs.Counts.{AreLines}
use Rattle.run_report.proofs.Fronts.{FrontCounted}
use Rattle.run_report.proofs.lines.LineCount.take.Given as goal

abbrev pub invariant-loop-at : goal.invariant-loop-at
invariant-loop-at l = FrontCounted AreLines l.fn.self l.self l.piece l.rest

abbrev pub decreases-loop-at : goal.decreases-loop-at
decreases-loop-at l = length l.rest
