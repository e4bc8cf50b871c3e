use Rattle.std.proofs.Common.{◌≤◌, length}
use Rattle.run_report.proofs.lines.take_parts.Given as goal

abbrev pub invariant-loop-at : goal.invariant-loop-at
invariant-loop-at g l = length l.rest ≤ length l.piece

abbrev pub decreases-loop-at : goal.decreases-loop-at
decreases-loop-at g l = length l.rest
