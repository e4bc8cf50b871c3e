use Rattle.std.proofs.Common.{length, ◌-◌}
use Rattle.mem_links.proofs.play.first_unread.Given as goal

abbrev pub invariant-loop-spot : goal.invariant-loop-spot
invariant-loop-spot l = Unit {0}

abbrev pub decreases-loop-spot : goal.decreases-loop-spot
decreases-loop-spot l = length l.played - l.spot.step
