use Rattle.std.proofs.Common.{suc}
use Rattle.k8s_meta.specs.Spots.{seen}
use Rattle.k8s_meta.proofs.Loop.{SoFar}
use Rattle.profile_objects.specs.Matches.{match_of}
use Rattle.profile_objects.proofs.Depths.{level, items_level}
use Rattle.profile_objects.proofs.nested.+nested.Given as goal

abbrev pub decreases-match_here : goal.decreases-match_here
decreases-match_here g l = level (seen l.place.now)

abbrev pub decreases-list_here : goal.decreases-list_here
decreases-list_here g l = level (seen l.place.now)

abbrev pub decreases-items_of : goal.decreases-items_of
decreases-items_of g l = items_level l.list.now

abbrev pub decreases-negated_here : goal.decreases-negated_here
decreases-negated_here g l = suc (level (seen l.place.now))

abbrev pub invariant-items_of-loop-i : goal.invariant-items_of-loop-i
invariant-items_of-loop-i g l = SoFar (match_of (g.K.MatchKind.kind l.kind)) (seen l.place).at l.found l.i l.list
