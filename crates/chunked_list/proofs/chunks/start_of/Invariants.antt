use Rattle.std.proofs.Common.{◌≡◌, ◌≤◌, ◌-◌, vec_items}
use Rattle.chunked_list.specs.Spots.{start_of}
use Rattle.chunked_list.proofs.chunks.start_of.Given as goal

abbrev pub invariant-loop-before : goal.invariant-loop-before
invariant-loop-before g l = (l.before ≤ l.chunk) × (l.start ≡ start_of vec_items l.chunks l.before)

abbrev pub decreases-loop-before : goal.decreases-loop-before
decreases-loop-before g l = l.chunk - l.before
