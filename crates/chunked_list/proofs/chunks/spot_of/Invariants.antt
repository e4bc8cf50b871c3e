use Rattle.std.proofs.Common.{◌≡◌, ◌≤◌, ◌+◌, ◌-◌, length, vec_items}
use Rattle.chunked_list.specs.Spots.{start_of}
use Rattle.chunked_list.proofs.chunks.spot_of.Given as goal

abbrev pub invariant-loop-chunk : goal.invariant-loop-chunk
invariant-loop-chunk g l = (l.chunk ≤ length l.chunks) × (start_of vec_items l.chunks l.chunk + l.at ≡ l.index)

abbrev pub decreases-loop-chunk : goal.decreases-loop-chunk
decreases-loop-chunk g l = length l.chunks - l.chunk
