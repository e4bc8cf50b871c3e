use Rattle.std.proofs.Common.{◌≡◌, ◌++◌, flat_map, vec_items}
use Rattle.chunked_list.proofs.chunks.joined.Given as goal

abbrev pub invariant-loop-chunk : goal.invariant-loop-chunk
invariant-loop-chunk g l = l.items.items ++ flat_map vec_items l.chunk-iterator.rest.items ≡ flat_map vec_items l.fn.chunks.items
