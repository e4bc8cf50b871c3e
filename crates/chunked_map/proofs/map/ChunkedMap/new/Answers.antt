use Rattle.chunked_map.proofs.Places.{none_sorted}
use Rattle.chunked_map.proofs.map.ChunkedMap.new.Goals as goal

pub invariant_of-result : goal.invariant_of-result
invariant_of-result g c = rw c.new.ensures (none_sorted g.K.Ord.cmp)

pub returns-clause-ordered : goal.returns-clause-ordered
returns-clause-ordered g c = rw c.new.ensures (none_sorted g.K.Ord.cmp)
