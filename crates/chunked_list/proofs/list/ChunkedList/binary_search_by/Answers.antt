use Rattle.std.proofs.Common.{arith}
use Rattle.chunked_list.proofs.list.ChunkedList.binary_search_by.Goals as goal

pub search-requires-clause-fits : goal.search-requires-clause-fits
search-requires-clause-fits g c = rw (c.as_slice.ensures.value) (let count = rw (← c.self.view_is) at c.len.ensures in omega (arith, count, c.len.type_inv))
