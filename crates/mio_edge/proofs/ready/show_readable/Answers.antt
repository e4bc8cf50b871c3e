use Rattle.mio_edge.proofs.Numbers.{after_readable}
use Rattle.mio_edge.proofs.ready.show_readable.Goals as goal

pub returns-then-is_readable-clause-numbered : goal.returns-then-is_readable-clause-numbered
returns-then-is_readable-clause-numbered c first last h = after_readable first last _ _ _ c.push_reserved.ensures.items h
