use Rattle.mio_edge.proofs.Numbers.{after_writable}
use Rattle.mio_edge.proofs.ready.show_writable.Goals as goal

pub returns-then-is_writable-clause-numbered : goal.returns-then-is_writable-clause-numbered
returns-then-is_writable-clause-numbered c first last h = after_writable first last _ _ _ c.push_reserved.ensures.items h
