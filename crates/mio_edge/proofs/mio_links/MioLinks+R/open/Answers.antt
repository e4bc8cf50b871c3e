use Rattle.mio_edge.proofs.Numbers.{after_new}
use Rattle.mio_edge.proofs.mio_links.MioLinks+R.open.Goals as goal

pub returns-clause-numbered : goal.returns-clause-numbered
returns-clause-numbered g c first h = after_new first _ _ _ _ c.push_reserved.ensures.items c.requires.number h
