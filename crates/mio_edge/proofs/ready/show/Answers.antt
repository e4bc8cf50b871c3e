use Rattle.mio_edge.proofs.ready.show.Goals as goal

pub returns-clause-numbered : goal.returns-clause-numbered
returns-clause-numbered c first last h = c.show_writable.ensures.numbered first last (c.show_readable.ensures.numbered first last h)
