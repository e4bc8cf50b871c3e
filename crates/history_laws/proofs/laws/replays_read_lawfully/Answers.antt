use Rattle.watch_events.specs.Lines.{text_line}
use Rattle.feed_history.proofs.Texts.{texts_read_lawfully}
use Rattle.history_laws.proofs.laws.replays_read_lawfully.Goals as goal

pub returns : goal.returns
returns c config limits pat held lawful at_keys = texts_read_lawfully (text_line config) (c.lines_are_lawful.ensures.texts config)
