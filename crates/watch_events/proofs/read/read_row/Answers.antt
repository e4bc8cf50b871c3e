use Rattle.std.specs.Option.{option_copied}
use Rattle.watch_events.proofs.Lawfully.{row_read}
use Rattle.watch_events.proofs.read.read_row.Goals as goal

pub returns-clause-lawful : goal.returns-clause-lawful
returns-clause-lawful c = row_read c.lines_are_lawful.ensures.texts c.args.config.now (option_copied c.args.row) c.read_here.result c.read_here.ensures
