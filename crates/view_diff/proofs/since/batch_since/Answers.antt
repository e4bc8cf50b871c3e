use Rattle.view_rules.proofs.RowMaps.{keyed_rows}
use Rattle.view_diff.proofs.since.batch_since.Goals as goal

pub to_rows-requires-clause-rows : goal.to_rows-requires-clause-rows
to_rows-requires-clause-rows c = rw c.as_slice-rows.ensures (keyed_rows c.args.now.now c.requires.now)
