use Rattle.view_rules.proofs.RowMaps.{keyed_rows}
use Rattle.view_diff.proofs.Keys.{keyed_before}
use Rattle.view_diff.proofs.batch.endpoint_batch.Goals as goal

pub keyed_batch-requires-clause-old : goal.keyed_batch-requires-clause-old
keyed_batch-requires-clause-old c = rw c.rows_before.ensures (keyed_before _ c.requires.old)

pub keyed_batch-requires-clause-new : goal.keyed_batch-requires-clause-new
keyed_batch-requires-clause-new c = rw c.as_slice-rows.ensures (keyed_rows c.args.new.now c.requires.new)
