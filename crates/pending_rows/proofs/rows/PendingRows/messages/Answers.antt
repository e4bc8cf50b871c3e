use Rattle.pending_rows.proofs.Own.{by_address}
use Rattle.pending_rows.proofs.rows.PendingRows.messages.Goals as goal

pub batch_since-requires-clause-before : goal.batch_since-requires-clause-before
batch_since-requires-clause-before c =
    rw c.as_slice.ensures.value (by_address c.args.self.now.pending.items c.args.self.now.keyed c.args.self.now.own)
