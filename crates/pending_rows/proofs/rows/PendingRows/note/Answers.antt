use Rattle.std.proofs.Common.{sym, subst}
use Rattle.pending_rows.specs.Pending.{AreOwn}
use Rattle.pending_rows.proofs.Own.{are_own}
use Rattle.pending_rows.proofs.rows.PendingRows.note.Goals as goal

pub note_each-requires-clause-owns : goal.note_each-requires-clause-owns
note_each-requires-clause-owns c = subst AreOwn (sym c.in_ok-stood.ensures) (are_own c.args.before.now c.requires)
