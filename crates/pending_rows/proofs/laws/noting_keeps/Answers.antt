use Rattle.pending_rows.proofs.Notes.{noting_keeps}
use Rattle.pending_rows.proofs.laws.noting_keeps.Goals as goal

pub returns : goal.returns
returns c = noting_keeps
