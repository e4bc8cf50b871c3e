use Rattle.session_core.proofs.CutPieces.{cutting_is_free}
use Rattle.session_core.proofs.laws.cutting_is_free.Goals as goal

pub returns : goal.returns
returns c = cutting_is_free
