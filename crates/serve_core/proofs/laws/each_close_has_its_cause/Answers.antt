use Rattle.serve_core.proofs.CloseCauses as proved
use Rattle.serve_core.proofs.laws.each_close_has_its_cause.Goals as goal

pub returns : goal.returns
returns c = proved.each_close_has_its_cause
