use Rattle.view_rules.proofs.Orderly.{endpoints_are_orderly}
use Rattle.view_rules.proofs.laws.endpoints_are_orderly.Goals as goal

pub returns : goal.returns
returns c = endpoints_are_orderly
