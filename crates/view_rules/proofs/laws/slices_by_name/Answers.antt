use Rattle.view_rules.proofs.Slices.{slices_by_name}
use Rattle.view_rules.proofs.laws.slices_by_name.Goals as goal

pub returns : goal.returns
returns c = slices_by_name
