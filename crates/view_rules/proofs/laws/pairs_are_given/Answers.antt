use Rattle.view_rules.proofs.Given.{pairs_are_given}
use Rattle.view_rules.proofs.laws.pairs_are_given.Goals as goal

pub returns : goal.returns
returns c = pairs_are_given
