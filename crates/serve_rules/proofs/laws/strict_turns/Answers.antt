use Rattle.serve_rules.proofs.LimitsUnmet.{relaxed}
use Rattle.serve_rules.proofs.laws.strict_turns.Goals as goal

pub returns : goal.returns
returns c = relaxed
