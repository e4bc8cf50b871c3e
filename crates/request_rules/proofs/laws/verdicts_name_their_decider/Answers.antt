use Rattle.request_rules.proofs.Deciders.{verdicts_name_their_decider}
use Rattle.request_rules.proofs.laws.verdicts_name_their_decider.Goals as goal

pub returns : goal.returns
returns c = verdicts_name_their_decider
