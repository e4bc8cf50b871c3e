use Rattle.history_laws.proofs.Simulating.{verdicts_are_policys}
use Rattle.history_laws.proofs.laws.verdicts_are_the_written_policys.Goals as goal

pub returns : goal.returns
returns c = verdicts_are_policys
