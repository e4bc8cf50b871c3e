use Rattle.history_laws.proofs.Simulating.{simulations_change_nothing}
use Rattle.history_laws.proofs.laws.simulations_change_nothing.Goals as goal

pub returns : goal.returns
returns c = simulations_change_nothing
