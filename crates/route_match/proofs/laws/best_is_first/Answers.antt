use Rattle.route_match.proofs.FirstBest.{best_is_first}
use Rattle.route_match.proofs.laws.best_is_first.Goals as goal

pub returns : goal.returns
returns c = best_is_first
