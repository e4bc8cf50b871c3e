use Rattle.route_match.proofs.Candidates.{candidates_are_those_that_hold}
use Rattle.route_match.proofs.laws.candidates_are_those_that_hold.Goals as goal

pub returns : goal.returns
returns c = candidates_are_those_that_hold
