use Rattle.route_match.proofs.Queries.{part_none, part_some}
use Rattle.route_match.proofs.query.part_of.Goals as goal

pub returns-in-Some : goal.returns-in-Some
returns-in-Some c = part_some c.args.piece.now c.in-Some.part c.in-Some.ensures.cases

pub returns-in-None : goal.returns-in-None
returns-in-None c = part_none c.args.piece.now c.in-None.ensures.cases
