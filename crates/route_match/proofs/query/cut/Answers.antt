use Rattle.route_match.proofs.Queries.{cut_first, cut_none, cut_shorter}
use Rattle.route_match.proofs.query.cut.Goals as goal

pub returns-clause-whole : goal.returns-clause-whole
returns-clause-whole c = cut_none c.args.query.now c.split_once.result c.split_once.ensures.cases

pub returns-clause-cut : goal.returns-clause-cut
returns-clause-cut c = cut_first c.args.query.now c.split_once.result c.split_once.ensures.cases

pub returns-clause-shorter : goal.returns-clause-shorter
returns-clause-shorter c = cut_shorter c.args.query.now c.split_once.result c.split_once.ensures.cases
