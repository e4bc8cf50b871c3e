use Rattle.view_rules.proofs.Selected.{matches_is}
use Rattle.policy_rows.proofs.selects.selects.Goals as goal

pub returns : goal.returns
returns c = matches_is c.matches.result c.args.selector.now c.args.labels.now c.matches.ensures
