use Rattle.serve_rules.proofs.Hubs.{drains_as_due, no_line_subscribes, shown_stays}
use Rattle.serve_rules.proofs.laws.hubs_serve.Goals as goal

pub returns-clause-drains : goal.returns-clause-drains
returns-clause-drains c = drains_as_due

pub returns-clause-shown : goal.returns-clause-shown
returns-clause-shown c = shown_stays

pub returns-clause-lines : goal.returns-clause-lines
returns-clause-lines c = no_line_subscribes
