use Rattle.serve_rules.proofs.Closes.{failure_closes}
use Rattle.serve_rules.proofs.LinkFailures.{failed_read_closes, failed_write_closes}
use Rattle.serve_rules.proofs.laws.failures_close.Goals as goal

pub returns-clause-read : goal.returns-clause-read
returns-clause-read c = failed_read_closes

pub returns-clause-write : goal.returns-clause-write
returns-clause-write c = failed_write_closes

pub returns-clause-turn : goal.returns-clause-turn
returns-clause-turn c = failure_closes
