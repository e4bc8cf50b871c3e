use Rattle.serve_rules.proofs.WholeTraces.{written_is_due}
use Rattle.serve_rules.proofs.Serving.{due, trace_due}
use Rattle.serve_rules.proofs.laws.due.Goals as goal

pub returns-clause-turn : goal.returns-clause-turn
returns-clause-turn c = due

pub returns-clause-trace : goal.returns-clause-trace
returns-clause-trace c = trace_due

pub returns-clause-whole : goal.returns-clause-whole
returns-clause-whole c = written_is_due
