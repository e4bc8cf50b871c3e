use Rattle.serve_rules.proofs.Others.{same_for_others}
use Rattle.serve_rules.proofs.LinksLeftOut.{turn_without, trace_without}
use Rattle.serve_rules.proofs.laws.erasure.Goals as goal

pub returns-clause-turn : goal.returns-clause-turn
returns-clause-turn c = turn_without

pub returns-clause-trace : goal.returns-clause-trace
returns-clause-trace c = trace_without

pub returns-clause-others : goal.returns-clause-others
returns-clause-others c = same_for_others
