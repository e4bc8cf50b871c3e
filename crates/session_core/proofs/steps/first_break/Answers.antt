use Rattle.line_run.proofs.Cut.{line-from_first, none-from_first}
use Rattle.session_core.proofs.steps.first_break.Goals as goal

pub returns-clause-line : goal.returns-clause-line
returns-clause-line c = line-from_first c.args.bytes.now c.memchr.result c.memchr.ensures

pub returns-clause-none : goal.returns-clause-none
returns-clause-none c = none-from_first c.args.bytes.now c.memchr.result c.memchr.ensures
