use Rattle.line_run.proofs.Joined.{lines_are, are_lines}
use Rattle.line_run.proofs.laws.lines_join.Goals as goal

pub returns : goal.returns
returns c = λ lines. (lines_are c.args.text.now lines, are_lines c.args.text.now lines)
