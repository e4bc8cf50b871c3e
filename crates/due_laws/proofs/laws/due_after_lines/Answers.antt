use Rattle.due_laws.proofs.Lookback.{due_after_rows}
use Rattle.due_laws.proofs.laws.due_after_lines.Goals as goal

pub returns : goal.returns
returns c program = due_after_rows program (c.last_line_decides_live.ensures program)
