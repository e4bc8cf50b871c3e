use Rattle.due_laws.proofs.Calls as proved
use Rattle.due_laws.proofs.laws.calls_are_due_histories.Goals as goal

pub returns : goal.returns
returns c = proved.calls_are_due_histories c.last_line_decides_live.ensures c.due_after_lines.ensures c.due_are_live.ensures
