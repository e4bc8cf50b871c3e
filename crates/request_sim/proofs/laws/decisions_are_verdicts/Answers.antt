use Rattle.request_sim.proofs.ByRows.{decisions_are_verdicts}
use Rattle.request_sim.proofs.laws.decisions_are_verdicts.Goals as goal

pub returns : goal.returns
returns c = decisions_are_verdicts c.rows_admit_as_their_objects.ensures c.rows_show_their_matches.ensures
