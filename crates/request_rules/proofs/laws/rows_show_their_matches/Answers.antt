use Rattle.request_rules.proofs.Shapes.{rows_show_their_matches}
use Rattle.request_rules.proofs.laws.rows_show_their_matches.Goals as goal

pub returns : goal.returns
returns c = rows_show_their_matches
