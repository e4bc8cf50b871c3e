use Rattle.request_rules.proofs.Undecided.{not_found_where_no_match_holds}
use Rattle.request_rules.proofs.laws.not_found_where_no_match_holds.Goals as goal

pub returns : goal.returns
returns c = not_found_where_no_match_holds c.candidates_are_those_that_hold.ensures c.best_is_first.ensures
