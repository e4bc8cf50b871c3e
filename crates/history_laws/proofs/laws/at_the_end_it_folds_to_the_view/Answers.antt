use Rattle.history_laws.proofs.AtKeys.{held_at_keys}
use Rattle.history_laws.proofs.Deliveries.{end_folds_to_view}
use Rattle.history_laws.proofs.laws.at_the_end_it_folds_to_the_view.Goals as goal

pub returns : goal.returns
returns c program = end_folds_to_view program (held_at_keys program) c.messages_fold.ensures
