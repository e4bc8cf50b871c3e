use Rattle.history_laws.proofs.AtKeys.{held_at_keys}
use Rattle.history_laws.proofs.Deliveries.{folds_to_view}
use Rattle.history_laws.proofs.laws.what_is_sent_folds_to_the_view.Goals as goal

pub returns : goal.returns
returns c program = folds_to_view program (held_at_keys program) c.messages_fold.ensures
