use Rattle.history_laws.proofs.AtKeys.{held_at_keys}
use Rattle.history_laws.proofs.Deliveries.{folds_to_what_was_shown}
use Rattle.history_laws.proofs.laws.what_is_sent_folds_to_what_was_shown.Goals as goal

pub returns : goal.returns
returns c program = folds_to_what_was_shown program (held_at_keys program) c.messages_fold.ensures
