use Rattle.history_laws.proofs.AtKeys.{held_at_keys}
use Rattle.history_laws.proofs.Deliveries.{same_objects_same_view}
use Rattle.history_laws.proofs.laws.same_objects_same_view.Goals as goal

pub returns : goal.returns
returns c program = same_objects_same_view program (held_at_keys program) c.messages_fold.ensures
