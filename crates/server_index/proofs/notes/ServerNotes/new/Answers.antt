use Rattle.server_index.proofs.Noted.{none_noted, none_true}
use Rattle.server_index.proofs.notes.ServerNotes.new.Goals as goal

pub returns : goal.returns
returns c = λ held. none_true held _ (none_noted c.new.result c.new.ensures.empty)
