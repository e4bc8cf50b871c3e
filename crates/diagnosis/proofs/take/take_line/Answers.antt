use Rattle.diagnosis.proofs.take.take_line.Goals as goal

pub returns-in-Event : goal.returns-in-Event
returns-in-Event c = rw c.in-Event.is c.take_event.ensures
