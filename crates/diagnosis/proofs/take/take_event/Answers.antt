use Rattle.std.proofs.Common.{Some, None}
use Rattle.diagnosis.proofs.Taken.{event_taken}
use Rattle.diagnosis.proofs.take.take_event.Goals as goal

pub returns-in-None : goal.returns-in-None
returns-in-None c = λ config limits. event_taken config limits c.args.event None c.args.store.now c.apply.new.store (rw c.in-None.is at c.in_ok-apply.ensures)

pub returns-in-Some : goal.returns-in-Some
returns-in-Some c = λ config limits. event_taken config limits c.args.event (Some c.in-Some.fault) c.args.store.now c.apply.new.store (rw c.in-Some.is at c.in_ok-apply.ensures)
