use Rattle.feed_step.proofs.run.Run.apply.Goals as goal

pub returns-in-None-clause-state : goal.returns-in-None-clause-state
returns-in-None-clause-state g c = rw c.in-None.is at c.in_ok-apply.ensures.state

pub returns-in-None-clause-due : goal.returns-in-None-clause-due
returns-in-None-clause-due g c = rw c.in-None.is at c.in_ok-apply.ensures.due

pub returns-in-None-clause-replies : goal.returns-in-None-clause-replies
returns-in-None-clause-replies g c = rw c.in-None.is at c.in_ok-apply.ensures.replies

pub returns-in-None-clause-follows : goal.returns-in-None-clause-follows
returns-in-None-clause-follows g c = λ held follows. c.take.ensures.follows held c.args.event follows c.in_ok-note.ensures

pub returns-in-Some-clause-state : goal.returns-in-Some-clause-state
returns-in-Some-clause-state g c = rw c.in-Some.is at c.in_ok-apply.ensures.state

pub returns-in-Some-clause-due : goal.returns-in-Some-clause-due
returns-in-Some-clause-due g c = rw c.in-Some.is at c.in_ok-apply.ensures.due

pub returns-in-Some-clause-replies : goal.returns-in-Some-clause-replies
returns-in-Some-clause-replies g c = rw c.in-Some.is at c.in_ok-apply.ensures.replies

pub returns-in-Some-clause-follows : goal.returns-in-Some-clause-follows
returns-in-Some-clause-follows g c = λ held follows. follows
