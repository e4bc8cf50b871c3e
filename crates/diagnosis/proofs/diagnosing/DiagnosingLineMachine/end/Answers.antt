use Rattle.diagnosis.proofs.Rows.{ended}
use Rattle.diagnosis.proofs.diagnosing.DiagnosingLineMachine.end.Goals as goal

pub returns-clause-last : goal.returns-clause-last
returns-clause-last c = λ is start past sent refused ending.
    let old = c.args.self.now in
    ended start.config.now start.limits start.id start.query.now old.config.now old.limits old.id old.query.now ending.0
    past old.store c.in-Ok.view sent c.args.out.now.items c.push_view.new.out.items refused c.in-Ok.ensures.value c.in-Ok-push_view.ensures ending.1
