use Rattle.std.proofs.lemmas.Result.{on_ok_weaker, on_err_weaker}
use Rattle.line_run.proofs.Progress.{begins}
use Rattle.line_run.proofs.feeder.Feeder.finish.Goals as goal

pub returns-clause-ended : goal.returns-clause-ended
returns-clause-ended g c = on_ok_weaker c.write_end.result (λ ends start held taken come.
    ends start held _ (begins (g.M.LineMachine.stands start) (g.M.LineMachine.ending start) (g.M.LineMachine.begins start) (c.in_ok-give_last.ensures.stands start held taken come))) c.write_end.ensures.ended

pub returns-clause-stopped : goal.returns-clause-stopped
returns-clause-stopped g c = on_err_weaker c.write_end.result (λ stop start held taken come.
    stop start held _ (begins (g.M.LineMachine.stands start) (g.M.LineMachine.ending start) (g.M.LineMachine.begins start) (c.in_ok-give_last.ensures.stands start held taken come))) c.write_end.ensures.stopped

pub returns-clause-keeps : goal.returns-clause-keeps
returns-clause-keeps g c = g.M.LineMachine.keeps_on _ _ _ c.give_last.ensures.keeps c.write_end.ensures.keeps
