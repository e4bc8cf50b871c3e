use Rattle.std.proofs.lemmas.Result.{on_ok_weaker, on_err_weaker}
use Rattle.line_run.proofs.Steps.{ends_part, ends_empty, part_stops}
use Rattle.line_run.proofs.feeder.Feeder.give_last.Goals as goal

pub returns-then-has_last-clause-stands : goal.returns-then-has_last-clause-stands
returns-then-has_last-clause-stands g c = on_ok_weaker c.give.result (λ step start held taken come.
    ends_part (g.M.LineMachine.stands start) c.has_last.result come (c.has_last.ensures c.args.limit) c.if-has_last.true (λ past counted says. step start held past counted says)) c.give.ensures.stands

pub returns-then-has_last-clause-stopped : goal.returns-then-has_last-clause-stopped
returns-then-has_last-clause-stopped g c = on_err_weaker c.give.result (λ stop start held taken come.
    part_stops (g.M.LineMachine.stands start) (g.M.LineMachine.ending start) (g.M.LineMachine.ended start) _ c.has_last.result come (c.has_last.ensures c.args.limit) c.if-has_last.true
    (λ past rest counted says. stop start held past rest counted says)) c.give.ensures.stopped

pub returns-clause-stands : goal.returns-clause-stands
returns-clause-stands g c = λ start held taken come. ends_empty (g.M.LineMachine.stands start) c.has_last.result come (c.has_last.ensures c.args.limit) c.if-has_last.false

pub returns-clause-keeps : goal.returns-clause-keeps
returns-clause-keeps g c = g.M.LineMachine.keeps_itself _
