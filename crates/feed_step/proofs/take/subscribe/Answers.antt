use Rattle.feed_history.specs.Optional.{Becomes-weaker}
use Rattle.feed_step.proofs.Calls.{due_err}
use Rattle.feed_step.proofs.Lines.{IfOk-weaker}
use Rattle.feed_step.proofs.take.subscribe.Goals as goal

pub returns-in-Err-clause-due : goal.returns-in-Err-clause-due
returns-in-Err-clause-due g c =
    IfOk-weaker c.refusal_by.result _ _ (λ refusal is.
    Becomes-weaker (g.H.Machine.due c.args.hub.now) (g.H.Machine.due c.subscribe.new.self) _ _ (λ was now due. due_err _ c.in-Err.fault refusal was now due is) c.in-Err.ensures.due) c.refusal_by.ensures
