use Rattle.feed_history.specs.Optional.{Becomes-weaker}
use Rattle.feed_step.proofs.Calls.{due_err}
use Rattle.feed_step.proofs.Lines.{IfOk-weaker, IfSome-weaker}
use Rattle.feed_step.proofs.take.apply.Goals as goal

pub returns-in-Err-clause-due : goal.returns-in-Err-clause-due
returns-in-Err-clause-due g c =
    let hub = c.args.hub.now in
    IfOk-weaker c.refusal_by.result _ _ (λ refusal is.
    Becomes-weaker (g.H.Machine.due hub) (g.H.Machine.due c.apply.new.self) _ _ (λ was now stays.
    IfSome-weaker (g.H.Machine.state hub) _ _ (λ old due. due_err _ c.in-Err.fault refusal was now due is) stays) c.in-Err.ensures.due) c.refusal_by.ensures
