use Rattle.feed_history.specs.Optional.{Becomes-weaker}
use Rattle.feed_step.proofs.Calls.{drains_ok, left_err}
use Rattle.feed_step.proofs.Lines.{IfOk-weaker}
use Rattle.feed_step.proofs.drain.drain.Goals as goal

pub returns-in_ok-push_frames-in-Ok-clause-state : goal.returns-in_ok-push_frames-in-Ok-clause-state
returns-in_ok-push_frames-in-Ok-clause-state g c =
    Becomes-weaker _ _ _ _ (λ old new goes. drains_ok c.args.id _ _ old new _ goes c.in_ok-push_frames-in-Ok.ensures) c.in-Ok.ensures.state

pub returns-in-Err-clause-due : goal.returns-in-Err-clause-due
returns-in-Err-clause-due g c =
    IfOk-weaker c.undrained.result _ _ (λ outcome is.
    Becomes-weaker (g.H.Machine.due c.args.hub.now) (g.H.Machine.due c.drain.new.self) _ _ (λ was now leaves. left_err c.args.id.0 c.in-Err.fault outcome c.args.out.now.items c.undrained.new.out.items was now leaves is) c.in-Err.ensures.due) c.undrained.ensures
