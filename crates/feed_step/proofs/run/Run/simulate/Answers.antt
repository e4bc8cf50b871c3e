use Rattle.std.proofs.Common.{refl}
use Rattle.feed_history.specs.Optional.{Becomes-weaker}
use Rattle.feed_step.proofs.Lines.{IfOk-weaker}
use Rattle.feed_step.proofs.Simulations.{simulated_err}
use Rattle.feed_step.proofs.run.Run.simulate.Goals as goal

pub returns-in-Err-clause-state : goal.returns-in-Err-clause-state
returns-in-Err-clause-state g c =
    let state = g.H.Machine.state in
    let patterns = c.args.self.now.patterns.now in
    let out = c.args.out.now.items in
    IfOk-weaker c.refusal_for.result _ _ (λ refusal is.
    Becomes-weaker (state c.args.self.now.hub.now) (state c.simulate.new.self) _ _
    (λ old new simulates. simulated_err (g.P.Patterns.tells patterns) (g.P.Patterns.refuses patterns) (g.P.Patterns.refusals patterns) (g.P.Patterns.refusals c.simulate.new.patterns) c.args.number c.args.request.now out out old new
    c.in-Err.ensures.asks.later c.in-Err.fault refusal simulates c.in-Err.ensures.asks.cause is refl) c.in-Err.ensures.state) c.refusal_for.ensures
