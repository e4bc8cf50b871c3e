use Rattle.serve_core.proofs.CallSteps.{may_close}
use Rattle.serve_core.proofs.turning.Turning.let_go.Goals as goal

pub returns-clause-calls : goal.returns-clause-calls
returns-clause-calls g c = may_close g.N.Links c.args.links.now c.close-2.new.self c.args.number c.close-2.ensures.traced c.close-2.ensures.cause
