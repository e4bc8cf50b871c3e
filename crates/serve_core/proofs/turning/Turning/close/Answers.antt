use Rattle.std.proofs.Common.{refl}
use Rattle.serve_core.proofs.Closes.{IsLetGo, closes}
use Rattle.serve_core.proofs.CallSteps.{may_close}
use Rattle.serve_core.proofs.turning.Turning.close.Goals as goal

pub returns-clause-calls : goal.returns-clause-calls
returns-clause-calls g c = may_close g.N.Links c.args.links.now c.close-2.new.self c.args.number c.close-2.ensures.traced c.close-2.ensures.cause

pub returns-clause-closes : goal.returns-clause-closes
returns-clause-closes g c =
    let old = c.args.self.now in
    let gone : IsLetGo c.args.number old (record old { kept = c.close.new.self; hub = c.end_subscription.new.hub }) = record { config = refl; limits = refl; entries = c.close.ensures.entries; settled = c.close.ensures.settled } in
    closes c.args.number (g.N.Links.trace c.args.links.now) (g.N.Links.trace c.close-2.new.self) old (record old { kept = c.close.new.self; hub = c.end_subscription.new.hub })
    c.in-Some.role c.in-Some.ensures.role gone c.end_subscription.ensures.ends c.close-2.ensures.traced
