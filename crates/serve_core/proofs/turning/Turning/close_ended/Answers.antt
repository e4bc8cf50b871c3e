use Rattle.std.proofs.Common.{refl, sym}
use Rattle.serve_core.proofs.Settles.{settles_closed, settles_open}
use Rattle.serve_core.proofs.turning.Turning.close_ended.Goals as goal

pub returns-then-not-stays_open-clause-settles : goal.returns-then-not-stays_open-clause-settles
returns-then-not-stays_open-clause-settles g c =
    settles_closed c.args.number (g.N.Links.trace c.args.links.now) (g.N.Links.trace c.close.new.links) c.args.self.now c.close.new.self (sym c.if-not-stays_open.ensures) c.close.ensures.closes

pub returns-else-not-stays_open-clause-settles : goal.returns-else-not-stays_open-clause-settles
returns-else-not-stays_open-clause-settles g c =
    settles_open c.args.number (g.N.Links.trace c.args.links.now) (g.N.Links.trace c.args.links.now) c.args.self.now c.args.self.now refl refl (sym c.if-not-stays_open.ensures)
