use Rattle.std.proofs.Common.{sym, subst}
use Rattle.mesh_links.specs.declared.call.LinkEvent.{LinkEvent}
use Rattle.serve_core.specs.Shown.{Shows}
use Rattle.serve_core.proofs.ShownEvents.{readable_shown, writable_shown}
use Rattle.serve_core.proofs.turning.Turning.show.Goals as goal

pub returns-in-New-clause-shows : goal.returns-in-New-clause-shows
returns-in-New-clause-shows g c =
    let T = g.N.Links.trace in
    subst (λ (event : LinkEvent). Shows event (T c.args.links.now) c.args.self.now c.admit.result (T c.admit.new.links) c.admit.new.self) (sym c.in-New.is) c.admit.ensures.shows

pub returns-in-Readable-clause-shows : goal.returns-in-Readable-clause-shows
returns-in-Readable-clause-shows g c =
    let T = g.N.Links.trace in
    let call = c.set_readable in
    subst (λ (event : LinkEvent). Shows event (T c.args.links.now) c.args.self.now call.result (T c.args.links.now) (record c.args.self.now { kept = call.new.self })) (sym c.in-Readable.is)
    (readable_shown c.in-Readable.number c.args.self.now call.new.self (T c.args.links.now) call.result call.ensures.entries call.ensures.settled)

pub returns-in-Writable-clause-shows : goal.returns-in-Writable-clause-shows
returns-in-Writable-clause-shows g c =
    let T = g.N.Links.trace in
    let call = c.set_writable in
    subst (λ (event : LinkEvent). Shows event (T c.args.links.now) c.args.self.now call.result (T c.args.links.now) (record c.args.self.now { kept = call.new.self })) (sym c.in-Writable.is)
    (writable_shown c.in-Writable.number c.args.self.now call.new.self (T c.args.links.now) call.result call.ensures.entries call.ensures.settled)
