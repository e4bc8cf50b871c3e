use Rattle.std.proofs.Common.{Some, None, refl, sym, subst, ◌∙◌}
use Rattle.std.proofs.lemmas.Result.{err_from_is_err_and}
use Rattle.fed_hub.specs.HubSteps.{DrainsAt}
use Rattle.serve_core.specs.declared.turning.Turning.{Turning}
use Rattle.serve_core.proofs.Closes.{IsLetGo}
use Rattle.serve_core.proofs.Draining.{ended_then, filled_by, undrained, unfilled}
use Rattle.serve_core.proofs.turning.Turning.drain.Goals as goal

pub returns-in_default-clause-steps : goal.returns-in_default-clause-steps
returns-in_default-clause-steps g c tells refuses count =
    let trace = g.N.Links.trace c.args.links.now in
    undrained c.args.number trace trace c.args.self.now c.args.self.now tells refuses count refl refl (sym c.in_default.is ∙ c.subscription.ensures)

pub returns-in_err-frames-clause-steps : goal.returns-in_err-frames-clause-steps
returns-in_err-frames-clause-steps g c tells refuses count =
    let trace = g.N.Links.trace c.args.links.now in
    let p = err_from_is_err_and c.from_residual.result c.from_residual.ensures.1 in
    rw p.1 (unfilled c.args.number trace trace c.args.self.now (record c.args.self.now { hub = c.drain.new.self }) tells refuses count refl)

pub returns-in-Some-2-clause-steps : goal.returns-in-Some-2-clause-steps
returns-in-Some-2-clause-steps g c tells refuses count =
    let trace = g.N.Links.trace c.args.links.now in
    let old = c.args.self.now in
    let hub = c.drain.new.self in
    let new : Turning = record old { hub = hub; kept = c.put.new.self } in
    let drains : DrainsAt c.in-Some.id.0 old.hub hub (Some c.in-Some-2.frames) = subst (λ answer. DrainsAt c.in-Some.id.0 old.hub hub answer) c.in-Some-2.is c.in_ok-frames.ensures.drains in
    filled_by c.args.number trace trace old new tells refuses count c.in-Some.id (sym c.in-Some.is ∙ c.subscription.ensures) hub refl refl refl c.in-Some-2.frames c.put.result refl drains c.put.ensures.entries c.put.ensures.settled

pub returns-in-None-clause-steps : goal.returns-in-None-clause-steps
returns-in-None-clause-steps g c tells refuses count =
    let old = c.args.self.now in
    let drains : DrainsAt c.in-Some.id.0 old.hub c.drain.new.self None = subst (λ answer. DrainsAt c.in-Some.id.0 old.hub c.drain.new.self answer) c.in-None.is c.in_ok-frames.ensures.drains in
    let gone : IsLetGo c.args.number old c.let_go.new.self = record { config = c.let_go.ensures.config; limits = c.let_go.ensures.limits; entries = c.let_go.ensures.entries; settled = c.let_go.ensures.settled } in
    ended_then c.args.number (g.N.Links.trace c.args.links.now) (g.N.Links.trace c.let_go.new.links) old c.let_go.new.self tells refuses count
    c.in-Some.id (sym c.in-Some.is ∙ c.subscription.ensures) c.drain.new.self c.let_go.ensures.hub c.let_go.ensures.config c.let_go.ensures.limits
    drains gone c.let_go.ensures.calls.grows c.let_go.ensures.traced
