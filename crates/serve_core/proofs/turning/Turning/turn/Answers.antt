use Rattle.std.proofs.Common.{inr, ◌≤◌, List, Ok, Err, not, refl, subst, arith}
use Rattle.mesh_links.specs.declared.call.LinkEvent.{LinkEvent}
use Rattle.feed_history.specs.KnownPatterns.{known_over}
use Rattle.serve_core.specs.Turned.{GoesOnFrom}
use Rattle.std.proofs.lemmas.Result.{err_from_is_err_and}
use Rattle.serve_core.proofs.CallSteps.{made_as, made_then, poll_ends}
use Rattle.serve_core.proofs.WholeTurns.{turn_cut, turn_faults, turn_taken}
use Rattle.serve_core.proofs.turning.Turning.turn.Goals as goal

pub returns-in_err-events-clause-calls : goal.returns-in_err-events-clause-calls
returns-in_err-events-clause-calls g c =
    let p = err_from_is_err_and c.from_residual.result c.from_residual.ensures.1 in
    rw (p.1, p.2) (made_as g.N.Links c.args.links.now c.poll_now.new.links (poll_ends c.in_err-events.field-0.0) c.in_err-events.ensures.calls)

pub returns-in-Ok-clause-calls : goal.returns-in-Ok-clause-calls
returns-in-Ok-clause-calls g c =
    let N = g.N.Links in
    let new = c.go_on.new.links in
    made_as N c.args.links.now new (λ made is. (c.in_ok-events.events, is)) (made_then N c.args.links.now c.poll_now.new.links new c.in_ok-events.ensures.calls c.in-Ok.ensures.calls)

pub returns-clause-calls : goal.returns-clause-calls
returns-clause-calls g c =
    let N = g.N.Links in
    let new = c.go_on.new.links in
    made_as N c.args.links.now new (λ made is. inr (c.in_ok-events.events, is)) (made_then N c.args.links.now c.poll_now.new.links new c.in_ok-events.ensures.calls c.in-Err.ensures.calls)

pub returns-in_err-events-clause-turns : goal.returns-in_err-events-clause-turns
returns-in_err-events-clause-turns g c =
    let P = g.P.Patterns in
    let T = g.N.Links.trace in
    let old = c.args.patterns.now in
    let later : P.refusals old ≤ P.refusals old = omega arith in
    let p = err_from_is_err_and c.from_residual.result c.from_residual.ensures.1 in
    rw (p.1, p.2) (turn_faults (known_over P old old) (T c.args.links.now) c.args.self.now c.has_work.result (not c.has_work.result) c.has_work.ensures refl (T c.poll_now.new.links) later c.in_err-events.field-0.0 c.in_err-events.ensures.polls)

pub returns-in-Ok-clause-turns : goal.returns-in-Ok-clause-turns
returns-in-Ok-clause-turns g c =
    let P = g.P.Patterns in
    let T = g.N.Links.trace in
    let known = known_over P c.args.patterns.now c.go_on.new.patterns in
    let follows = subst (λ (shown : List LinkEvent). GoesOnFrom known shown (T c.poll_now.new.links) c.args.self.now (Ok c.in-Ok.turn) (T c.go_on.new.links) c.go_on.new.self) c.as_slice.ensures c.in-Ok.ensures.follows in
    turn_taken known (T c.args.links.now) c.args.self.now c.has_work.result (not c.has_work.result) c.has_work.ensures refl (T c.poll_now.new.links) c.in_ok-events.events c.in_ok-events.ensures.polls (T c.go_on.new.links) c.go_on.new.self c.in-Ok.turn
    follows

pub returns-clause-turns : goal.returns-clause-turns
returns-clause-turns g c =
    let P = g.P.Patterns in
    let T = g.N.Links.trace in
    let known = known_over P c.args.patterns.now c.go_on.new.patterns in
    let follows = subst (λ (shown : List LinkEvent). GoesOnFrom known shown (T c.poll_now.new.links) c.args.self.now (Err c.in-Err.field-0) (T c.go_on.new.links) c.go_on.new.self) c.as_slice.ensures c.in-Err.ensures.follows in
    turn_cut known (T c.args.links.now) c.args.self.now c.has_work.result (not c.has_work.result) c.has_work.ensures refl (T c.poll_now.new.links) c.in_ok-events.events c.in_ok-events.ensures.polls (T c.go_on.new.links) c.go_on.new.self c.in-Err.field-0
    follows
