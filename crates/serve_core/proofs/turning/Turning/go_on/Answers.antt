use Rattle.std.proofs.Common.{◌≤◌, Ok, Err, ap, subst, sym, arith}
use Rattle.std.proofs.lemmas.Result.{err_from_is_err_and}
use Rattle.feed_history.specs.KnownPatterns.{known_over}
use Rattle.fed_hub.specs.declared.hub.FedHub.{FedHub}
use Rattle.serve_core.specs.Turned.{GoesOnFrom}
use Rattle.serve_core.specs.declared.server.Turn.TheVariants as answers
use Rattle.serve_core.specs.declared.turning.Turning.{Turning}
use Rattle.serve_core.proofs.CallSteps.{made_then, no_passes, none_made}
use Rattle.serve_core.proofs.TurnParts.{cut_serving, cut_showing, ends_going, ends_stopped}
use Rattle.serve_core.proofs.WholeTurns.{goes_begun}
use Rattle.serve_core.proofs.turning.Turning.go_on.Goals as goal

pub returns-in_err-show_all-clause-calls : goal.returns-in_err-show_all-clause-calls
returns-in_err-show_all-clause-calls g c =
    let N = g.N.Links in
    let new = c.show_all.new.links in
    let p = err_from_is_err_and c.from_residual.result c.from_residual.ensures.1 in
    rw p.1 (made_then N c.args.links.now new new c.show_all.ensures.calls (made_then N new new new (no_passes N new) (none_made N new)))

pub returns-in_err-pass_over-clause-calls : goal.returns-in_err-pass_over-clause-calls
returns-in_err-pass_over-clause-calls g c =
    let N = g.N.Links in
    let mid = c.show_all.new.links in
    let new = c.pass_over.new.links in
    let p = err_from_is_err_and c.from_residual-in_err-pass_over.result c.from_residual-in_err-pass_over.ensures.1 in
    rw p.1 (made_then N c.args.links.now mid new c.show_all.ensures.calls (made_then N mid new new c.pass_over.ensures.calls (none_made N new)))

pub returns-then-not-has_stopped-clause-calls : goal.returns-then-not-has_stopped-clause-calls
returns-then-not-has_stopped-clause-calls g c =
    let N = g.N.Links in
    let mid = c.show_all.new.links in
    let new = c.pass_over.new.links in
    made_then N c.args.links.now mid new c.show_all.ensures.calls (made_then N mid new new c.pass_over.ensures.calls (none_made N new))

pub returns-clause-calls : goal.returns-clause-calls
returns-clause-calls g c =
    let N = g.N.Links in
    let mid = c.show_all.new.links in
    let late = c.pass_over.new.links in
    let new = c.close_all.new.links in
    made_then N c.args.links.now mid new c.show_all.ensures.calls (made_then N mid late new c.pass_over.ensures.calls c.close_all.ensures.calls)

pub returns-in_err-show_all-clause-follows : goal.returns-in_err-show_all-clause-follows
returns-in_err-show_all-clause-follows g c =
    let P = g.P.Patterns in
    let T = g.N.Links.trace in
    let old = c.args.patterns.now in
    let began : Turning = record c.args.self.now { hub = c.begin_turn.new.self } in
    let p = err_from_is_err_and c.from_residual.result c.from_residual.ensures.1 in
    let later : P.refusals old ≤ P.refusals old = omega arith in
    rw p.1 (
    goes_begun (known_over P old old) c.args.events.now (T c.args.links.now) c.args.self.now (Err p.0) (T c.show_all.new.links) c.show_all.new.self
    (subst (λ (hub : FedHub). GoesOnFrom (known_over P old old) c.args.events.now (T c.args.links.now) (record c.args.self.now { hub = hub }) (Err p.0) (T c.show_all.new.links) c.show_all.new.self) c.begin_turn.ensures
    (cut_showing c.args.events.now (P.tells old) (P.refuses old) (T c.args.links.now) began (P.refusals old) (P.refusals old) later p.0 (T c.show_all.new.links) c.show_all.new.self c.in_err-show_all.ensures.shows))
    )

pub returns-in_err-pass_over-clause-follows : goal.returns-in_err-pass_over-clause-follows
returns-in_err-pass_over-clause-follows g c =
    let P = g.P.Patterns in
    let T = g.N.Links.trace in
    let old = c.args.patterns.now in
    let began : Turning = record c.args.self.now { hub = c.begin_turn.new.self } in
    let now = c.pass_over.new.patterns in
    let p = err_from_is_err_and c.from_residual-in_err-pass_over.result c.from_residual-in_err-pass_over.ensures.1 in
    rw p.1 (
    goes_begun (known_over P old now) c.args.events.now (T c.args.links.now) c.args.self.now (Err p.0) (T c.pass_over.new.links) c.pass_over.new.self
    (subst (λ (hub : FedHub). GoesOnFrom (known_over P old now) c.args.events.now (T c.args.links.now) (record c.args.self.now { hub = hub }) (Err p.0) (T c.pass_over.new.links) c.pass_over.new.self) c.begin_turn.ensures
    (cut_serving c.args.events.now (P.tells old) (P.refuses old) (T c.args.links.now) began (T c.show_all.new.links) c.show_all.new.self c.in_ok-show_all.ensures.shows (ap (λ (t : Turning). t.hub) c.in_ok-show_all.ensures.same) (P.refusals old) (P.refusals now) p.0 (T c.pass_over.new.links) c.pass_over.new.self c.in_err-pass_over.ensures.serves))
    )

pub returns-then-not-has_stopped-clause-follows : goal.returns-then-not-has_stopped-clause-follows
returns-then-not-has_stopped-clause-follows g c =
    let P = g.P.Patterns in
    let T = g.N.Links.trace in
    let old = c.args.patterns.now in
    let began : Turning = record c.args.self.now { hub = c.begin_turn.new.self } in
    let now = c.pass_over.new.patterns in
    goes_begun (known_over P old now) c.args.events.now (T c.args.links.now) c.args.self.now (Ok answers.Going) (T c.pass_over.new.links) c.pass_over.new.self
    (subst (λ (hub : FedHub). GoesOnFrom (known_over P old now) c.args.events.now (T c.args.links.now) (record c.args.self.now { hub = hub }) (Ok answers.Going) (T c.pass_over.new.links) c.pass_over.new.self) c.begin_turn.ensures
    (ends_going c.args.events.now (P.tells old) (P.refuses old) (T c.args.links.now) began (T c.show_all.new.links) c.show_all.new.self c.in_ok-show_all.ensures.shows (ap (λ (t : Turning). t.hub) c.in_ok-show_all.ensures.same) (P.refusals old) (P.refusals now) (T c.pass_over.new.links) c.pass_over.new.self c.in_ok-pass_over.ensures.serves (ap (λ (hub : FedHub). hub.stopped) c.begin_turn.ensures) (sym c.if-not-has_stopped.ensures)))

pub returns-clause-follows : goal.returns-clause-follows
returns-clause-follows g c =
    let P = g.P.Patterns in
    let T = g.N.Links.trace in
    let old = c.args.patterns.now in
    let began : Turning = record c.args.self.now { hub = c.begin_turn.new.self } in
    let now = c.pass_over.new.patterns in
    goes_begun (known_over P old now) c.args.events.now (T c.args.links.now) c.args.self.now (Ok answers.Stopped) (T c.close_all.new.links) c.close_all.new.self
    (subst (λ (hub : FedHub). GoesOnFrom (known_over P old now) c.args.events.now (T c.args.links.now) (record c.args.self.now { hub = hub }) (Ok answers.Stopped) (T c.close_all.new.links) c.close_all.new.self) c.begin_turn.ensures
    (ends_stopped c.args.events.now (P.tells old) (P.refuses old) (T c.args.links.now) began (T c.show_all.new.links) c.show_all.new.self c.in_ok-show_all.ensures.shows (ap (λ (t : Turning). t.hub) c.in_ok-show_all.ensures.same) (P.refusals old) (P.refusals now) (T c.pass_over.new.links) c.pass_over.new.self c.in_ok-pass_over.ensures.serves (ap (λ (hub : FedHub). hub.stopped) c.begin_turn.ensures) (sym c.if-not-has_stopped.ensures) (P.refusals now) (T c.close_all.new.links) c.close_all.new.self (c.close_all.ensures.closes (P.tells old) (P.refuses old) (P.refusals now))))
