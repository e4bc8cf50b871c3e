use Rattle.std.proofs.Common.{Ok, Err}
use Rattle.std.proofs.lemmas.Result.{err_from_is_err_and}
use Rattle.feed_history.specs.KnownPatterns.{goes_on_further}
use Rattle.serve_core.specs.Steps.{step_of}
use Rattle.serve_core.specs.TurnCalls.{Visit}
use Rattle.serve_core.specs.declared.turning.Pass.TheVariants as passes
use Rattle.serve_core.proofs.CallSteps.{made_then, none_passed}
use Rattle.serve_core.proofs.ServedLinks.{cut_drains, cut_found, cut_reads, pass_as, serves_last}
use Rattle.serve_core.proofs.turning.Turning.pass_over.Goals as goal

pub returns-in_err-each-clause-calls : goal.returns-in_err-each-clause-calls
returns-in_err-each-clause-calls g c =
    let N = g.N.Links in
    let mid = c.each.new.links in
    made_then N c.args.links.now mid mid c.each.ensures.calls (made_then N mid mid mid (none_passed N mid (Visit passes.Drains)) (none_passed N mid (Visit passes.Writes)))

pub returns-in_err-find_due-clause-calls : goal.returns-in_err-find_due-clause-calls
returns-in_err-find_due-clause-calls g c =
    let N = g.N.Links in
    let mid = c.each.new.links in
    made_then N c.args.links.now mid mid c.each.ensures.calls (made_then N mid mid mid (none_passed N mid (Visit passes.Drains)) (none_passed N mid (Visit passes.Writes)))

pub returns-in_err-each-2-clause-calls : goal.returns-in_err-each-2-clause-calls
returns-in_err-each-2-clause-calls g c =
    let N = g.N.Links in
    let mid = c.each.new.links in
    let new = c.each-2.new.links in
    made_then N c.args.links.now mid new c.each.ensures.calls (made_then N mid new new c.each-2.ensures.calls (none_passed N new (Visit passes.Writes)))

pub returns-clause-calls : goal.returns-clause-calls
returns-clause-calls g c =
    let N = g.N.Links in
    let mid = c.each.new.links in
    let late = c.each-2.new.links in
    let new = c.each-3.new.links in
    made_then N c.args.links.now mid new c.each.ensures.calls (made_then N mid late new c.each-2.ensures.calls c.each-3.ensures.calls)

pub returns-in_err-each-clause-serves : goal.returns-in_err-each-clause-serves
returns-in_err-each-clause-serves g c =
    let P = g.P.Patterns in
    let T = g.N.Links.trace in
    let old = c.args.patterns.now in
    let first = c.each.new.patterns in
    let p = err_from_is_err_and c.from_residual.result c.from_residual.ensures.1 in
    rw p.1 (cut_reads (P.tells old) (P.refuses old) (P.refusals old) (P.refusals first) (T c.args.links.now) c.args.self.now p.0 (T c.each.new.links) c.each.new.self (c.in_err-each.ensures.passes tt))

pub returns-in_err-find_due-clause-serves : goal.returns-in_err-find_due-clause-serves
returns-in_err-find_due-clause-serves g c =
    let P = g.P.Patterns in
    let T = g.N.Links.trace in
    let old = c.args.patterns.now in
    let first = c.each.new.patterns in
    let p = err_from_is_err_and c.from_residual-in_err-find_due.result c.from_residual-in_err-find_due.ensures.1 in
    rw p.1 (cut_found (P.tells old) (P.refuses old) (P.refusals old) (P.refusals first) (T c.args.links.now) c.args.self.now (T c.each.new.links) c.each.new.self (c.in_ok-each.ensures.passes tt) p.0 c.find_due.new.self)

pub returns-in_err-each-2-clause-serves : goal.returns-in_err-each-2-clause-serves
returns-in_err-each-2-clause-serves g c =
    let P = g.P.Patterns in
    let T = g.N.Links.trace in
    let old = c.args.patterns.now in
    let first = c.each.new.patterns in
    let second = c.each-2.new.patterns in
    let drains = pass_as (step_of passes.Drains) (P.tells old) (P.tells first) (P.refuses old) (P.refuses first) (P.refusals first) (P.refusals second) (T c.each.new.links) c.find_due.new.self (Err c.in_err-each-2.field-0.0) (T c.each-2.new.links) c.each-2.new.self
    c.each.ensures.goes_on.same_tells c.each.ensures.goes_on.same_refuses (c.in_err-each-2.ensures.passes c.in_ok-find_due.ensures.ready) in
    let p = err_from_is_err_and c.from_residual-in_err-each-2.result c.from_residual-in_err-each-2.ensures.1 in
    rw p.1 (cut_drains (P.tells old) (P.refuses old) (P.refusals old) (P.refusals first) (T c.args.links.now) c.args.self.now (T c.each.new.links) c.each.new.self (c.in_ok-each.ensures.passes tt) (P.refusals second) c.find_due.new.self c.in_ok-find_due.ensures.same p.0 (T c.each-2.new.links) c.each-2.new.self drains)

pub returns-clause-serves : goal.returns-clause-serves
returns-clause-serves g c =
    let P = g.P.Patterns in
    let T = g.N.Links.trace in
    let old = c.args.patterns.now in
    let first = c.each.new.patterns in
    let second = c.each-2.new.patterns in
    let drains = pass_as (step_of passes.Drains) (P.tells old) (P.tells first) (P.refuses old) (P.refuses first) (P.refusals first) (P.refusals second) (T c.each.new.links) c.find_due.new.self (Ok tt) (T c.each-2.new.links) c.each-2.new.self
    c.each.ensures.goes_on.same_tells c.each.ensures.goes_on.same_refuses (c.in_ok-each-2.ensures.passes c.in_ok-find_due.ensures.ready) in
    let third = c.each-3.new.patterns in
    let on = goes_on_further c.each.ensures.goes_on c.each-2.ensures.goes_on in
    let writes = pass_as (step_of passes.Writes) (P.tells old) (P.tells second) (P.refuses old) (P.refuses second) (P.refusals second) (P.refusals third) (T c.each-2.new.links) c.each-2.new.self c.each-3.result (T c.each-3.new.links) c.each-3.new.self
    on.same_tells on.same_refuses (c.each-3.ensures.passes tt) in
    serves_last (P.tells old) (P.refuses old) (P.refusals old) (P.refusals first) (T c.args.links.now) c.args.self.now (T c.each.new.links) c.each.new.self (c.in_ok-each.ensures.passes tt) (P.refusals second) c.find_due.new.self c.in_ok-find_due.ensures.same (T c.each-2.new.links) c.each-2.new.self drains (P.refusals third) c.each-3.result
    (T c.each-3.new.links) c.each-3.new.self writes
