use Rattle.std.proofs.Common.{◌+◌, ◌^◌, ◌≤◌, ◌<◌, ℕ, Ok, Err, arith}
use Rattle.std.proofs.lemmas.Result.{err_from_is_err_and}
use Rattle.feed_history.specs.KnownPatterns.{goes_on_further, goes_on_here}
use Rattle.serve_core.specs.TurnCalls.{Visit}
use Rattle.serve_core.proofs.CallSteps.{none_visited, passed, visited}
use Rattle.serve_core.proofs.PassGoesOn.{pass_begins, pass_cut, pass_ends, pass_full, pass_goes_on, step_as}
use Rattle.serve_core.proofs.turning.Turning.each.Goals as goal

at_least : (n most : ℕ) → (n < most → ⊥) → most ≤ n
at_least n most none = omega (arith, none)

pub returns-in_err-step-clause-calls : goal.returns-in_err-step-clause-calls
returns-in_err-step-clause-calls g c =
    visited g.N.Links c.args.links.now c.loop-number.links c.step.new.links (Visit c.args.pass) c.loop-number.from c.in-Some.number (2 ^ 32) c.in-Some.ensures.later (omega arith) c.loop-number.invariant.calls c.step.ensures.calls

pub returns-in_err-step-clause-passes : goal.returns-in_err-step-clause-passes
returns-in_err-step-clause-passes g c =
    let P = g.P.Patterns in
    let T = g.N.Links.trace in
    let old = c.args.patterns.now in
    let between = c.loop-number.patterns in
    let before = c.loop-number.invariant in
    let n = c.in-Some.number in
    let takes = step_as c.args.pass n (P.tells old) (P.tells between) (P.refuses old) (P.refuses between) (P.refusals between) (P.refusals c.step.new.patterns) (T c.loop-number.links) c.loop-number.self (Err c.in_err-step.field-0.0) (T c.step.new.links) c.step.new.self
    before.goes_on.same_tells before.goes_on.same_refuses c.in_err-step.ensures.steps in
    let p = err_from_is_err_and c.from_residual.result c.from_residual.ensures.1 in
    λ ready. rw p.1 (pass_cut c.args.pass (P.tells old) (P.refuses old) (P.refusals old) (T c.args.links.now) c.args.self.now (P.refusals between) (P.refusals c.step.new.patterns) c.loop-number.from (T c.loop-number.links) c.loop-number.self before.passes n c.in-Some.ensures.first (T c.step.new.links) c.step.new.self p.0 takes ready)

pub loop-number-init : goal.loop-number-init
loop-number-init g c =
    let P = g.P.Patterns in
    let old = c.args.patterns.now in
    record {
      bound = omega arith;
      calls = none_visited g.N.Links c.args.links.now (Visit c.args.pass) 0;
      passes = pass_begins c.args.pass (P.tells old) (P.refuses old) (P.refusals old) (g.N.Links.trace c.args.links.now) c.args.self.now;
      goes_on = goes_on_here (P.tells old) (P.refuses old) (P.refusals old);
    }

pub loop-number-preserved : goal.loop-number-preserved
loop-number-preserved g c =
    let P = g.P.Patterns in
    let T = g.N.Links.trace in
    let old = c.args.patterns.now in
    let between = c.loop-number.patterns in
    let before = c.loop-number.invariant in
    let n = c.in-Some.number in
    let after = c.in-Some-checked_add.after in
    let takes = step_as c.args.pass n (P.tells old) (P.tells between) (P.refuses old) (P.refuses between) (P.refusals between) (P.refusals c.step.new.patterns) (T c.loop-number.links) c.loop-number.self (Ok tt) (T c.step.new.links) c.step.new.self
    before.goes_on.same_tells before.goes_on.same_refuses c.in_ok-step.ensures.steps in
    record {
      bound = omega arith;
      calls = visited g.N.Links c.args.links.now c.loop-number.links c.step.new.links (Visit c.args.pass) c.loop-number.from c.in-Some.number after c.in-Some.ensures.later (omega (arith, c.in-Some-checked_add.ensures)) before.calls c.step.ensures.calls;
      passes = pass_goes_on c.args.pass (P.tells old) (P.refuses old) (P.refusals old) (T c.args.links.now) c.args.self.now (P.refusals between) (P.refusals c.step.new.patterns) c.loop-number.from (T c.loop-number.links) c.loop-number.self before.passes n c.in-Some.ensures.first (T c.step.new.links) c.step.new.self after c.in-Some.ensures.later (omega (arith, c.in-Some-checked_add.ensures)) c.in_ok-step.ensures.drains takes;
      goes_on = goes_on_further before.goes_on c.step.ensures.goes_on;
    }

pub returns-in-None-clause-calls : goal.returns-in-None-clause-calls
returns-in-None-clause-calls g c =
    visited g.N.Links c.args.links.now c.loop-number.links c.step.new.links (Visit c.args.pass) c.loop-number.from c.in-Some.number (2 ^ 32) c.in-Some.ensures.later (omega arith) c.loop-number.invariant.calls c.step.ensures.calls

pub returns-in-None-clause-passes : goal.returns-in-None-clause-passes
returns-in-None-clause-passes g c =
    let P = g.P.Patterns in
    let T = g.N.Links.trace in
    let old = c.args.patterns.now in
    let between = c.loop-number.patterns in
    let before = c.loop-number.invariant in
    let n = c.in-Some.number in
    let takes = step_as c.args.pass n (P.tells old) (P.tells between) (P.refuses old) (P.refuses between) (P.refusals between) (P.refusals c.step.new.patterns) (T c.loop-number.links) c.loop-number.self (Ok tt) (T c.step.new.links) c.step.new.self
    before.goes_on.same_tells before.goes_on.same_refuses c.in_ok-step.ensures.steps in
    let full : 2 ^ 32 ≤ n + 1 = at_least (n + 1) (2 ^ 32) c.in-None.ensures in
    let last = pass_goes_on c.args.pass (P.tells old) (P.refuses old) (P.refusals old) (T c.args.links.now) c.args.self.now (P.refusals between) (P.refusals c.step.new.patterns) c.loop-number.from (T c.loop-number.links) c.loop-number.self before.passes n c.in-Some.ensures.first (T c.step.new.links) c.step.new.self (n + 1) c.in-Some.ensures.later (omega arith) c.in_ok-step.ensures.drains takes in
    λ ready. pass_full c.args.pass (P.tells old) (P.refuses old) (P.refusals old) (T c.args.links.now) c.args.self.now (P.refusals c.step.new.patterns) (P.refusals c.step.new.patterns) (n + 1) (T c.step.new.links) c.step.new.self last ready full

pub returns-clause-calls : goal.returns-clause-calls
returns-clause-calls g c = passed g.N.Links c.args.links.now c.loop-number.links (Visit c.args.pass) c.loop-number.from c.loop-number.invariant.bound c.loop-number.invariant.calls

pub returns-clause-passes : goal.returns-clause-passes
returns-clause-passes g c =
    let P = g.P.Patterns in
    let T = g.N.Links.trace in
    let old = c.args.patterns.now in
    let between = c.loop-number.patterns in
    λ ready. pass_ends c.args.pass (P.tells old) (P.refuses old) (P.refusals old) (T c.args.links.now) c.args.self.now (P.refusals between) (P.refusals between) c.loop-number.from (T c.loop-number.links) c.loop-number.self c.loop-number.invariant.passes ready
    c.in_default.ensures.first
