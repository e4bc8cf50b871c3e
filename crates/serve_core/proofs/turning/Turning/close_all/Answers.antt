use Rattle.std.proofs.Common.{◌+◌, ◌≤◌, ◌<◌, ◌^◌, ◌∙◌, ℕ, arith}
use Rattle.link_sessions.specs.Entries.{entries_of}
use Rattle.serve_core.specs.TurnCalls.{MayClose}
use Rattle.serve_core.proofs.CallSteps.{none_visited, passed, visited}
use Rattle.serve_core.proofs.ClosesAll.{close_begins, close_ends, close_full, close_goes_on, close_made}
use Rattle.serve_core.proofs.FedParts.{stays_here, stays_then}
use Rattle.serve_core.proofs.NoneLeft.{closed_first}
use Rattle.serve_core.proofs.turning.Turning.close_all.Goals as goal

at_least : (n most : ℕ) → (n < most → ⊥) → most ≤ n
at_least n most none = omega (arith, none)

pub loop-number-init : goal.loop-number-init
loop-number-init g c = record {
  bound = omega arith;
  calls = none_visited g.N.Links c.args.links.now MayClose 0;
  closes = close_begins (g.N.Links.trace c.args.links.now) c.args.self.now;
  fed = stays_here c.args.self.now;
  none = λ n below. absurd (omega arith);
}

pub loop-number-preserved : goal.loop-number-preserved
loop-number-preserved g c =
    let T = g.N.Links.trace in
    let before = c.loop-number.invariant in
    let from = c.loop-number.from in
    let number = c.in-Some.number in
    let after = c.in-Some-checked_add.after in
    record {
      bound = omega arith;
      calls = visited g.N.Links c.args.links.now c.loop-number.links c.close.new.links MayClose from number after c.in-Some.ensures.0 (omega (arith, c.in-Some-checked_add.ensures)) before.calls c.close.ensures.calls;
      closes = close_goes_on (T c.args.links.now) c.args.self.now from (T c.loop-number.links) c.loop-number.self before.closes number after (T c.close.new.links) c.close.new.self c.in-Some.ensures (omega (arith, c.in-Some-checked_add.ensures)) c.close.ensures.closes;
      fed = stays_then c.args.self.now c.loop-number.self c.close.new.self before.fed c.close.ensures.fed;
      none = closed_first from number (entries_of c.loop-number.self.kept) (entries_of c.close.new.self.kept) before.none c.in-Some.ensures c.close.ensures.leaves after (omega (arith, c.in-Some-checked_add.ensures));
    }

pub returns-in-None-clause-calls : goal.returns-in-None-clause-calls
returns-in-None-clause-calls g c =
    visited g.N.Links c.args.links.now c.loop-number.links c.close.new.links MayClose c.loop-number.from c.in-Some.number (2 ^ 32) c.in-Some.ensures.0 (omega arith) c.loop-number.invariant.calls c.close.ensures.calls

pub returns-in-None-clause-closes : goal.returns-in-None-clause-closes
returns-in-None-clause-closes g c =
    let T = g.N.Links.trace in
    let before = c.loop-number.invariant in
    let from = c.loop-number.from in
    let number = c.in-Some.number in
    let old = c.args.self.now in
    let new = c.close.new.self in
    let full : 2 ^ 32 ≤ number + 1 = at_least (number + 1) (2 ^ 32) c.in-None.ensures in
    let last = close_goes_on (T c.args.links.now) old from (T c.loop-number.links) c.loop-number.self before.closes number (number + 1) (T c.close.new.links) new c.in-Some.ensures (omega arith) c.close.ensures.closes in
    let all = visited g.N.Links c.args.links.now c.loop-number.links c.close.new.links MayClose from number (2 ^ 32) c.in-Some.ensures.0 (omega arith) before.calls c.close.ensures.calls in
    λ tells refuses count.
    close_full (T c.args.links.now) old (number + 1) (T c.close.new.links) new last tells refuses count (stays_then old c.loop-number.self new before.fed c.close.ensures.fed)
    (λ trace told. let grown = all.grows trace told in close_made (T c.args.links.now) old (number + 1) (T c.close.new.links) new last trace grown.made grown.grew) full

pub returns-in-None-clause-none : goal.returns-in-None-clause-none
returns-in-None-clause-none g c =
    closed_first c.loop-number.from c.in-Some.number (entries_of c.loop-number.self.kept) (entries_of c.close.new.self.kept) c.loop-number.invariant.none c.in-Some.ensures c.close.ensures.leaves (2 ^ 32) (omega (arith, c.in-None.ensures))

pub returns-in-None-clause-stopped : goal.returns-in-None-clause-stopped
returns-in-None-clause-stopped g c = c.close.ensures.stopped ∙ c.loop-number.invariant.fed.stopped

pub returns-clause-calls : goal.returns-clause-calls
returns-clause-calls g c = passed g.N.Links c.args.links.now c.loop-number.links MayClose c.loop-number.from c.loop-number.invariant.bound c.loop-number.invariant.calls

pub returns-clause-closes : goal.returns-clause-closes
returns-clause-closes g c =
    let T = g.N.Links.trace in
    let before = c.loop-number.invariant in
    let old = c.args.self.now in
    let now = c.loop-number.self in
    λ tells refuses count.
    close_ends (T c.args.links.now) old c.loop-number.from (T c.loop-number.links) now before.closes tells refuses count before.fed
    (λ trace told. let grown = before.calls.grows trace told in close_made (T c.args.links.now) old c.loop-number.from (T c.loop-number.links) now before.closes trace grown.made grown.grew) c.in_default.ensures
