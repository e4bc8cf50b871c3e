use Rattle.std.proofs.Common.{List, ℕ, Some, None, ap, subst, sym}
use Rattle.feed_history.specs.KnownPatterns.{known_over}
use Rattle.mesh_hub.specs.Hub.{state_of}
use Rattle.fed_hub.specs.LineSteps.{HasByte}
use Rattle.fed_hub.proofs.LineAnswers.{IfOk-weaker, verdict_called, verdict_wrote}
use Rattle.fed_hub.proofs.hub.FedHub.simulate.Goals as goal

pub returns-in-None-clause-takes : goal.returns-in-None-clause-takes
returns-in-None-clause-takes g c =
    let end = c.call.new in
    let calls = rw c.in-None.is at c.in_ok-call.ensures.calls in
    let due = rw c.in-None.is at c.in_ok-call.ensures.due in
    verdict_called (known_over g.P.Patterns c.args.patterns.now end.patterns) c.call.ensures.goes_on.later c.args.number c.args.self.now end.self
    (record { config = c.call.ensures.config; requests = c.call.ensures.requests; stopped = c.call.ensures.stopped })
    c.args.line c.requires.verdict None calls.0 calls.1 c.new-text.result.items end.text.items (Some c.from_vec.result) c.new-text.ensures.items (ap (λ (text : List ℕ). Some text) c.from_vec.ensures) calls.2 due

pub returns-in-None-clause-some : goal.returns-in-None-clause-some
returns-in-None-clause-some g c =
    let end = c.call.new in
    let calls = rw c.in-None.is at c.in_ok-call.ensures.calls in
    subst HasByte (sym c.from_vec.ensures) (verdict_wrote (known_over g.P.Patterns c.args.patterns.now end.patterns) c.args.number c.args.line c.requires.verdict calls.0 calls.1 c.new-text.result.items end.text.items (state_of c.args.self.now.hub) (state_of end.self.hub) c.new-text.ensures.items calls.2)

pub returns-in-Some-clause-takes : goal.returns-in-Some-clause-takes
returns-in-Some-clause-takes g c =
    let end = c.call.new in
    let calls = rw c.in-Some.is at c.in_ok-call.ensures.calls in
    let due = rw c.in-Some.is at c.in_ok-call.ensures.due in
    IfOk-weaker c.refused.result _ _ (λ item is.
    verdict_called (known_over g.P.Patterns c.args.patterns.now end.patterns) c.call.ensures.goes_on.later c.args.number c.args.self.now end.self
    (record { config = c.call.ensures.config; requests = c.call.ensures.requests; stopped = c.call.ensures.stopped })
    c.args.line c.requires.verdict (Some c.in-Some.refusal) calls.0 calls.1 c.new-text.result.items end.text.items item c.new-text.ensures.items is calls.2 due) c.refused.ensures.item
