use Rattle.std.proofs.Common.{Some, None}
use Rattle.feed_history.specs.KnownPatterns.{known_over}
use Rattle.fed_hub.proofs.LineAnswers.{IfOk-weaker, event_called}
use Rattle.fed_hub.proofs.hub.FedHub.apply.Goals as goal

pub returns-in-None-clause-takes : goal.returns-in-None-clause-takes
returns-in-None-clause-takes g c =
    let end = c.call.new in
    let calls = rw c.in-None.is at c.in_ok-call.ensures.calls in
    let due = rw c.in-None.is at c.in_ok-call.ensures.due in
    IfOk-weaker c.accepted.result _ _ (λ item is.
    event_called (known_over g.P.Patterns c.args.patterns.now end.patterns) c.call.ensures.goes_on.later c.args.number c.args.self.now end.self
    (record { config = c.call.ensures.config; requests = c.call.ensures.requests; stopped = c.call.ensures.stopped })
    c.args.line c.requires.event None calls.0 calls.1 c.new-text.result.items end.text.items item is calls.2 due) c.accepted.ensures.item

pub returns-clause-takes : goal.returns-clause-takes
returns-clause-takes g c =
    let end = c.call.new in
    let calls = rw c.in-Some.is at c.in_ok-call.ensures.calls in
    let due = rw c.in-Some.is at c.in_ok-call.ensures.due in
    IfOk-weaker c.refused.result _ _ (λ item is.
    event_called (known_over g.P.Patterns c.args.patterns.now end.patterns) c.call.ensures.goes_on.later c.args.number c.args.self.now end.self
    (record { config = c.call.ensures.config; requests = c.call.ensures.requests; stopped = c.call.ensures.stopped })
    c.args.line c.requires.event (Some c.in-Some.refusal) calls.0 calls.1 c.new-text.result.items end.text.items item is calls.2 due) c.refused.ensures.item
