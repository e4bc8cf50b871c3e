use Rattle.std.proofs.Common.{rules, sym}
use Rattle.feed_history.specs.KnownPatterns.{known_over}
use Rattle.mesh_hub.specs.Hub.{state_of}
use Rattle.fed_hub.proofs.LineAnswers.{IfOk-weaker, some_live}
use Rattle.fed_hub.proofs.hub.FedHub.call.Goals as goal

pub returns-clause-calls : goal.returns-clause-calls
returns-clause-calls g c =
    let same_hub = sym c.call.ensures.same_hub in
    let same_patterns = sym c.call.ensures.same_patterns in
    let end = c.call.new.self in
    let made = IfOk-weaker c.call.result _ _ (λ refusal calls.
    some_live (known_over g.P.Patterns c.args.patterns.now end.patterns.now) c.args.number c.args.line refusal c.new-live.result end.live.now c.args.text.now.items c.call.new.out.items
    (state_of c.args.self.now.hub) (state_of end.hub.now) calls) c.call.ensures.state in
    search (rules, made, same_hub, same_patterns)
