use Rattle.std.proofs.Common.{ℕ, List, [], ap}
use Rattle.proto_wire.specs.Unframing.{Held}
use Rattle.session_core.proofs.StateSteps.{to_request}
use Rattle.session_core.proofs.steps.begin.Goals as goal

pub returns-in-Asks : goal.returns-in-Asks
returns-in-Asks c given next b =
    let begun = rw c.in-Asks.is at b in
    let held = c.new-frames.ensures.held in
    let none : List ℕ = [] in
    c.ask_on.ensures c.args.limits.now given next none (ap (λ (h : Held). h.part) held) (ap (λ (h : Held). h.limit) held) (to_request c.args.config.now c.args.limits.now given next c.in-Asks.method c.args.rest.now begun)
