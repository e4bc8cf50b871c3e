use Rattle.std.proofs.Common.{◌++◌, ap, ◌∙◌}
use Rattle.session_core.specs.Pieces.{given_next}
use Rattle.session_core.proofs.StateSteps.{asked_next, ended_next, fault_next, next_live, next_to_feed, next_to_request}
use Rattle.session_core.proofs.steps.more.Goals as goal

pub returns-in-Opening-clause-steps : goal.returns-in-Opening-clause-steps
returns-in-Opening-clause-steps c given keeps some =
    let o = rw c.in-Opening.is at keeps in
    let next = next_live given c.args.piece.now some o.live in
    c.open_on.ensures given (given_next given c.args.piece.now) o next.0 (next.1 ∙ ap (λ z. z ++ c.args.piece.now) o.bytes)

pub returns-in-Feeding-clause-steps : goal.returns-in-Feeding-clause-steps
returns-in-Feeding-clause-steps c given keeps some =
    let f = rw c.in-Feeding.is at keeps in
    c.feed_on.ensures c.args.config.now given (given_next given c.args.piece.now) f.text f.cuts (next_to_feed c.args.config.now c.args.limits.now given _ c.args.piece.now _ f some c.new.ensures)

pub returns-in-Asking-clause-steps : goal.returns-in-Asking-clause-steps
returns-in-Asking-clause-steps c given keeps some =
    let a = rw c.in-Asking.is at keeps in
    c.ask_on.ensures c.args.limits.now given (given_next given c.args.piece.now) a.rest a.held a.limit (next_to_request c.args.config.now c.args.limits.now given _ _ c.args.piece.now a some)

pub returns-in-Asked-clause-steps : goal.returns-in-Asked-clause-steps
returns-in-Asked-clause-steps c given keeps some = let a = rw c.in-Asked.is at keeps in asked_next c.args.config.now c.args.limits.now given c.args.piece.now a some

pub returns-in-Ended-clause-steps : goal.returns-in-Ended-clause-steps
returns-in-Ended-clause-steps c given keeps some = let e = rw c.in-Ended.is at keeps in ended_next c.args.config.now c.args.limits.now given c.args.piece.now c.new-in-Ended.result e some c.new-in-Ended.ensures

pub returns-in-Fault-clause-steps : goal.returns-in-Fault-clause-steps
returns-in-Fault-clause-steps c given keeps some = let h = rw c.in-Fault.is at keeps in fault_next c.args.config.now c.args.limits.now given c.args.piece.now c.in-Fault.fault some h
