use Rattle.std.proofs.Common.{refl}
use Rattle.session_core.specs.Phases.{Opening, Asking, Asked}
use Rattle.session_core.proofs.StateSteps.{ended_end, opens_phase}
use Rattle.session_core.proofs.steps.end.Goals as goal

pub returns-in-Opening-clause-steps : goal.returns-in-Opening-clause-steps
returns-in-Opening-clause-steps c config given keeps =
    let o = rw c.in-Opening.is at keeps in
    c.end_one.ensures config c.args.limits.now given Opening o.live (opens_phase config c.args.limits.now given _ o) refl

pub returns-in-Asking-clause-steps : goal.returns-in-Asking-clause-steps
returns-in-Asking-clause-steps c config given keeps =
    let a = rw c.in-Asking.is at keeps in
    c.end_one-in-Asking.ensures config c.args.limits.now given Asking a.live a.phase refl

pub returns-in-Asked-clause-steps : goal.returns-in-Asked-clause-steps
returns-in-Asked-clause-steps c config given keeps =
    let a = rw c.in-Asked.is at keeps in
    c.end_one-in-Asked.ensures config c.args.limits.now given (Asked a.query) a.live a.phase refl

pub returns-in-Ended-clause-steps : goal.returns-in-Ended-clause-steps
returns-in-Ended-clause-steps c config given keeps =
    let e = rw c.in-Ended.is at keeps in
    ended_end config c.args.limits.now given c.new.result e c.new.ensures
