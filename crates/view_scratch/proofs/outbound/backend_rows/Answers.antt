use Rattle.mark_rules.proofs.Counts.{cost_stops}
use Rattle.mark_rules.specs.Reads.{backend_marks}
use Rattle.view_scratch.proofs.outbound.backend_rows.Goals as goal

pub returns-in_err-backend_row-clause-steps : goal.returns-in_err-backend_row-clause-steps
returns-in_err-backend_row-clause-steps g c =
    cost_stops c.args.from.now.store.now.objects backend_marks c.args.backends.now c.loop-backend.backend-index c.backend-item.result c.args.steps.now c.loop-backend.steps c.backend_row.new.steps
    c.loop-backend-test.true c.backend-item.is c.loop-backend.invariant.steps c.backend_row.ensures.steps

pub returns-in_err-add-clause-steps : goal.returns-in_err-add-clause-steps
returns-in_err-add-clause-steps g c =
    cost_stops c.args.from.now.store.now.objects backend_marks c.args.backends.now c.loop-backend.backend-index c.backend-item.result c.args.steps.now c.loop-backend.steps c.backend_row.new.steps
    c.loop-backend-test.true c.backend-item.is c.loop-backend.invariant.steps c.backend_row.ensures.steps
