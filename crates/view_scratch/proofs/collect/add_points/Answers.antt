use Rattle.mark_rules.proofs.Counts.{cost_steps, cost_stops}
use Rattle.mark_rules.specs.Reads.{point_marks}
use Rattle.view_rules.specs.PodRows.{row_for}
use Rattle.view_scratch.specs.Parts.{rows_of_point}
use Rattle.view_scratch.proofs.Found.{flat_more}
use Rattle.view_scratch.proofs.collect.add_points.Goals as goal

pub loop-point-preserved : goal.loop-point-preserved
loop-point-preserved g c = record {
  rows = flat_more (rows_of_point (row_for c.args.from.now.config.now c.args.from.now.store.now.objects) c.args.numbers.now) c.args.rows.now c.loop-point.rows c.add_point.new.rows c.args.points.now c.loop-point.point-index c.point-item.result
      c.loop-point-test.true c.point-item.is c.loop-point.invariant.rows c.in_ok-add_point.ensures.rows;
  steps = cost_steps c.args.from.now.store.now.objects point_marks c.args.points.now c.loop-point.point-index c.point-item.result c.args.steps.now c.loop-point.steps c.add_point.new.steps
      c.loop-point-test.true c.point-item.is c.loop-point.invariant.steps c.add_point.ensures.steps;
}

pub returns-in_err-add_point-clause-steps : goal.returns-in_err-add_point-clause-steps
returns-in_err-add_point-clause-steps g c =
    cost_stops c.args.from.now.store.now.objects point_marks c.args.points.now c.loop-point.point-index c.point-item.result c.args.steps.now c.loop-point.steps c.add_point.new.steps
    c.loop-point-test.true c.point-item.is c.loop-point.invariant.steps c.add_point.ensures.steps
