use Rattle.view_rules.specs.Inbound.{path_at}
use Rattle.policy_rows.proofs.Steps.{gathers}
use Rattle.policy_rows.proofs.probes.paths_at.Goals as goal

pub loop-probe-preserved : goal.loop-probe-preserved
loop-probe-preserved c =
    gathers (path_at c.args.port) c.args.probes.now c.loop-probe.probe-index c.probe-item.result c.loop-probe.paths c.add_path.new.paths c.in_ok-path.path
    c.loop-probe-test.true c.probe-item.is c.loop-probe.invariant c.in_ok-path.ensures c.in_ok-add_path.ensures
