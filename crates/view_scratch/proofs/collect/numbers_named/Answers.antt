use Rattle.view_scratch.specs.Parts.{number_at}
use Rattle.policy_rows.proofs.Steps.{gathers}
use Rattle.view_scratch.proofs.collect.numbers_named.Goals as goal

pub loop-port-preserved : goal.loop-port-preserved
loop-port-preserved c =
    gathers (number_at c.args.name.now) c.args.ports.now c.loop-port.port-index c.port-item.result c.loop-port.numbers c.add_number.new.numbers c.number_at.result
    c.loop-port-test.true c.port-item.is c.loop-port.invariant c.number_at.ensures c.in_ok-add_number.ensures
