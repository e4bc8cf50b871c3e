use Rattle.request_sim.proofs.Nets.{net_holds_is}
use Rattle.request_sim.proofs.policy.net_holds.Goals as goal

pub returns : goal.returns
returns c = net_holds_is c.holds.result c.args.net.now c.args.ip c.holds.ensures
