use Rattle.request_sim.proofs.Nets.{block_holds_is}
use Rattle.request_sim.proofs.admits.block_holds.Goals as goal

pub returns : goal.returns
returns c = block_holds_is c.block_holds_decides.ensures c.holds.result c.args.block.now c.args.ip c.holds.ensures
