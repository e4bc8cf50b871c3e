use Rattle.request_rules.proofs.Blocks.{block_holds_decides}
use Rattle.request_rules.proofs.laws.block_holds_decides.Goals as goal

pub returns : goal.returns
returns c = block_holds_decides
