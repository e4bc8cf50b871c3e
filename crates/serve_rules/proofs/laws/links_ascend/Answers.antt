use Rattle.serve_rules.proofs.LinkOrder.{links_ascend}
use Rattle.serve_rules.proofs.laws.links_ascend.Goals as goal

pub returns : goal.returns
returns c = links_ascend
