use Rattle.net_cidr.proofs.Rounds.{each_round}
use Rattle.net_cidr.proofs.laws.each_net_is_round.Goals as goal

pub returns : goal.returns
returns c = each_round
