use Rattle.net_cidr.proofs.TextLaws.{one_meaning}
use Rattle.net_cidr.proofs.laws.each_text_has_one_meaning.Goals as goal

pub returns : goal.returns
returns c = one_meaning
