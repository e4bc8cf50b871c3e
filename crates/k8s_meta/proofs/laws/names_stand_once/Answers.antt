use Rattle.k8s_meta.proofs.LabelLaws.{ascending_once}
use Rattle.k8s_meta.proofs.laws.names_stand_once.Goals as goal

pub returns : goal.returns
returns c = ascending_once c.args.members.now.entries c.len.ensures.ordered
