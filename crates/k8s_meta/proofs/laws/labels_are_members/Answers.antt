use Rattle.k8s_meta.proofs.LabelLaws.{labels_are_members}
use Rattle.k8s_meta.proofs.laws.labels_are_members.Goals as goal

pub returns : goal.returns
returns c = labels_are_members
