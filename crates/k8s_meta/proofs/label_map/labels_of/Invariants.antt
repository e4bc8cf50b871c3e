use Rattle.k8s_meta.proofs.Maps.{SoFar}
use Rattle.k8s_meta.proofs.label_map.labels_of.Given as goal

abbrev pub invariant-loop-key : goal.invariant-loop-key
invariant-loop-key l = SoFar l.found l.key-iterator l.members.entries
