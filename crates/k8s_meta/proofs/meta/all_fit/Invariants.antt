use Rattle.std.proofs.Common.{◌≡◌, drop}
use Rattle.k8s_meta.specs.Metadata.{all_fit}
use Rattle.k8s_meta.proofs.meta.all_fit.Given as goal

abbrev pub invariant-loop-at : goal.invariant-loop-at
invariant-loop-at l = all_fit l.form l.text ≡ all_fit (drop l.at l.form) (drop l.at l.text)
