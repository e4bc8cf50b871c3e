use Rattle.std.proofs.Common.{◌≡◌, drop}
use Rattle.mesh_outside.specs.Patterns.{is_among}
use Rattle.mesh_outside.proofs.patterns.is_refused.Given as goal

abbrev pub invariant-loop-text : goal.invariant-loop-text
invariant-loop-text l = is_among l.pattern (drop l.text-index l.refuse) ≡ is_among l.pattern l.refuse
