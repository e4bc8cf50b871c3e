use Rattle.std.proofs.Common.{◌≡◌, ◌++◌}
use Rattle.std.specs.Prelude.{flat_map}
use Rattle.gen_cluster.specs.Generated.{below, subscribe_lines}
use Rattle.gen_cluster.proofs.cluster.push_subscriptions.Given as goal

abbrev pub invariant-loop-i : goal.invariant-loop-i
invariant-loop-i l = l.out ≡ l.fn.out ++ flat_map subscribe_lines (below l.i)
