use Rattle.std.proofs.Common.{◌≡◌, ◌++◌}
use Rattle.std.specs.Prelude.{flat_map}
use Rattle.gen_cluster.specs.Generated.{below, drain_line, get_id}
use Rattle.gen_cluster.proofs.cluster.push_drains.Given as goal

abbrev pub invariant-loop-i : goal.invariant-loop-i
invariant-loop-i l = l.out ≡ l.fn.out ++ flat_map (λ i. drain_line (get_id i)) (below l.i)
