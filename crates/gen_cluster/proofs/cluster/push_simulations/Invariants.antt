use Rattle.std.proofs.Common.{◌≡◌, ◌++◌}
use Rattle.std.specs.Prelude.{flat_map}
use Rattle.std.specs.List.{filter}
use Rattle.gen_cluster.specs.Generated.{below, simulate_line, is_divisible_by}
use Rattle.gen_cluster.proofs.cluster.push_simulations.Given as goal

abbrev pub invariant-loop-i : goal.invariant-loop-i
invariant-loop-i l = l.out ≡ l.fn.out ++ flat_map simulate_line (filter (is_divisible_by 4) (below l.i))
