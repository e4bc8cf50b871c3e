use Rattle.std.proofs.Common.{◌≡◌, ◌++◌}
use Rattle.std.specs.Prelude.{flat_map}
use Rattle.std.specs.List.{filter}
use Rattle.gen_cluster.specs.Generated.{below, delete_line, is_divisible_by}
use Rattle.gen_cluster.proofs.cluster.push_deletions.Given as goal

abbrev pub invariant-loop-i : goal.invariant-loop-i
invariant-loop-i l = l.out ≡ l.fn.out ++ flat_map delete_line (filter (is_divisible_by 5) (below l.i))
