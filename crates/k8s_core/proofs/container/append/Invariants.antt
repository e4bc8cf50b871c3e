use Rattle.std.proofs.Common.{◌≡◌, ◌++◌}
use Rattle.k8s_core.proofs.container.append.Given as goal

abbrev pub invariant-loop-item : goal.invariant-loop-item
invariant-loop-item g l = l.items ++ l.item-iterator.rest.items ≡ l.fn.items ++ l.fn.more
