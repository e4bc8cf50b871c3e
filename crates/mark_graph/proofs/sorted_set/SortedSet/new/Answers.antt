use Rattle.std.proofs.Common.{sym, subst}
use Rattle.std.specs.List.Sorted.{IsStrictlySortedBy}
use Rattle.mark_graph.proofs.Sorted.{none_sorted}
use Rattle.mark_graph.proofs.sorted_set.SortedSet.new.Goals as goal

pub invariant_of-result : goal.invariant_of-result
invariant_of-result g c = subst (IsStrictlySortedBy g.T.Ord.cmp) (sym c.new.ensures) (none_sorted g.T.Ord.cmp)
