use Rattle.std.proofs.Common.{◌≡◌}
use Rattle.std.specs.BTreeSet.{contains}
use Rattle.mark_graph.specs.RowMarks.{has_mark}
use Rattle.mark_graph.proofs.by_mark.set_of.Given as goal

-- the set has the marks so far
abbrev pub invariant-loop-mark : goal.invariant-loop-mark
invariant-loop-mark g l = (m : _) → contains g.M.Ord.cmp l.set m ≡ has_mark g.M.Ord.cmp l.yielded m
