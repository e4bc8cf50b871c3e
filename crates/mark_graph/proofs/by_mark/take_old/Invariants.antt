use Rattle.std.proofs.Common.{◌≡◌, ◌&&◌, not, nat_eq, ℕ, take}
use Rattle.std.specs.BTreeSet.{contains}
use Rattle.mark_graph.specs.RowMarks.{AllHaveRows, has_mark, row_at}
use Rattle.mark_graph.proofs.by_mark.take_old.Given as goal

-- the row stands at none of the old ones of the marks so far
abbrev pub invariant-loop-mark : goal.invariant-loop-mark
invariant-loop-mark g l = ((m : _) (r : ℕ) → row_at g.M.Ord.cmp l.by m r ≡ (not ((has_mark g.M.Ord.cmp (take l.mark-index l.old.keys) m && not (contains g.M.Ord.cmp l.new m)) && nat_eq r l.row) && row_at g.M.Ord.cmp l.initial.by m r)) × (AllHaveRows g.M.Ord.cmp l.initial.by → AllHaveRows g.M.Ord.cmp l.by)
