use Rattle.mark_graph.proofs.Sorted.{had_has, put_has, put_sorted}
use Rattle.mark_graph.proofs.sorted_set.SortedSet.insert.Goals as goal

pub invariant_of-self : goal.invariant_of-self
invariant_of-self g c =
    let gap = rw c.as_slice.ensures at c.in-Err.ensures.gap in
    rw c.in_ok-insert-in-Err.ensures (put_sorted g.met.T.Ord.total _ c.self.invariant c.args.item c.in-Err.at gap)

pub returns-in-Ok-clause-put : goal.returns-in-Ok-clause-put
returns-in-Ok-clause-put g c = λ q.
    let hit = rw c.as_slice.ensures at c.in-Ok.ensures.hit in
    rw (← c.self.view_is) (had_has g.met.T.Ord.total _ c.self.invariant c.args.item c.in-Ok.field-0 hit q)

pub returns-in_ok-insert-in-Err-clause-put : goal.returns-in_ok-insert-in-Err-clause-put
returns-in_ok-insert-in-Err-clause-put g c = λ q.
    rw (c.in_ok-insert-in-Err.ensures, ← c.self.view_is) (put_has g.met.T.Ord.total _ c.self.invariant c.args.item c.in-Err.at q)
