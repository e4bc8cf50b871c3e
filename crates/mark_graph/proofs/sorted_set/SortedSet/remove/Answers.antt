use Rattle.mark_graph.proofs.Sorted.{lacks_has, take_has, take_sorted}
use Rattle.mark_graph.proofs.sorted_set.SortedSet.remove.Goals as goal

pub invariant_of-self : goal.invariant_of-self
invariant_of-self g c =
    let hit = rw c.as_slice.ensures at c.in-Ok.ensures.hit in
    rw c.remove.ensures (take_sorted g.met.T.Ord.total _ c.self.invariant c.args.item.now c.in-Ok.at hit)

pub returns-in-Ok : goal.returns-in-Ok
returns-in-Ok g c = λ q.
    let hit = rw c.as_slice.ensures at c.in-Ok.ensures.hit in
    rw (c.remove.ensures, ← c.self.view_is) (take_has g.met.T.Ord.total _ c.self.invariant c.args.item.now c.in-Ok.at hit q)

pub returns-in-Err : goal.returns-in-Err
returns-in-Err g c = λ q.
    let gap = rw c.as_slice.ensures at c.in-Err.ensures.gap in
    rw (← c.self.view_is) (lacks_has g.met.T.Ord.total _ c.self.invariant c.args.item.now c.in-Err.field-0 gap q)
