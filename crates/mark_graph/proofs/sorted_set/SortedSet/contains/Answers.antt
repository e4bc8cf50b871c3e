use Rattle.std.proofs.Common.{◌∙◌}
use Rattle.mark_graph.proofs.Sorted.{found}
use Rattle.mark_graph.proofs.sorted_set.SortedSet.contains.Goals as goal

pub returns : goal.returns
returns g c =
    let hit = rw c.as_slice.ensures at c.place.ensures.hit in
    let gap = rw c.as_slice.ensures at c.place.ensures.gap in
    c.is_ok.ensures.value ∙ rw (← c.self.view_is) (found g.met.T.Ord.total _ c.self.invariant c.args.item.now c.place.result hit gap)
