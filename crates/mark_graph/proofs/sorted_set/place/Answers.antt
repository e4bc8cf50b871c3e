use Rattle.mesh_base.proofs.Places.{searched}
use Rattle.mark_graph.proofs.Sorted.{searchable}
use Rattle.mark_graph.proofs.sorted_set.place.Goals as goal

pub returns-clause-gap : goal.returns-clause-gap
returns-clause-gap g c =
    let facts = c.binary_search.ensures in
    (searched (λ other. g.T.Ord.cmp other c.args.item.now) c.args.items.now (searchable g.met.T.Ord.total c.args.items.now c.requires c.args.item.now) c.binary_search.result facts.bound facts.position).gap
