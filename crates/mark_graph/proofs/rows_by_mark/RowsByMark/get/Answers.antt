use Rattle.std.proofs.Common.{◌∙◌}
use Rattle.mark_graph.proofs.Hashed.{found}
use Rattle.mark_graph.proofs.rows_by_mark.RowsByMark.get.Goals as goal

pub returns : goal.returns
returns g c = c.get.ensures.value ∙ found g.M.PartialEq.eq g.M.Ord.cmp g.met.M.Ord.matches_eq c.args.self.now.by_hash c.args.mark.now
