use Rattle.std.proofs.Common.{None}
use Rattle.mark_graph.proofs.Hashed.{put_by}
use Rattle.mark_graph.proofs.rows_by_mark.RowsByMark.remove.Goals as goal

pub returns : goal.returns
returns g c = put_by g.M.PartialEq.eq g.M.Ord.cmp g.met.M.Ord.matches_eq g.met.M.Ord.total c.args.mark.now None c.args.self.now.by_hash c.remove.new.self c.remove.ensures.updates
