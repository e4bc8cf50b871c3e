use Rattle.std.proofs.Common.{Some}
use Rattle.mark_graph.proofs.Hashed.{put_by}
use Rattle.mark_graph.proofs.rows_by_mark.RowsByMark.put.Goals as goal

pub returns : goal.returns
returns g c = put_by g.M.PartialEq.eq g.M.Ord.cmp g.met.M.Ord.matches_eq g.met.M.Ord.total c.args.mark (Some c.args.rows) c.args.self.now.by_hash c.insert.new.self c.in_ok-insert.ensures.updates
