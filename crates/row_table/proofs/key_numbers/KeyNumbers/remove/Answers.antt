use Rattle.std.proofs.Common.{None}
use Rattle.mark_graph.proofs.Hashed.{put_by}
use Rattle.row_table.proofs.key_numbers.KeyNumbers.remove.Goals as goal

pub returns : goal.returns
returns g c = put_by g.K.PartialEq.eq g.K.Ord.cmp g.met.K.Ord.matches_eq g.met.K.Ord.total c.args.key.now None c.args.self.now.by_hash c.remove.new.self c.remove.ensures.updates
