use Rattle.std.proofs.Common.{Some}
use Rattle.mark_graph.proofs.Hashed.{put_by}
use Rattle.row_table.proofs.key_numbers.KeyNumbers.insert.Goals as goal

pub returns : goal.returns
returns g c = put_by g.K.PartialEq.eq g.K.Ord.cmp g.met.K.Ord.matches_eq g.met.K.Ord.total c.args.key (Some (record { number = c.args.number; users = 1 })) c.args.self.now.by_hash c.insert.new.self c.in_ok-insert.ensures.updates
