use Rattle.row_table.proofs.Users.{ok_then}
use Rattle.row_table.proofs.Watched.{added}
use Rattle.row_table.proofs.watched_marks.WatchedMarks.add.Goals as goal

pub returns : goal.returns
returns c = ok_then c.insert.result c.insert.ensures.put (λ put marks. added c.args.self.now c.args.number c.insert.new.self marks put)
