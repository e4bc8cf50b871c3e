use Rattle.std.proofs.Common.{sym}
use Rattle.row_sets.proofs.Used.{left_in_use, still_in_use}
use Rattle.row_sets.proofs.used_keys.UsedKeys.take.Goals as goal

pub returns-then-not-take_one-clause-in_use : goal.returns-then-not-take_one-clause-in_use
returns-then-not-take_one-clause-in_use g c = λ held used.
    let self = c.args.self.now in
    left_in_use g.I.Key.Ord.cmp g.met.I.Key.Ord.total g.met.I.RowIndex.exact g.I.RowIndex.users g.I.RowIndex.stands held self.index c.leave.new.self self.by_key c.take_one.new.by c.args.id c.args.key.now used (c.take_one.ensures.kept used.each)
    c.take_one.ensures.taken (sym c.if-not-take_one.ensures.others) c.leave.ensures.users (c.leave.ensures.stands held used.rows)

pub returns-else-not-take_one-clause-in_use : goal.returns-else-not-take_one-clause-in_use
returns-else-not-take_one-clause-in_use g c = λ held used.
    let self = c.args.self.now in
    still_in_use g.I.Key.Ord.cmp g.met.I.Key.Ord.total g.met.I.RowIndex.exact g.I.RowIndex.users g.I.RowIndex.stands held self.index self.index self.by_key c.take_one.new.by c.args.id c.args.key.now used (c.take_one.ensures.kept used.each)
    c.take_one.ensures.taken (sym c.if-not-take_one.ensures.others)
