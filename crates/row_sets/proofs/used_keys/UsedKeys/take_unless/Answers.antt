use Rattle.std.proofs.Common.{sym}
use Rattle.row_sets.proofs.Used.{kept_there, removed_there}
use Rattle.row_sets.proofs.used_keys.UsedKeys.take_unless.Goals as goal

pub returns-then-not-contains-clause-ids : goal.returns-then-not-contains-clause-ids
returns-then-not-contains-clause-ids g c =
    removed_there g.I.Key.Ord.cmp g.met.I.Key.Ord.total g.met.I.RowIndex.exact c.args.self.now.by_key c.take.new.self.by_key c.args.kept.now c.args.id c.args.key.now (sym c.if-not-contains.ensures) c.take.ensures.ids

pub returns-else-not-contains-clause-ids : goal.returns-else-not-contains-clause-ids
returns-else-not-contains-clause-ids g c =
    kept_there g.I.Key.Ord.cmp g.met.I.Key.Ord.total g.met.I.RowIndex.exact c.args.self.now.by_key c.args.self.now.by_key c.args.kept.now c.args.id c.args.key.now (sym c.if-not-contains.ensures)
