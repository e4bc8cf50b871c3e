use Rattle.std.proofs.Common.{◌∙◌}
use Rattle.row_sets.proofs.Used.{takes_more}
use Rattle.row_sets.proofs.used_keys.UsedKeys.take_others.Goals as goal

pub loop-key-preserved : goal.loop-key-preserved
loop-key-preserved g c =
    let so_far = c.loop-key.invariant in
    let taken = c.take_unless.ensures in
    record {
      ids = takes_more g.I.Key.Ord.cmp g.met.I.Key.Ord.total g.met.I.RowIndex.exact c.args.self.now.by_key c.loop-key.self.by_key c.take_unless.new.self.by_key c.args.id c.args.old.now c.loop-key.key-index c.key-item.result c.loop-key-test.true c.key-item.is
          c.args.new.now so_far.ids taken.ids;
      in_use = λ held used. taken.in_use held (so_far.in_use held used);
      filter = taken.filter ∙ so_far.filter;
    }
