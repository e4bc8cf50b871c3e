use Rattle.row_table.proofs.Gathered.{gathers}
use Rattle.row_views.proofs.views.RowViews.numbers_of.Goals as goal

pub loop-key-preserved : goal.loop-key-preserved
loop-key-preserved g c =
    gathers (g.I.RowIndex.number_at c.args.self.now.index) c.args.keys.now c.loop-key.key-index c.key-item.result c.loop-key.numbers c.add_number.new.numbers c.number.result
    c.loop-key-test.true c.key-item.is c.loop-key.invariant c.number.ensures c.in_ok-add_number.ensures
